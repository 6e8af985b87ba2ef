use Rattle.std.proofs.Common.{◌≡◌, ◌+◌, ◌-◌, ◌^◌, refl, sym, ap, ◌∙◌, arith, min, if◌then◌else◌}
use Rattle.std.specs.Prelude.{nat_lt}
use Rattle.bus_tap.specs.Stopped.{on_time_until}
use Rattle.bus_line.specs.declared.line.Line.TheVariants.{First, Second}
use Rattle.bus_tap.proofs.StopLemmas.{push-stops, push-until, other-first, other-second, until-none, until-some}
use Rattle.bus_tap.proofs.stop.StopRule.push.Goals as goal
use Rattle.bus_tap.proofs.stop.StopRule.push.Goals.{then-self-eq0, else-self-eq0}

pub returns-in-First : goal.returns-in-First
returns-in-First c = λ bit.
    let self = c.args.self.now in
    let until : c.if-self-eq0.until
    ≡ (if nat_lt 0 self.most then min (c.args.sample + self.most) (2 ^ 64 - 1) else 2 ^ 64 - 1) =
    elim c.if-self-eq0.branch [
      | then-self-eq0 w ↦ w.until-is ∙ until-none self.most c.args.sample w.if-self-eq0.true
      | else-self-eq0 w ↦
          w.until-is ∙ (w.saturating_add-until.ensures ∙ until-some self.most c.args.sample w.if-self-eq0.false)
    ] in
    rw (c.in-First.is) (record {
      most = refl;
      after = λ ts after. record {
        first = until ∙ sym (push-until self.most c.args.sample First bit ts);
        second = after.second ∙ ap (on_time_until self.most) (sym (other-second c.args.sample bit ts));
      };
      stops = λ ts after. rw (after.first)
          (push-stops self.most c.args.sample First bit ts (omega (arith, c.ranges.sample.fits)));
    })

pub returns-in-Second : goal.returns-in-Second
returns-in-Second c = λ bit.
    let self = c.args.self.now in
    let until : c.if-self-eq0.until
    ≡ (if nat_lt 0 self.most then min (c.args.sample + self.most) (2 ^ 64 - 1) else 2 ^ 64 - 1) =
    elim c.if-self-eq0.branch [
      | then-self-eq0 w ↦ w.until-is ∙ until-none self.most c.args.sample w.if-self-eq0.true
      | else-self-eq0 w ↦
          w.until-is ∙ (w.saturating_add-until.ensures ∙ until-some self.most c.args.sample w.if-self-eq0.false)
    ] in
    rw (c.in-Second.is) (record {
      most = refl;
      after = λ ts after. record {
        first = after.first ∙ ap (on_time_until self.most) (sym (other-first c.args.sample bit ts));
        second = until ∙ sym (push-until self.most c.args.sample Second bit ts);
      };
      stops = λ ts after. rw (after.second)
          (push-stops self.most c.args.sample Second bit ts (omega (arith, c.ranges.sample.fits)));
    })
