use Rattle.std.proofs.Common.{◌≡◌, ◌+◌, ◌++◌, ◌∷◌, [], Some, None, refl, sym, ap, ◌∙◌, subst, arith}
use Rattle.std.proofs.Common.{append-nil, length-append}
use Rattle.arrayvec.specs.ArrayVec.{array_vec_len}
use Rattle.bus_text.proofs.PagesLemmas.{cut-short, cuts-more, pages-printed}
use Rattle.bus_pairing.specs.Shown.{found_on}
use Rattle.bus_calls.specs.Internal.Reporting.{IsOut}
use Rattle.bus_calls.specs.Internal.Watching.{printed}
use Rattle.bus_calls.proofs.ReportingLemmas.{counted-on, not-both, not-cut, not-none, still-cut}
use Rattle.bus_calls.specs.Internal.ReportingLaws.{few-within}
use Rattle.bus_calls.proofs.reporter.ReporterReportObserver.observe.Goals as goal

pub returns-in_default-clause-left : goal.returns-in_default-clause-left
returns-in_default-clause-left g c = λ more room.
    ((room.0.0 + 1, c.count.ensures.few room.0.0 room.0.1, omega (arith, room.0.2)), omega (arith, room.1))

pub returns-in-Err-clause-left : goal.returns-in-Err-clause-left
returns-in-Err-clause-left g c = λ more room.
    let same = c.in-Err.ensures.kept in (
      (room.0.0 + 1, c.count.ensures.few room.0.0 room.0.1, omega (arith, room.0.2)),
      omega (arith, room.1, ap (λ page. page.written + array_vec_len page.text) same),
    )

pub returns-clause-left : goal.returns-clause-left
returns-clause-left g c = λ more room. (
  (room.0.0 + 1, c.count.ensures.few room.0.0 room.0.1, omega (arith, room.0.2)),
  omega (arith, room.1, c.put.ensures.len, c.put.ensures.written, c.in_default-make_room.ensures.sum),
)

pub returns-in-Err-clause-observed : goal.returns-in-Err-clause-observed
returns-in-Err-clause-observed g c =
    let none : c.args.self.now.cut ≡ None = not-cut c.args.self.now.cut (c.if-is_some.ensures) in
    let same = c.in-Err.ensures.kept in
    record {
      printer = refl;
      out = λ start text so-far.
          let before = subst (λ cut. IsOut start (g.W.Write.contents c.args.w.now) c.args.self.now.page cut text) none
          so-far in
          let more = printed c.args.self.now.printer c.args.dictionary.now
          (found_on c.args.line c.args.octets.now c.args.seen_event.now ∷ []) in
          let short = cut-short start (g.W.Write.contents c.args.w.now) c.args.self.now.page.text
          c.args.self.now.page.written text c.in-Err.cut.sent before c.in-Err.ensures.short in (
            cuts-more start _ text more c.in-Err.cut.sent (c.in-Err.ensures.turned start text before),
            omega (arith, short, length-append text more),
          );
      stays = λ sent cut. absurd (not-both c.args.self.now.cut sent none cut);
      counted = λ all is whole. absurd (not-both (Some c.in-Err.cut) c.in-Err.cut whole refl);
      few = λ most few. c.count.ensures.few most few;
      octets = omega (arith, ap (λ page. page.written + array_vec_len page.text) same);
    }

pub returns-clause-observed : goal.returns-clause-observed
returns-clause-observed g c =
    let none : c.args.self.now.cut ≡ None = not-cut c.args.self.now.cut (c.if-is_some.ensures) in
    let seen = found_on c.args.line c.args.octets.now c.args.seen_event.now in
    record {
      printer = refl;
      out = λ start text so-far.
          let before = subst (λ cut. IsOut start (g.W.Write.contents c.args.w.now) c.args.self.now.page cut text) none
          so-far in
          subst (λ cut. IsOut start (g.W.Write.contents c.make_room.new.w) c.put.new.page cut
          (text ++ printed c.args.self.now.printer c.args.dictionary.now (seen ∷ []))) (sym none)
          (rw (c.in-Some.is)
          (pages-printed c.put.ensures (c.in_default-make_room.ensures.turned start text before)));
      stays = λ sent cut. cut;
      counted = λ all is whole. c.count.ensures.counted all c.args.octets.now is
          ∙ counted-on all c.args.line c.args.octets.now c.args.seen_event.now;
      few = λ most few. c.count.ensures.few most few;
      octets = omega (arith, c.put.ensures.len, c.put.ensures.written, c.in_default-make_room.ensures.sum);
    }

pub returns-then-is_some-clause-observed : goal.returns-then-is_some-clause-observed
returns-then-is_some-clause-observed g c =
    let cut = c.if-is_some.ensures in
    record {
      printer = refl;
      out = λ start text so-far. still-cut start _ c.args.self.now.page c.args.self.now.cut text _ cut so-far;
      stays = λ sent is. is;
      counted = λ all is none. absurd (not-none c.args.self.now.cut cut none);
      few = λ most few. few-within most (most + 1) c.args.self.now.summary (omega arith) few;
      octets = omega arith;
    }

pub returns-in_default-clause-observed : goal.returns-in_default-clause-observed
returns-in_default-clause-observed g c = record {
  printer = refl;
  out = λ start text so-far. rw (c.in_default.is, append-nil text) so-far;
  stays = λ sent cut. cut;
  counted = λ all is whole. c.count.ensures.counted all c.args.octets.now is
      ∙ counted-on all c.args.line c.args.octets.now c.args.seen_event.now;
  few = λ most few. c.count.ensures.few most few;
  octets = omega arith;
}
