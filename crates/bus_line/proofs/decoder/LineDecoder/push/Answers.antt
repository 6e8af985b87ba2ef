use Rattle.std.proofs.Common.{◌++◌, ℕ, refl, sym, ap, ◌∙◌, subst}
use Rattle.std.specs.Option.{option_to_list}
use Rattle.bus_line.specs.Due.{placed}
use Rattle.bus_line.specs.After.{FitsFrame}
use Rattle.bus_line.proofs.decoder.LineDecoder.push.Goals as goal

pub returns : goal.returns
returns g c =
    let old = c.args.self.now in
    let told = c.in_ok-event.ensures.advances.decides in (
      (
        refl,
        (λ e. tt),
        (
          record {
            after = told.leads.after;
            longest = told.leads.longest;
            origin = told.leads.origin;
            place = told.leads.place;
            held = c.lent.ensures.held;
          },
          tt,
        ),
      ),
      record {
        limit = c.in_ok-event.ensures.limit;
        answer = λ b stands. c.lent.ensures.shows ∙ c.in_ok-event.ensures.answer b stands;
        more = λ b stands.
            told.says b stands
            ∙ ap (λ o. placed old.origin old.longest b ++ option_to_list o) (sym c.lent.ensures.shows);
        fits = subst (λ (longest : ℕ). FitsFrame longest c.lent.result) told.leads.longest c.lent.ensures.fits;
        rests = tt;
      },
    )
