use Rattle.std.proofs.Common.{◌≡◌, ◌+◌, ◌-◌, length, refl, ◌∙◌, arith}
use Rattle.bus_fcs.specs.Folded.{by_tables}
use Rattle.bus_line.specs.Due.{begun}
use Rattle.bus_line.specs.declared.line.Line.TheVariants.{Second}
use Rattle.bus_tap.specs.Arrival.{own, place_of}
use Rattle.bus_tap.proofs.LinesLemmas.{open-places}
use Rattle.bus_tap.proofs.LocatedLemmas.{none-is}
use Rattle.port1_c.specs.Clocks.{lines_told}
use Rattle.port1_c.proofs.clocks.Port1Clocks.open_second.Goals as goal

pub returns-in-Some : goal.returns-in-Some
returns-in-Some c = λ xs reached.
    let now = c.args.self.now in
    let at = open-places by_tables (lines_told now) xs c.in-Some.field-0 now.second.words.place reached
    (rw (c.in-Some.is) at (c.begun.ensures (own Second xs) reached.second)) refl
    c.requires.first.within.place_fits in
    let first = c.open_span.ensures.first ∙ at.opened in
    let past : c.open_span.result.past
    ≡ now.first.words.origin + (place_of xs (length (own Second xs) - 1) + 1) =
    omega (arith, c.open_span.ensures.past _ at.last at.fits) in
    rw (at.begun_at, ← first, ← past) refl

pub returns-in-None : goal.returns-in-None
returns-in-None c = λ xs reached.
    let none = none-is (λ k. c.args.self.now.second.words.origin + k) (begun (own Second xs))
    (rw (c.in-None.is) at (c.begun.ensures (own Second xs) reached.second)) in
    rw none refl
