use Rattle.std.proofs.Common.{◌≡◌, ◌+◌, ◌-◌, length, refl, ◌∙◌, arith}
use Rattle.bus_line.specs.Due.{begun}
use Rattle.bus_line.specs.declared.line.Line.TheVariants.{Second}
use Rattle.bus_tap.specs.Arrival.{own, place_of}
use Rattle.bus_clocks.specs.Internal.ClockView.{clock_state}
use Rattle.bus_tap.proofs.LinesLemmas.{open-places}
use Rattle.bus_tap.proofs.LocatedLemmas.{none-is}
use Rattle.bus_clocks.proofs.PushLemmas.{lines_of, lines-after}
use Rattle.bus_clocks.proofs.analyser.TwoClockAnalyser.begun_second.Goals as goal

pub returns-in-Some : goal.returns-in-Some
returns-in-Some g c = λ xs reached.
    let inside = rw (← c.self.view_is) at reached in
    let at = open-places g.C.Check.check (lines_of (clock_state c.self.inside)) xs c.in-Some.field-0 c.place.result
    (lines-after inside) (rw (c.in-Some.is) at (c.begun.ensures.after (own Second xs) inside.second))
    c.place.ensures.value (omega (arith, c.place-place.ensures.value, c.place-place.ensures.fits)) in
    let first = c.open_span.ensures.first ∙ at.opened in
    let past : c.open_span.result.past
    ≡ c.self.inside.first.origin + (place_of xs (length (own Second xs) - 1) + 1) =
    omega (arith, c.open_span.ensures.past _ at.last at.fits) in
    rw (← c.self.view_is, at.begun_at, ← first, ← past) refl

pub returns-in-None : goal.returns-in-None
returns-in-None g c = λ xs reached.
    let inside = rw (← c.self.view_is) at reached in
    let none = none-is (λ k. c.self.inside.second.origin + k) (begun (own Second xs))
    (rw (c.in-None.is) at (c.begun.ensures.after (own Second xs) inside.second)) in
    rw none refl
