use Rattle.std.proofs.Common.{◌≡◌, not, Bool, true, false, refl, ap, ◌∙◌}
use Rattle.std.specs.Bool.{beq}
use Rattle.bus_tap.proofs.OnesLemmas.{bit-not}
use Rattle.bus_tap.proofs.wires.levels.Goals as goal

inverted : (b : Bool) → not b ≡ not (beq b true)
inverted true = refl
inverted false = refl

pub returns-then-wire : goal.returns-then-wire
returns-then-wire g c = λ i inside.
    rw (c.in-Some.is, c.if-wire.true)
    (bit-not c.bits-word.result i c.bits-word.type_inv inside
    ∙ (ap not (c.bits-word.ensures i inside) ∙ inverted _))
