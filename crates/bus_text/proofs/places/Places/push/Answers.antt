use Rattle.std.proofs.Common.{arith, ap, ◌∷◌, [], length, decimal, length-append}
use Rattle.itoa.proofs.Decimal.{length_four}
use Rattle.bus_text.proofs.places.Places.push.Goals as goal

pub set_last_four-requires-clause-long : goal.set_last_four-requires-clause-long
set_last_four-requires-clause-long g c =
    let kept = c.self.invariant in
    let place = kept.0 in
    omega (
      arith,
      ap length c.as_mut_slice.ensures.value,
      ap length kept.4,
      length-append (decimal place) (32 ∷ []),
      length_four place kept.1 kept.2,
    )
