use Rattle.std.proofs.Common.{◌≡◌, ℕ, ◌/◌, ◌^◌, ◌<◌, ◌≤◌, refl, arith}
use Rattle.std.proofs.Math.Pow.{pow_mono}
use Rattle.std.proofs.lemmas.Nat.{div_below}
use Rattle.bus_tap.proofs.wires.bit.Goals as goal

-- a number has no bit above its last one
none-above : (n k : ℕ) → n < 2 ^ 64 → 64 ≤ k → n / 2 ^ k ≡ 0
none-above n k fits above =
    let wide : 2 ^ 64 ≤ 2 ^ k = pow_mono above in
    let some : 1 ≤ 2 ^ k = omega (arith, wide) in
    let less : n / 2 ^ k < 1 = div_below n (2 ^ k) 1 some (omega (arith, fits, wide)) in
    omega (arith, less)

pub returns-then-at-ge64 : goal.returns-then-at-ge64
returns-then-at-ge64 c = rw (none-above c.args.number c.args.at c.ranges.number.fits c.if-at-ge64.true) refl
