use Rattle.std.proofs.Common.{◌≡◌, ◌≤◌, ℕ, slice_index, sym, ap, refl, ◌∙◌, arith}
use Rattle.std.proofs.lemmas.List.{get_or_past}
use Rattle.bus_bits.specs.Octet.{bits_of}
use Rattle.bus_bits.proofs.WordLemmas.{bits-first}
use Rattle.bus_bits.proofs.word.only.Goals as goal

pub returns : goal.returns
returns c =
    let none : (i : ℕ) → 1 ≤ i → 0 ≡ slice_index c.args.octets.now i =
    λ i past. sym (get_or_past c.args.octets.now i 0 (omega (arith, c.requires, past))) in
    ap (bits_of 64) c.from_le_bytes.ensures
    ∙ bits-first c.args.octets.now (slice_index c.args.octets.now 0) 0 0 0 0 0 0 0 refl (none 1 (omega arith))
    (none 2 (omega arith)) (none 3 (omega arith)) (none 4 (omega arith))
    (none 5 (omega arith)) (none 6 (omega arith)) (none 7 (omega arith)) (λ i. omega (arith, c.type_inv.octets i))
