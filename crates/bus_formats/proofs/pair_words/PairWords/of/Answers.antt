use Rattle.std.proofs.Common.{◌≡◌, ◌<◌, ℕ, slice_index, ap, ◌∙◌, arith}
use Rattle.std.specs.Prelude.{bit_and}
use Rattle.std.proofs.lemmas.Nat.{and_mask}
use Rattle.bus_bits.specs.Octet.{bits_of}
use Rattle.bus_bits.proofs.OctetLemmas.{bits-low}
use Rattle.bus_formats.proofs.pair_words.PairWords.of.Goals as goal

kept : (n : ℕ) → (bits_of 32 (bit_and n 4294967295) ≡ bits_of 32 n) × (bit_and n 4294967295 < 4294967296)
kept n = (ap (bits_of 32) (and_mask n 32) ∙ bits-low 32 n, omega (arith, and_mask n 32))

pub returns-clause-pairs : goal.returns-clause-pairs
returns-clause-pairs c =
    let first = kept (slice_index c.parted-both.result.first 0) in
    let second = kept (slice_index c.parted-both.result.second 0) in
    rw (first.0, second.0) c.parted-both.ensures.low

pub returns-clause-few : goal.returns-clause-few
returns-clause-few c =
    ((kept (slice_index c.parted-both.result.first 0)).1, (kept (slice_index c.parted-both.result.second 0)).1)
