-- Captures of two lines.
use Rattle.std.proofs.Common.{◌≡◌, ℕ, ◌+◌, ◌*◌, Bool, List, [], ◌∷◌, length, zip, ap, ◌∙◌, arith}
use Rattle.std.proofs.lemmas.List.{length-map}
use mir.Val.{bool_byte}
use Rattle.bus_bits.specs.Bits.{bits_from}
use Rattle.bus_formats.specs.Packed.{packed_pair_capture, packed_pair_whole, pair_body, in_pairs, pair_head_fault}
use Rattle.bus_line.specs.LineReport.{firsts}
use Rattle.bus_calls.proofs.HeadedLemmas.{whole-bits}
use Rattle.bus_calls.proofs.OneLineLemmas.{bit-alone, no_body}

-- a pair alone, in an octet of either line
pub pair-alone : (x y : ℕ) (a b : Bool) → x ≡ bool_byte a → y ≡ bool_byte b →
    zip (bits_from (x ∷ []) 0 1) (bits_from (y ∷ []) 0 1) ≡ (a, b) ∷ []
pair-alone x y a b first second =
    ap (λ (c : List Bool). zip c (bits_from (y ∷ []) 0 1)) (bit-alone x a first)
    ∙ ap (zip (a ∷ [])) (bit-alone y b second)

-- as many pairs as each line has bits
pub placed-pairs : (place origin : ℕ) (ps : List (Bool × Bool)) → place ≡ origin + length (firsts ps) →
    place ≡ origin + length ps
placed-pairs place origin ps placed = omega (arith, placed, length-map ps (λ (p : Bool × Bool). p.0))

-- no octets after a head give no pairs
pub no_pair_body : (n : ℕ) → (pair_body n []).bits ≡ []
unfolding in_pairs
no_pair_body n = ap in_pairs (no_body (2 * n))

-- the end of the input adds no pair
pub same_pairs : (xs : List ℕ) → (packed_pair_whole xs).bits ≡ (packed_pair_capture xs).bits
unfolding packed_pair_whole packed_pair_capture
same_pairs xs = whole-bits (pair_head_fault xs) pair_body xs
