-- Packed captures of pairs, one octet more and any cut.
use Rattle.std.proofs.Common.{◌≡◌, ℕ, zero, suc, ◌+◌, ◌-◌, ◌*◌, ◌/◌, ◌%◌, ◌<◌, ◌≤◌, ◌==◌, min, inl, inr, Bool, true}
use Rattle.std.proofs.Common.{false, List, [], ◌∷◌, ◌++◌, length, map, take, drop, Some, refl, sym, ap, ◌∙◌, arith}
use Rattle.std.proofs.lemmas.List.{length-take, length-drop, take_all, drop_all}
use Rattle.std.specs.List.{list_any}
use Rattle.bus_bits.specs.Octet.{bits_of, bits_of_octets}
use Rattle.bus_formats.specs.Capture.{mark_pair, Capture, PairCapture, pad_bits, trailing, GrowsTo}
use Rattle.bus_formats.specs.Packed.{wanted, packed_body, in_pairs, pair_body, PackedAfter, PairsAfter}
use Rattle.bus_bits.proofs.CaseLemmas.{le_or_lt, same}
use Rattle.bus_bits.proofs.OctetLemmas.{length-bits, bits_of_eight}
use Rattle.bus_formats.proofs.TextBitsLemmas.{both_ones}
use Rattle.bus_formats.proofs.PackedLemmas.{pads, wanted-pads, wanted-bits, by_eights, packed-new, packed-trailing}
use Rattle.bus_formats.proofs.PackedLemmas.{packed-pad, packed-more, wholes-taken, body-grows}

-- ---- bits two by two

pub pairs-length : (d : List Bool) → length (in_pairs d) ≡ length d / 2
unfolding in_pairs
pairs-length [] = refl
pairs-length (a ∷ []) = refl
pairs-length (a ∷ b ∷ d) = omega (arith, pairs-length d)

pub pairs-append : (d e : List Bool) → length d % 2 ≡ 0 → in_pairs (d ++ e) ≡ in_pairs d ++ in_pairs e
unfolding in_pairs
pairs-append [] e even = refl
pairs-append (a ∷ []) e even = absurd (omega (arith, even))
pairs-append (a ∷ b ∷ d) e even = rw (pairs-append d e (omega (arith, even))) refl

-- the pairs of an octet, each bit by the division that reaches it
pub pairs_of_octet : (o : ℕ)
    → (o % 2 == 1, o / 2 % 2 == 1) ∷ (o / 4 % 2 == 1, o / 8 % 2 == 1) ∷ (o / 16 % 2 == 1, o / 32 % 2 == 1)
    ∷ (o / 64 % 2 == 1, o / 128 % 2 == 1) ∷ []
    ≡ in_pairs (bits_of 8 o)
unfolding in_pairs
pairs_of_octet o = ap in_pairs (bits_of_eight o)

-- the mark of a digit has the lowest bit of a number, and the next
digit_pair : (a b : ℕ) → b ≡ a / 2 → mark_pair (48 + a % 4) ≡ (a % 2 == 1, b % 2 == 1)
digit_pair a b half =
    both_ones ((48 + a % 4 - 48) % 2) (a % 2) ((48 + a % 4 - 48) / 2) (b % 2) (omega arith) (omega (arith, half))

pub four-marks : (o : ℕ) → in_pairs (bits_of 8 o)
    ≡ map (λ d. mark_pair (48 + d)) (o % 4 ∷ o / 4 % 4 ∷ o / 16 % 4 ∷ o / 64 % 4 ∷ [])
four-marks o =
    let first = digit_pair o (o / 2) refl in
    let second = digit_pair (o / 4) (o / 8) (omega arith) in
    let third = digit_pair (o / 16) (o / 32) (omega arith) in
    let fourth = digit_pair (o / 64) (o / 128) (omega arith) in
    sym (pairs_of_octet o) ∙ sym (four _ _ _ _ _ _ _ _ first second third fourth)
  where
    four : (p q r s t u v w : Bool × Bool) → p ≡ t → q ≡ u → r ≡ v → s ≡ w → p ∷ q ∷ r ∷ s ∷ [] ≡ t ∷ u ∷ v ∷ w ∷ []
    four p q r s t u v w first second third fourth = cc

double : (k : ℕ) → 2 * suc k ≡ suc (suc (2 * k))
double k = omega arith

pub pairs-take : (k : ℕ) (d : List Bool) → take k (in_pairs d) ≡ in_pairs (take (2 * k) d)
unfolding in_pairs
pairs-take zero d = refl
pairs-take (suc k) [] = rw (double k) refl
pairs-take (suc k) (a ∷ []) = rw (double k) refl
pairs-take (suc k) (a ∷ b ∷ d) = rw (double k, pairs-take k d) refl

-- as many pairs as are left, at most four, take as many bits of eight
pub used-take : (left : ℕ) (d : List Bool) → length d ≡ 8 → take (2 * min left 4) d ≡ take (2 * left) d
used-take left d eight = elim (le_or_lt left 4) [
  | inl few ↦ ap (λ (n : ℕ). take (2 * n) d) (omega (arith, few))
  | inr many ↦
      take_all (2 * min left 4) d (omega (arith, many, eight))
      ∙ sym (take_all (2 * left) d (omega (arith, many, eight)))
]

pub used-drop : (left : ℕ) (d : List Bool) → length d ≡ 8 → drop (2 * min left 4) d ≡ drop (2 * left) d
used-drop left d eight = elim (le_or_lt left 4) [
  | inl few ↦ ap (λ (n : ℕ). drop (2 * n) d) (omega (arith, few))
  | inr many ↦
      drop_all (2 * min left 4) d (omega (arith, many, eight))
      ∙ sym (drop_all (2 * left) d (omega (arith, many, eight)))
]

-- ---- the bits of a body of pairs

abbrev paired : Capture → PairCapture
paired c = record { bits = in_pairs c.bits; fault = c.fault }

-- they are even in number
even-wanted : (n : ℕ) (d : List Bool) → length d % 8 ≡ 0 → length (wanted (2 * n) d).bits % 2 ≡ 0
even-wanted n d whole = elim (same (pads (2 * n) d)) [
  | inl ones ↦ omega (
    arith,
    ap (λ (c : Capture). length c.bits) (wanted-pads (2 * n) d ones),
    length-take (2 * n / 8 * 8) d,
    whole,
  )
  | inr no-ones ↦ omega (arith, ap length (wanted-bits (2 * n) d no-ones), length-take (2 * n) d, whole)
]

pub even-body : (n : ℕ) (xs : List ℕ) → length (packed_body (2 * n) xs).bits % 2 ≡ 0
even-body n xs = even-wanted n (bits_of_octets xs) (by_eights xs)

paired-grows : (c d : Capture) → length c.bits % 2 ≡ 0 → GrowsTo c d → GrowsTo (paired c) (paired d)
paired-grows c d even grows = (
  in_pairs grows.0,
  ap in_pairs grows.1 ∙ pairs-append c.bits grows.0 even,
  λ f is. ap paired (grows.2 f is),
)

pub pair-body-grows : (n : ℕ) (xs ys : List ℕ) → GrowsTo (pair_body n xs) (pair_body n (xs ++ ys))
pair-body-grows n xs ys =
    paired-grows (packed_body (2 * n) xs) (packed_body (2 * n) (xs ++ ys)) (even-body n xs) (body-grows (2 * n) xs ys)

-- ---- a reader of the body

to-bits : (n : ℕ) (xs : List ℕ) (left : ℕ) → PairsAfter n xs left → PackedAfter (2 * n) xs (2 * left)
to-bits n xs left after = record {
  clean = after.clean;
  left_over = omega (arith, after.left_over, pairs-length (packed_body (2 * n) xs).bits, even-body n xs);
}

from-bits : (n : ℕ) (xs : List ℕ) (left bits : ℕ) → PackedAfter (2 * n) xs bits → bits ≡ 2 * left → PairsAfter n xs left
from-bits n xs left bits after twice = record {
  clean = after.clean;
  left_over = omega (arith, after.left_over, pairs-length (packed_body (2 * n) xs).bits, even-body n xs, twice);
}

pub pairs-new : (n : ℕ) → PairsAfter n [] n
pairs-new n = from-bits n [] n (2 * n) (packed-new (2 * n)) refl

pub pairs-trailing : (n : ℕ) (xs : List ℕ) (o : ℕ) → PairsAfter n xs 0
    → pair_body n (xs ++ o ∷ []) ≡ record { bits = (pair_body n xs).bits; fault = Some trailing }
pairs-trailing n xs o after = ap paired (packed-trailing (2 * n) xs o (to-bits n xs 0 after))

pub pairs-pad : (n : ℕ) (xs : List ℕ) (o left : ℕ) → PairsAfter n xs left → 0 < left
    → list_any (λ b. b) (drop (2 * left) (bits_of 8 o)) ≡ true
    → pair_body n (xs ++ o ∷ []) ≡ record { bits = (pair_body n xs).bits; fault = Some pad_bits }
pairs-pad n xs o left after some ones =
    ap paired (packed-pad (2 * n) xs o (2 * left) (to-bits n xs left after) (omega (arith, some)) ones)

-- a reader that tests the bits past those of `used` pairs, as many as are left or four
pub unused_ones : (left used o : ℕ) (bits : List Bool) → used ≡ min left 4 → bits ≡ bits_of 8 o
    → list_any (λ b. b) (take (8 - 2 * used) (drop (2 * used) bits)) ≡ list_any (λ b. b) (drop (2 * left) (bits_of 8 o))
unused_ones left used o bits fewest is =
    let d = bits_of 8 o in
    ap (λ (x : List Bool). list_any (λ b. b) (take (8 - 2 * used) (drop (2 * used) x))) is
    ∙ ap (list_any (λ b. b))
    (take_all (8 - 2 * used) (drop (2 * used) d) (omega (arith, length-drop (2 * used) d, length-bits 8 o)))
    ∙ ap (λ (k : ℕ). list_any (λ b. b) (drop (2 * k) d)) fewest
    ∙ ap (list_any (λ b. b)) (used-drop left d (length-bits 8 o))

-- and gives these
pub used_pairs : (left used o : ℕ) → used ≡ min left 4 →
    take used (in_pairs (bits_of 8 o)) ≡ in_pairs (take (2 * left) (bits_of 8 o))
used_pairs left used o fewest =
    let d = bits_of 8 o in
    pairs-take used d ∙ rw fewest (ap in_pairs (used-take left d (length-bits 8 o)))

pub pairs-more : (n : ℕ) (xs : List ℕ) (o left : ℕ) → PairsAfter n xs left → 0 < left
    → list_any (λ b. b) (drop (2 * left) (bits_of 8 o)) ≡ false
    → PairsAfter n (xs ++ o ∷ []) (left - 4)
    × ((pair_body n (xs ++ o ∷ [])).bits ≡ (pair_body n xs).bits ++ in_pairs (take (2 * left) (bits_of 8 o)))
pairs-more n xs o left after some no-ones =
    let taken = packed-more (2 * n) xs o (2 * left) (to-bits n xs left after) (omega (arith, some)) no-ones in (
      from-bits n (xs ++ o ∷ []) (left - 4) (2 * left - 8) taken.0 (omega arith),
      ap in_pairs taken.1 ∙ pairs-append (packed_body (2 * n) xs).bits (take (2 * left) (bits_of 8 o)) (even-body n xs),
    )

-- octets all of whose pairs are wanted
pub pairs-taken : (n : ℕ) (xs os : List ℕ) (left : ℕ) → PairsAfter n xs left → 4 * length os ≤ left
    → PairsAfter n (xs ++ os) (left - 4 * length os)
    × ((pair_body n (xs ++ os)).bits ≡ (pair_body n xs).bits ++ in_pairs (bits_of_octets os))
pairs-taken n xs os left after enough =
    let taken = wholes-taken (2 * n) xs os (2 * left) (to-bits n xs left after) (omega (arith, enough)) in (
      from-bits n (xs ++ os) (left - 4 * length os) (2 * left - 8 * length os) taken.0 (omega (arith, enough)),
      ap in_pairs taken.1 ∙ pairs-append (packed_body (2 * n) xs).bits (bits_of_octets os) (even-body n xs),
    )
