-- Bits of a text, packed into a block.
use Rattle.std.proofs.Common.{◌≡◌, ℕ, zero, suc, ◌+◌, ◌-◌, ◌*◌, ◌/◌, ◌%◌, ◌^◌, ◌<◌, ◌≤◌, Bool, true, false}
use Rattle.std.proofs.Common.{List, [], ◌∷◌, ◌++◌, length, take, drop, set, get_or, map, None, inl, inr, refl, sym, ap}
use Rattle.std.proofs.Common.{◌∙◌, subst, arith, append_assoc, append-nil, length-append}
use Rattle.std.specs.Prelude.{bit_and, bit_or, slice_index}
use Rattle.std.specs.Int.{w64, bit_at, to_le_bytes}
use Rattle.std.specs.Int.Bits.{or_shifted_r}
use Rattle.std.specs.List.{list_all}
use Rattle.std.proofs.lemmas.Bool.{and_from, cases_lt}
use Rattle.std.proofs.lemmas.Grind.{common_steps}
use Rattle.std.proofs.lemmas.Nat.{and_mask, mod_low, mul-add-lt, pow-add, shl_whole, shr-shr, shr_below, shr_high}
use Rattle.std.proofs.lemmas.List.{get_or-drop, get_or-set_same, get_or-take, length-drop, length-take, take-append-le}
use Rattle.std.proofs.lemmas.List.{take-map, take-set-le, take-take, take_all, take_more}
use Rattle.std.proofs.Math.Nat.{div-eq_of_lt}
use Rattle.std.proofs.Math.Seq.{take-append-add}
use Rattle.bus_bits.specs.Bits.{bits_from}
use Rattle.bus_bits.specs.Octet.{bits_of, bits_of_octets}
use Rattle.bus_formats.specs.Capture.{fault_by}
use Rattle.bus_bits.specs.Text.{is_space, marks_by}
use Rattle.bus_formats.specs.Internal.Packs.{IsPackedBy, packed_bits}
use Rattle.bus_formats.specs.declared.text_block.Packing.{Packing}
use Rattle.bus_bits.proofs.BitLemmas.{bits-in, bits-more}
use Rattle.bus_formats.proofs.EightBitsOfNineLemmas.{all_kept, marks_text, text-given}
use Rattle.bus_formats.proofs.GatherLemmas.{more-given, none-given}
use Rattle.bus_bits.proofs.OctetLemmas.{bits-front, bits-low, bits-split, bits_of_octets-append, bits_of_octets-push}
use Rattle.bus_formats.proofs.TextBitsLemmas.{values-more, space_read}
use Rattle.bus_bits.proofs.WordLemmas.{bits-octets}

-- ---- the octets of a number

abbrev octets_of : ℕ → ℕ → List ℕ
octets_of zero n = []
octets_of (suc k) n = octets_of k n ++ (n / 2 ^ (8 * k) % 256) ∷ []

length-octets_of : (k n : ℕ) → length (octets_of k n) ≡ k
length-octets_of zero n = refl
length-octets_of (suc k) n = length-append (octets_of k n) (n / 2 ^ (8 * k) % 256 ∷ [])
    ∙ omega (arith, length-octets_of k n)

octets-fewer : (k m n : ℕ) → k ≤ m → take k (octets_of m n) ≡ octets_of k n
octets-fewer k zero n fewer =
    let none : k ≡ 0 = omega (arith, fewer) in
    rw none refl
octets-fewer k (suc m) n fewer = elim (cases_lt m k) [
  | inl more ↦
      let last : k ≡ suc m = omega (arith, more, fewer) in
      rw last (take_all (suc m) (octets_of (suc m) n) (omega (arith, length-octets_of (suc m) n)))
  | inr within ↦
      take-append-le k (octets_of m n) (n / 2 ^ (8 * m) % 256 ∷ []) (omega (arith, length-octets_of m n, within))
      ∙ octets-fewer k m n (omega (arith, within))
]

octets-bits : (k n : ℕ) → bits_of_octets (octets_of k n) ≡ bits_of (8 * k) n
unfolding bits_of_octets bits_of
octets-bits zero n = refl
octets-bits (suc k) n =
    let count : 8 * suc k ≡ 8 * k + 8 = omega arith in
    bits_of_octets-push (octets_of k n) (n / 2 ^ (8 * k) % 256)
    ∙ rw (octets-bits k n, bits-low 8 (n / 2 ^ (8 * k)), count) (sym (bits-split (8 * k) 8 n))

le-octets : (n : ℕ) → to_le_bytes w64 n ≡ octets_of 8 n
le-octets n =
    let first : n % 256 ≡ n / 2 ^ (8 * 0) % 256 = omega arith in
    ap (λ (x : ℕ). x ∷ n / 256 % 256 ∷ n / 65536 % 256 ∷ n / 16777216 % 256 ∷ n / 4294967296 % 256
    ∷ n / 1099511627776 % 256 ∷ n / 281474976710656 % 256 ∷ n / 72057594037927936 % 256 ∷ []) first

-- the first octets of a number have its lowest bits
pub le-bits : (k n : ℕ) → k ≤ 8 → bits_of_octets (take k (to_le_bytes w64 n)) ≡ bits_of (8 * k) n
le-bits k n few = ap (λ (os : List ℕ). bits_of_octets (take k os)) (le-octets n)
    ∙ (ap bits_of_octets (octets-fewer k 8 n few) ∙ octets-bits k n)

-- ---- bits after others

-- what the machine joins
pub joined-is : (rest bits held count : ℕ) → rest < 2 ^ held → bits < 2 ^ count → held + count ≤ 64
    → bit_or rest (bits * 2 ^ held % 2 ^ 64) ≡ bits * 2 ^ held + rest
joined-is rest bits held count small below fits =
    rw (shl_whole bits count held 64 below (omega (arith, fits))) (or_shifted_r bits held rest small)

pub joined-bits : (rest bits held count : ℕ) → rest < 2 ^ held →
    bits_of (held + count) (bits * 2 ^ held + rest) ≡ bits_of held rest ++ bits_of count bits
joined-bits rest bits held count small =
    bits-split held count (bits * 2 ^ held + rest)
    ∙ (ap (λ (x : ℕ). bits_of held (bits * 2 ^ held + rest) ++ bits_of count x) (shr_high bits held rest small)
    ∙ ap (λ (z : List Bool). z ++ bits_of count bits)
    (sym (bits-low held (bits * 2 ^ held + rest)) ∙ ap (bits_of held) (mod_low bits held rest small)))

-- what fills no octet is small
pub rest-small : (rest bits held count joined : ℕ) → rest < 2 ^ held → bits < 2 ^ count →
    joined ≡ bits * 2 ^ held + rest
    → joined / 2 ^ ((held + count) / 8 * 8) < 2 ^ ((held + count) % 8)
rest-small rest bits held count joined small below is =
    let all : held + count ≡ (held + count) % 8 + (held + count) / 8 * 8 = omega arith in
    let sum : 2 ^ held * 2 ^ count ≡ 2 ^ (held + count) = sym (pow-add 2 held count) in
    let total : joined < 2 ^ (held + count) =
    rw (is, ← sum) (mul-add-lt bits (2 ^ held) rest (2 ^ count) below small) in
    shr_below joined ((held + count) % 8) ((held + count) / 8 * 8) (subst (λ (n : ℕ). joined < 2 ^ n) all total)

-- a block to which all octets of the joined bits were stored has both
pub put-bits : (block after : List ℕ) (at rest bits held count joined : ℕ) →
    take (at + 8) after ≡ take at block ++ to_le_bytes w64 joined → at ≤ length block
    → rest < 2 ^ held → held + count ≤ 64 → joined ≡ bits * 2 ^ held + rest
    → bits_of_octets (take (at + (held + count) / 8) after)
    ++ bits_of ((held + count) % 8) (joined / 2 ^ ((held + count) / 8 * 8))
    ≡ (bits_of_octets (take at block) ++ bits_of held rest) ++ bits_of count bits
put-bits block after at rest bits held count joined stored room small fits is =
    let k : ℕ = (held + count) / 8 in
    let few : k ≤ 8 = omega (arith, fits) in
    let turn : k * 8 ≡ 8 * k = omega arith in
    let all : held + count ≡ 8 * k + (held + count) % 8 = omega arith in
    let long : length (take at block) ≡ at = omega (arith, length-take at block, room) in
    let front : take (at + k) after ≡ take at block ++ take k (to_le_bytes w64 joined) =
    sym (take-take (at + k) (at + 8) after (omega (arith, few)))
    ∙ (ap (take (at + k)) stored
    ∙ (ap (λ (n : ℕ). take (n + k) (take at block ++ to_le_bytes w64 joined)) (sym long)
    ∙ take-append-add (take at block) (to_le_bytes w64 joined) k)) in
    let octets : bits_of_octets (take (at + k) after) ≡ bits_of_octets (take at block) ++ bits_of (8 * k) joined =
    ap bits_of_octets front
    ∙ (bits_of_octets-append (take at block) (take k (to_le_bytes w64 joined))
    ∙ ap (λ (z : List Bool). bits_of_octets (take at block) ++ z) (le-bits k joined few)) in
    let both : bits_of (8 * k) joined ++ bits_of ((held + count) % 8) (joined / 2 ^ (8 * k))
    ≡ bits_of held rest ++ bits_of count bits =
    sym (bits-split (8 * k) ((held + count) % 8) joined)
    ∙ rw (← all, is) (joined-bits rest bits held count small) in
    rw (turn, octets)
    (append_assoc (bits_of_octets (take at block)) (bits_of (8 * k) joined)
    (bits_of ((held + count) % 8) (joined / 2 ^ (8 * k)))
    ∙ rw both (sym (append_assoc (bits_of_octets (take at block)) (bits_of held rest) (bits_of count bits))))

-- the octet that is not full is stored at the end
pub bits-stored : (block : List ℕ) (p : Packing) → p.filled < length block → p.held < 8
    → packed_bits block p ≡ bits_from (set block p.filled p.rest) 0 (8 * p.filled + p.held)
bits-stored block p room few =
    let after : List ℕ = set block p.filled p.rest in
    let long : length (take p.filled block) ≡ p.filled = omega (arith, length-take p.filled block, room) in
    let count : 8 * p.filled ≡ 8 * length (take p.filled block) = omega (arith, long) in
    let same : take p.filled after ≡ take p.filled block = take-set-le p.filled block p.filled p.rest (omega arith) in
    let octets : bits_of_octets (take p.filled block) ≡ bits_from after 0 (8 * p.filled) =
    bits-octets (take p.filled block) after 0 0 (8 * p.filled) refl count
    (λ k below. rw (← same) (front-item after p.filled k (omega (arith, below, long)))) in
    let last : slice_index after p.filled / 2 ^ 0 ≡ p.rest =
    omega (arith, get_or-set_same block p.filled p.rest 0 room) in
    let rest : bits_of p.held p.rest ≡ bits_from after (0 + 8 * p.filled) p.held =
    ap (bits_of p.held) (sym last) ∙ bits-in after p.filled 0 (0 + 8 * p.filled) p.held (omega arith)
    (omega (arith, few)) in
    rw (octets, rest) (sym (bits-more after 0 (8 * p.filled) p.held))
  where
    front-item : (os : List ℕ) (n k : ℕ) → k < n → get_or (take n os) k 0 ≡ slice_index os (0 + k)
    front-item os n k below = grind (arith, common_steps)

-- ---- what octets of a text give

-- the first octets of which each is a bit
pub front-marks : (is_mark : ℕ → Bool) (k count n : ℕ) (xs : List ℕ) → count ≤ k → bits_of k n ≡ map is_mark xs →
    ((i : ℕ) → i < count → bit_at n i ≡ 1) → list_all is_mark (take count xs) ≡ true
unfolding bits_of
front-marks is_mark k zero n xs few is ones = refl
front-marks is_mark zero (suc count) n xs few is ones = absurd (omega (arith, few))
front-marks is_mark (suc k) (suc count) n [] few is ones = refl
front-marks is_mark (suc k) (suc count) n (x ∷ xs) few is ones =
    let one : n % 2 ≡ 1 = omega (arith, ones 0 (omega arith)) in
    let first : is_mark x ≡ true = sym (ap (λ (z : List Bool). get_or z 0 true) is) ∙ rw one refl in
    and_from (is_mark x) (list_all is_mark (take count xs)) first
    (front-marks is_mark k count (n / 2) xs (omega (arith, few)) (ap (drop 1) is)
    (λ i below. ap (λ (j : ℕ). j % 2) (shr-shr n 1 i ∙ ap (λ (j : ℕ). n / 2 ^ j) (omega arith))
    ∙ ones (i + 1) (omega (arith, below))))

-- more of the text is packed
pub packed-more : (is_mark value : ℕ → Bool) (text block after : List ℕ) (p q : Packing) (n : ℕ) (bits : List Bool) →
    IsPackedBy is_mark value text block p → q.taken ≡ p.taken + n
    → n ≤ length (take (length text - p.taken) (drop p.taken text)) → q.filled < length after → q.held < 8 →
    q.rest < 2 ^ q.held
    → packed_bits after q ≡ packed_bits block p ++ bits
    → ((ys : List ℕ) → fault_by is_mark ys ≡ None
    → (fault_by is_mark (ys ++ take n (take (length text - p.taken) (drop p.taken text))) ≡ None)
    × (map value (marks_by is_mark (ys ++ take n (take (length text - p.taken) (drop p.taken text))))
    ≡ map value (marks_by is_mark ys) ++ bits))
    → IsPackedBy is_mark value text after q
packed-more is_mark value text block after p q n bits before taken fits room few small are given = record {
  enough = omega (
    arith,
    taken,
    fits,
    before.enough,
    length-take (length text - p.taken) (drop p.taken text),
    length-drop p.taken text,
  );
  room = room;
  few = few;
  small = small;
  given = λ xs clean.
      subst (λ (m : ℕ). (fault_by is_mark (xs ++ take m text) ≡ None)
      × (map value (marks_by is_mark (xs ++ take m text)) ≡ map value (marks_by is_mark xs) ++ packed_bits after q))
      (sym taken)
      (more-given (λ (ys : List ℕ). map value (marks_by is_mark ys)) (fault_by is_mark) xs text p.taken n
      (packed_bits block p) bits (packed_bits after q) are (before.given xs clean) given);
}

-- no more bits are ones in a row from the lowest than a number has
pub ones-few : (k n t : ℕ) → n < 2 ^ k → ((i : ℕ) → i < t → bit_at n i ≡ 1) → t ≤ k
ones-few k n t small ones = elim (cases_lt k t) [
  | inl more ↦ absurd (omega (arith, ones k more, div-eq_of_lt small))
  | inr within ↦ within
]

-- the bits of the first of some octets, where all of these are bits
pub front-given : (is_mark value : ℕ → Bool) (os front : List ℕ) (k count ones : ℕ) (given : List Bool) →
    front ≡ take k os → count ≤ k → bits_of k ones ≡ map value front
    → list_all is_mark (take count front) ≡ true → given ≡ bits_of count ones → (ys : List ℕ)
    → fault_by is_mark ys ≡ None
    → (fault_by is_mark (ys ++ take count os) ≡ None)
    × (map value (marks_by is_mark (ys ++ take count os)) ≡ map value (marks_by is_mark ys) ++ given)
front-given is_mark value os front k count ones given same few is all are ys clean =
    let front-same : take count front ≡ take count os = ap (take count) same ∙ take-take count k os few in
    let marks : list_all is_mark (take count os) ≡ true = ap (list_all is_mark) (sym front-same) ∙ all in
    let bits : given ≡ map value (take count os) =
    are ∙ (sym (bits-front count k ones few)
    ∙ (ap (take count) is ∙ (take-map value count front ∙ ap (map value) front-same))) in
    text-given is_mark value os (take count os) count given (marks_text is_mark (take count os) marks)
    (all_kept is_mark (take count os) marks) bits ys clean

unmarked : (is_mark : ℕ → Bool) (k n : ℕ) (xs : List ℕ) → 1 ≤ k → bits_of k n ≡ map is_mark xs → bit_at n 0 ≡ 0 →
    is_mark (get_or xs 0 0) ≡ false
unfolding bits_of
unmarked is_mark zero n xs long is unset = absurd (omega (arith, long))
unmarked is_mark (suc k) n [] long is unset = absurd (omega (arith, ap length is))
unmarked is_mark (suc k) n (x ∷ xs) long is unset =
    let even : n % 2 ≡ 0 = omega (arith, unset) in
    sym (ap (λ (z : List Bool). get_or z 0 true) is) ∙ rw even refl

-- the octet at which no mark is 1 is no mark
pub first-none : (is_mark : ℕ → Bool) (k : ℕ) (text front : List ℕ) (at n : ℕ) → at < length text → 1 ≤ k →
    front ≡ take k (take (length text - at) (drop at text)) → bits_of k n ≡ map is_mark front
    → bit_at n 0 ≡ 0 → is_mark (slice_index text at) ≡ false
first-none is_mark k text front at n inside long same is none =
    let some : 0 < length text - at = omega (arith, inside) in
    let place : at + 0 ≡ at = omega arith in
    let item : get_or front 0 0 ≡ slice_index text at =
    ap (λ (os : List ℕ). get_or os 0 0) same
    ∙ (get_or-take k (take (length text - at) (drop at text)) 0 0 (omega (arith, long))
    ∙ (get_or-take (length text - at) (drop at text) 0 0 some
    ∙ (get_or-drop at text 0 0 ∙ ap (slice_index text) place))) in
    ap is_mark (sym item) ∙ unmarked is_mark k n front long is none

-- two halves are the whole
pub bits-halves : (block : List Bool) (n : ℕ) → (block ++ bits_of 32 (bit_and n 4294967295))
    ++ bits_of 32 (n / 4294967296) ≡ block ++ bits_of 64 n
bits-halves block n =
    append_assoc block (bits_of 32 (bit_and n 4294967295)) (bits_of 32 (n / 4294967296))
    ∙ rw (and_mask n 32, bits-low 32 n) (ap (λ (z : List Bool). block ++ z) (sym (bits-split 32 32 n)))

-- one octet more that is skipped
pub space-passed : (is_mark value : ℕ → Bool) → ((x : ℕ) → is_space x ≡ true → is_mark x ≡ false) →
    (text block : List ℕ) (p : Packing) → p.taken < length text → is_space (slice_index text p.taken) ≡ true →
    IsPackedBy is_mark value text block p → IsPackedBy is_mark value text block (record p { taken = p.taken + 1 })
space-passed is_mark value others text block p inside space packed = record {
  enough = omega (arith, inside);
  room = packed.room;
  few = packed.few;
  small = packed.small;
  given = λ xs clean.
      let x : ℕ = get_or text p.taken 0 in
      let before = packed.given xs clean in
      let more = values-more is_mark value (xs ++ take p.taken text) x before.0 (space_read is_mark x space) in
      let next : (xs ++ take p.taken text) ++ x ∷ [] ≡ xs ++ take (p.taken + 1) text =
      append_assoc xs (take p.taken text) (x ∷ [])
      ∙ ap (λ (z : List ℕ). xs ++ z) (sym (take_more text p.taken 0 inside)) in (
        subst (λ (z : List ℕ). fault_by is_mark z ≡ None) next more.0,
        ap (λ (z : List ℕ). map value (marks_by is_mark z)) (sym next)
            ∙ (more.1
            ∙ rw (others x space) (append-nil (map value (marks_by is_mark (xs ++ take p.taken text))) ∙ before.1)),
      );
}

no-bits : (block : List ℕ) → bits_of_octets (take 0 block) ++ bits_of 0 0 ≡ []
unfolding bits_of_octets bits_of
no-bits block = refl

-- nothing is packed at first
pub packed-none : (is_mark value : ℕ → Bool) (text block : List ℕ) → 1 ≤ length block →
    IsPackedBy is_mark value text block (record { taken = 0; filled = 0; rest = 0; held = 0 })
packed-none is_mark value text block room = record {
  enough = omega arith;
  room = omega (arith, room);
  few = omega arith;
  small = omega arith;
  given = λ xs clean. none-given (λ (ys : List ℕ). map value (marks_by is_mark ys)) (fault_by is_mark) xs text
      (packed_bits block (record { taken = 0; filled = 0; rest = 0; held = 0 })) (no-bits block) clean;
}
