-- Octets as one number.
use Rattle.std.proofs.Common.{◌≡◌, ℕ, zero, suc, ◌+◌, ◌-◌, ◌*◌, ◌/◌, ◌%◌, ◌^◌, ◌<◌, ◌≤◌, Bool, List, [], ◌∷◌, ◌++◌}
use Rattle.std.proofs.Common.{length, take, drop, get_or, All, refl, sym, ap, ◌∙◌, arith}
use Rattle.std.specs.Prelude.{slice_index}
use Rattle.std.proofs.lemmas.List.{drop_at}
use Rattle.bus_bits.specs.Octet.{bits_of, bits_of_octets, number}
use Rattle.bus_bits.proofs.OctetLemmas.{bits_of_octets-cons, bits-split, bits-front, bits-low, length-bits, number-bits}
use Rattle.std.specs.Int.{w64, from_le_bytes}
use Rattle.bus_bits.specs.Bits.{bits_from}
use Rattle.bus_bits.proofs.BitLemmas.{bits-in, bits-more, bits-taken, length-from}

-- octets as one number, the first the lowest
unfoldable pub word : List ℕ → ℕ
word [] = 0
word (b ∷ bs) = word bs * 256 + b

pub word-eight : (bs : List ℕ) → length bs ≡ 8 → from_le_bytes w64 bs ≡ word bs
unfolding word
word-eight (s ∷ t ∷ u ∷ v ∷ w ∷ x ∷ y ∷ z ∷ []) eight = omega arith
word-eight (s ∷ t ∷ u ∷ v ∷ w ∷ x ∷ y ∷ z ∷ a ∷ b) eight = absurd (omega arith)
word-eight (s ∷ t ∷ u ∷ v ∷ w ∷ x ∷ y ∷ []) eight = absurd (omega arith)
word-eight (s ∷ t ∷ u ∷ v ∷ w ∷ x ∷ []) eight = absurd (omega arith)
word-eight (s ∷ t ∷ u ∷ v ∷ w ∷ []) eight = absurd (omega arith)
word-eight (s ∷ t ∷ u ∷ v ∷ []) eight = absurd (omega arith)
word-eight (s ∷ t ∷ u ∷ []) eight = absurd (omega arith)
word-eight (s ∷ t ∷ []) eight = absurd (omega arith)
word-eight (s ∷ []) eight = absurd (omega arith)
word-eight [] eight = absurd (omega arith)

-- the lowest bits of octets in one number are those of the first of them
pub word-front : (os rest : List ℕ) → All (λ o. o < 256) os →
    bits_of (8 * length os) (word (os ++ rest)) ≡ bits_of_octets os
unfolding word bits_of_octets bits_of
word-front [] rest small = refl
word-front (o ∷ os) rest small =
    let further = word (os ++ rest) in
    let size : 8 * length (o ∷ os) ≡ 8 + 8 * length os = omega arith in
    let one : o < 256 = small 0 0 (omega arith) in
    let low : (further * 256 + o) % 2 ^ 8 ≡ o = omega (arith, one) in
    let high : (further * 256 + o) / 2 ^ 8 ≡ further = omega (arith, one) in
    ap (λ (k : ℕ). bits_of k (further * 256 + o)) size ∙ bits-split 8 (8 * length os) (further * 256 + o)
    ∙ ap (λ (b : List Bool). b ++ bits_of (8 * length os) ((further * 256 + o) / 2 ^ 8))
    (sym (bits-low 8 (further * 256 + o)) ∙ ap (bits_of 8) low)
    ∙ rw (high, word-front os rest (λ i d inside. small (suc i) d (omega (arith, inside)))) refl

-- the bits of octets that stand among others
pub bits-octets : (os all : List ℕ) (q i n : ℕ) → i ≡ 8 * q → n ≡ 8 * length os →
    ((k : ℕ) → k < length os → get_or os k 0 ≡ slice_index all (q + k)) → bits_of_octets os ≡ bits_from all i n
unfolding bits_of_octets bits_from
bits-octets [] all q i n place count items = ap (bits_from all i) (sym count)
bits-octets (o ∷ os) all q i n place count items =
    let more : n ≡ 8 + 8 * length os = omega (arith, count) in
    let next : i + 8 ≡ 8 * (q + 1) = omega (arith, place) in
    let start : i ≡ 8 * q + 0 = omega (arith, place) in
    let first : o ≡ slice_index all q = items 0 (omega arith) ∙ ap (slice_index all) (omega arith) in
    let one : bits_of 8 o ≡ bits_from all i 8 = ap (bits_of 8) (first ∙ omega arith)
    ∙ bits-in all q 0 i 8 start (omega arith) in
    let rest : bits_of_octets os ≡ bits_from all (i + 8) (8 * length os) =
    bits-octets os all (q + 1) (i + 8) (8 * length os) next refl
    (λ k below. items (suc k) (omega (arith, below)) ∙ ap (slice_index all) (omega arith)) in
    bits_of_octets-cons o os ∙ rw (one, rest, more) (sym (bits-more all i 8 (8 * length os)))

-- some of a number's bits, where all of them are those of octets
module _ (n base : ℕ) (os : List ℕ) (is : bits_of 64 n ≡ bits_from os base 64) (shift : ℕ) where
  behind : (rest : ℕ) → 64 ≡ shift + rest → bits_of rest (n / 2 ^ shift) ≡ bits_from os (base + shift) rest
  behind rest sum =
      let split : bits_of shift n ++ bits_of rest (n / 2 ^ shift)
      ≡ bits_from os base shift ++ bits_from os (base + shift) rest =
      sym (bits-split shift rest n)
      ∙ rw (← sum) (is ∙ (ap (bits_from os base) sum ∙ bits-more os base shift rest)) in
      sym (drop_at (bits_of shift n) (bits_of rest (n / 2 ^ shift)) shift (length-bits shift n))
      ∙ (ap (drop shift) split
      ∙ drop_at (bits_from os base shift) (bits_from os (base + shift) rest) shift (length-from os base shift))

  pub bits-shifted : (i count m : ℕ) → i ≡ base + shift → shift + count ≤ 64 → m ≤ count →
      bits_of m (n / 2 ^ shift % 2 ^ count) ≡ bits_from os i m
  bits-shifted i count m place fits few =
      let rest : ℕ = 64 - shift in
      let inside : m ≤ rest = omega (arith, fits, few) in
      sym (bits-front m count (n / 2 ^ shift % 2 ^ count) few)
      ∙ (ap (take m) (bits-low count (n / 2 ^ shift)) ∙ (bits-front m count (n / 2 ^ shift) few
      ∙ (sym (bits-front m rest (n / 2 ^ shift) inside)
      ∙ (ap (take m) (behind rest (omega (arith, fits)))
      ∙ (bits-taken os (base + shift) rest m inside ∙ rw place refl)))))

-- eight octets
abbrev pub eight : List ℕ → ℕ → List ℕ
eight all q =
    slice_index all q ∷ slice_index all (q + 1) ∷ slice_index all (q + 2) ∷ slice_index all (q + 3)
    ∷ slice_index all (q + 4) ∷ slice_index all (q + 5)
    ∷ slice_index all (q + 6) ∷ slice_index all (q + 7) ∷ []

pub eight-items : (all : List ℕ) (q k : ℕ) → k < 8 → get_or (eight all q) k 0 ≡ slice_index all (q + k)
eight-items all q zero below = ap (slice_index all) (omega arith)
eight-items all q (suc zero) below = refl
eight-items all q (suc (suc zero)) below = refl
eight-items all q (suc (suc (suc zero))) below = refl
eight-items all q (suc (suc (suc (suc zero)))) below = refl
eight-items all q (suc (suc (suc (suc (suc zero))))) below = refl
eight-items all q (suc (suc (suc (suc (suc (suc zero)))))) below = refl
eight-items all q (suc (suc (suc (suc (suc (suc (suc zero))))))) below = refl
eight-items all q (suc (suc (suc (suc (suc (suc (suc (suc k)))))))) below = absurd (omega (arith, below))

pub eight-small : (all : List ℕ) (q : ℕ) → ((i : ℕ) → slice_index all i < 256) → All (λ o. o < 256) (eight all q)
eight-small all q small zero d below = small q
eight-small all q small (suc zero) d below = small (q + 1)
eight-small all q small (suc (suc zero)) d below = small (q + 2)
eight-small all q small (suc (suc (suc zero))) d below = small (q + 3)
eight-small all q small (suc (suc (suc (suc zero)))) d below = small (q + 4)
eight-small all q small (suc (suc (suc (suc (suc zero))))) d below = small (q + 5)
eight-small all q small (suc (suc (suc (suc (suc (suc zero)))))) d below = small (q + 6)
eight-small all q small (suc (suc (suc (suc (suc (suc (suc zero))))))) d below = small (q + 7)
eight-small all q small (suc (suc (suc (suc (suc (suc (suc (suc k)))))))) d below = absurd (omega (arith, below))

-- as one number they have the bits of the octets
pub bits-eight : (all : List ℕ) (q : ℕ) → ((i : ℕ) → slice_index all i < 256) →
    bits_of 64 (from_le_bytes w64 (eight all q)) ≡ bits_from all (8 * q) 64
bits-eight all q small =
    ap (bits_of 64) (word-eight (eight all q) refl)
    ∙ (word-front (eight all q) [] (eight-small all q small)
    ∙ bits-octets (eight all q) all q (8 * q) 64 refl refl (eight-items all q))

-- a number with the bits of eight octets is theirs
pub eight-is : (all : List ℕ) (q n : ℕ) → ((i : ℕ) → slice_index all i < 256) → n < 2 ^ 64 →
    bits_of 64 n ≡ bits_from all (8 * q) 64 → n ≡ word (eight all q)
unfolding word
eight-is all q n small fits is =
    let read : from_le_bytes w64 (eight all q) ≡ word (eight all q) = word-eight (eight all q) refl in
    sym (number-bits 64 n fits)
    ∙ (ap number (is ∙ sym (bits-eight all q small) ∙ ap (bits_of 64) read)
    ∙ number-bits 64 (word (eight all q)) (omega (
      arith,
      small q,
      small (q + 1),
      small (q + 2),
      small (q + 3),
      small (q + 4),
      small (q + 5),
      small (q + 6),
      small (q + 7),
    )))

-- likewise the first eight, each given by its value
pub bits-first : (all : List ℕ) (a b c d e f g h : ℕ) → a ≡ slice_index all 0 → b ≡ slice_index all 1 →
    c ≡ slice_index all 2 → d ≡ slice_index all 3 → e ≡ slice_index all 4 → f ≡ slice_index all 5 →
    g ≡ slice_index all 6 → h ≡ slice_index all 7 → ((i : ℕ) → slice_index all i < 256) →
    bits_of 64 (from_le_bytes w64 (a ∷ b ∷ c ∷ d ∷ e ∷ f ∷ g ∷ h ∷ [])) ≡ bits_from all 0 64
bits-first all a b c d e f g h ea eb ec ed ee ef eg eh small =
    rw (ea, eb, ec, ed, ee, ef, eg, eh) (bits-eight all 0 small)

-- all bits of octets
pub bits-whole : (os : List ℕ) → bits_of_octets os ≡ bits_from os 0 (8 * length os)
bits-whole os = bits-octets os os 0 0 (8 * length os) refl refl (λ k inside. ap (slice_index os) (omega arith))
