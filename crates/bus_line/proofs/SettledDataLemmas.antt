-- What masks show of a word: where bits stop, and which are inserted 0s.
use Rattle.std.proofs.Common.{◌≡◌, ◌≢◌, ℕ, ◌+◌, ◌-◌, ◌*◌, ◌/◌, ◌%◌, ◌^◌, ◌≤◌, ◌<◌, min, max, refl, sym, ap, ◌∙◌, arith}
use Rattle.std.proofs.Common.{bit_or, inl, inr}
use Rattle.std.specs.Prelude.{bit_and, ◌↔◌}
use Rattle.std.specs.Int.Bits.{and_step}
use Rattle.std.proofs.lemmas.Nat.{shr-shr, and_shr, one_shl, or_lt, and_le_r}
use Rattle.std.proofs.lemmas.Nat.Bits.{bit_at_and, bit_at_or, bit_at_not, bit_at-pow_same, bit_at-pow_other}
use Rattle.std.proofs.lemmas.Nat.Bits.{bit_at-trailing_zeros, bit_at-lt, bit_at-zero}
use Rattle.std.specs.Int.{bit_at, w64, trailing_zeros}
use Rattle.std.proofs.lemmas.Bool.{cases_lt}
use Rattle.bus_line.specs.Internal.Settled.{IsStop}

-- ---- where ones stand together

-- two ones, four, six, five and fourteen, by the lowest place of each run
abbrev pub two : ℕ → ℕ
two w = bit_and w (w / 2)

abbrev pub four : ℕ → ℕ
four w = bit_and (two w) (two w / 4)

abbrev pub six : ℕ → ℕ
six w = bit_and (four w) (two w / 16)

abbrev pub five : ℕ → ℕ
five w = bit_and (four w) (w / 16)

abbrev pub fourteen : ℕ → ℕ
fourteen w = bit_and (bit_and (six w) (four w / 64)) (four w / 1024)

-- two shifts in either order
shr-turn : (w j k : ℕ) → w / 2 ^ j / 2 ^ k ≡ w / 2 ^ k / 2 ^ j
shr-turn w j k = let sum : j + k ≡ k + j = omega arith in shr-shr w j k ∙ ap (λ (n : ℕ). w / 2 ^ n) sum
    ∙ sym (shr-shr w k j)

-- a shift moves the places
two-shr : (w k : ℕ) → two w / 2 ^ k ≡ two (w / 2 ^ k)
two-shr w k = and_shr w (w / 2) k ∙ ap (λ (x : ℕ). bit_and (w / 2 ^ k) x) (shr-turn w 1 k)

four-shr : (w k : ℕ) → four w / 2 ^ k ≡ four (w / 2 ^ k)
four-shr w k = and_shr (two w) (two w / 4) k ∙ rw (two-shr w k, shr-turn (two w) 2 k, two-shr w k) refl

pub six-shr : (w k : ℕ) → six w / 2 ^ k ≡ six (w / 2 ^ k)
six-shr w k = and_shr (four w) (two w / 16) k ∙ rw (four-shr w k, shr-turn (two w) 4 k, two-shr w k) refl

five-shr : (w k : ℕ) → five w / 2 ^ k ≡ five (w / 2 ^ k)
five-shr w k = and_shr (four w) (w / 16) k ∙ rw (four-shr w k, shr-turn w 4 k) refl

-- at the lowest place
and-low : (a b : ℕ) → bit_and a b % 2 ≡ min (a % 2) (b % 2)
and-low a b = omega (arith, and_step a b)

two-low : (w : ℕ) → two w % 2 ≡ min (w % 2) (w / 2 % 2)
two-low w = and-low w (w / 2)

four-low : (w : ℕ) → four w % 2 ≡ min (two w % 2) (two (w / 4) % 2)
four-low w = and-low (two w) (two w / 4) ∙ ap (λ (x : ℕ). min (two w % 2) (x % 2)) (two-shr w 2)

six-low : (w : ℕ) → six w % 2 ≡ min (four w % 2) (two (w / 16) % 2)
six-low w = and-low (four w) (two w / 16) ∙ ap (λ (x : ℕ). min (four w % 2) (x % 2)) (two-shr w 4)

-- four, six, five and fourteen ones
four-ones : (w : ℕ) → (four w % 2 ≡ 1 → w % 16 ≡ 15) × (w % 16 ≡ 15 → four w % 2 ≡ 1)
four-ones w =
    let four-bits = four-low w in
    let first = two-low w in
    let second = two-low (w / 4) in
    ((λ is. omega (arith, four-bits, first, second, is)), λ ones. omega (arith, four-bits, first, second, ones))

pub six-ones : (w : ℕ) → (six w % 2 ≡ 1 → w % 64 ≡ 63) × (w % 64 ≡ 63 → six w % 2 ≡ 1)
six-ones w =
    let six-bits = six-low w in
    let four-bits = four-low w in
    let first = two-low w in
    let second = two-low (w / 4) in
    let third = two-low (w / 16) in
    ((λ is. omega arith), λ ones. omega arith)

five-ones : (w : ℕ) → (five w % 2 ≡ 1 → w % 32 ≡ 31) × (w % 32 ≡ 31 → five w % 2 ≡ 1)
five-ones w =
    let five-bits = and-low (four w) (w / 16) in
    let four-bits = four-low w in
    let first = two-low w in
    let second = two-low (w / 4) in
    ((λ is. omega arith), λ ones. omega arith)

fourteen-low : (w : ℕ) → fourteen w % 2 ≡ min (min (six w % 2) (four (w / 64) % 2)) (four (w / 1024) % 2)
fourteen-low w =
    and-low (bit_and (six w) (four w / 64)) (four w / 1024)
    ∙ rw (and-low (six w) (four w / 64), four-shr w 6, four-shr w 10) refl

split-ones : (w : ℕ) → (w % 64 ≡ 63 → w / 64 % 16 ≡ 15 → w / 1024 % 16 ≡ 15 → w % 16384 ≡ 16383)
    × (w % 16384 ≡ 16383 → (w % 64 ≡ 63) × (w / 64 % 16 ≡ 15) × (w / 1024 % 16 ≡ 15))
split-ones w = ((λ low middle high. omega arith), λ ones. (omega arith, omega arith, omega arith))

fourteen-ones : (w : ℕ) → (fourteen w % 2 ≡ 1 → w % 16384 ≡ 16383) × (w % 16384 ≡ 16383 → fourteen w % 2 ≡ 1)
fourteen-ones w =
    let all = fourteen-low w in
    let first = six-ones w in
    let second = four-ones (w / 64) in
    let third = four-ones (w / 1024) in
    let split = split-ones w in (
      (λ is. split.0 (first.0 (omega arith)) (second.0 (omega arith)) (third.0 (omega arith))),
      λ ones. let parts = split.1 ones in
          omega (arith, all, first.1 parts.0, second.1 parts.1, third.1 parts.2),
    )

fourteen-shr : (w k : ℕ) → fourteen w / 2 ^ k ≡ fourteen (w / 2 ^ k)
fourteen-shr w k =
    let middle = shr-turn (four w) 6 k in
    let high = shr-turn (four w) 10 k in
    and_shr (bit_and (six w) (four w / 64)) (four w / 1024) k
    ∙ rw (and_shr (six w) (four w / 64) k, six-shr w k, middle, high, four-shr w k) refl

-- ---- where taking bits stops

abbrev pub MAX : ℕ
MAX = 18446744073709551615

-- exactly six ones before each new bit, and exactly fourteen
abbrev after_six : ℕ → ℕ
after_six w = bit_and (six w / 1024) (MAX - w / 512)

abbrev after_fourteen : ℕ → ℕ
after_fourteen w = bit_and (fourteen w / 4) (MAX - w / 2)

-- either of them, and a 1 after the new bits
abbrev pub stops : ℕ → ℕ → ℕ
stops w count = bit_or (bit_or (after_six w) (after_fourteen w)) (1 * 2 ^ count % 18446744073709551616)

-- the bits of one number that another one lets through
masked : (a b i : ℕ) → b < 2 ^ 64 → i < 64 → bit_at (bit_and a (MAX - b)) i ≡ min (bit_at a i) (1 - bit_at b i)
masked a b i below inside = bit_at_and a (MAX - b) i ∙ ap (min (bit_at a i)) (bit_at_not w64 b i below inside)

-- a run of ones that follows on a 0
run-at : (f : ℕ → ℕ) → ((w k : ℕ) → f w / 2 ^ k ≡ f (w / 2 ^ k)) → (w s i : ℕ) → w < 2 ^ 64 → i < 64 →
    bit_at (bit_and (f w / 2 ^ (s + 1)) (MAX - w / 2 ^ s)) i
    ≡ min (f (w / 2 ^ (s + i) / 2) % 2) (1 - w / 2 ^ (s + i) % 2)
run-at f shift w s i word inside =
    let next : s + 1 + i ≡ s + i + 1 = omega arith in
    let run : f w / 2 ^ (s + 1) / 2 ^ i ≡ f (w / 2 ^ (s + i) / 2) = shr-shr (f w) (s + 1) i
    ∙ (shift w (s + 1 + i) ∙ ap f (ap (λ (j : ℕ). w / 2 ^ j) next ∙ sym (shr-shr w (s + i) 1))) in
    masked (f w / 2 ^ (s + 1)) (w / 2 ^ s) i (omega (arith, word)) inside ∙ rw (run, shr-shr w s i) refl

six-at : (w i : ℕ) → w < 2 ^ 64 → i < 64 → bit_at (after_six w) i ≡ 1 ↔ w / 2 ^ (9 + i) % 128 ≡ 126
six-at w i word inside =
    let both = run-at six six-shr w 9 i word inside in
    let ones = six-ones (w / 2 ^ (9 + i) / 2) in (
      (λ is. let shown = ones.0 (omega (arith, both, is)) in omega (arith, both, is, shown)),
      λ is. let shown = ones.1 (omega (arith, is)) in omega (arith, both, is, shown),
    )

fourteen-at : (w i : ℕ) → w < 2 ^ 64 → i < 64 → bit_at (after_fourteen w) i ≡ 1 ↔ w / 2 ^ (1 + i) % 32768 ≡ 32766
fourteen-at w i word inside =
    let both = run-at fourteen fourteen-shr w 1 i word inside in
    let ones = fourteen-ones (w / 2 ^ (1 + i) / 2) in (
      (λ is. let shown = ones.0 (omega (arith, both, is)) in omega (arith, both, is, shown)),
      λ is. let shown = ones.1 (omega (arith, is)) in omega (arith, both, is, shown),
    )

one-at : (count i : ℕ) → count < 64 → (i ≢ count → bit_at (1 * 2 ^ count % 18446744073709551616) i ≡ 0)
    × (i ≡ count → bit_at (1 * 2 ^ count % 18446744073709551616) i ≡ 1)
one-at count i few =
    let shift = one_shl count 64 few in (
      (λ other. ap (λ (x : ℕ). bit_at x i) shift ∙ bit_at-pow_other count i other),
      λ same. ap (λ (x : ℕ). bit_at x i) shift ∙ (ap (bit_at (2 ^ count)) same ∙ bit_at-pow_same count),
    )

stops-at : (w count i : ℕ) → bit_at (stops w count) i
    ≡ max (max (bit_at (after_six w) i) (bit_at (after_fourteen w) i))
    (bit_at (1 * 2 ^ count % 18446744073709551616) i)
stops-at w count i =
    bit_at_or (bit_or (after_six w) (after_fourteen w)) (1 * 2 ^ count % 18446744073709551616) i
    ∙ ap (λ (x : ℕ). max x (bit_at (1 * 2 ^ count % 18446744073709551616) i))
    (bit_at_or (after_six w) (after_fourteen w) i)

-- no stop, no bit, and the other way
stop-zero : (w count i : ℕ) → w < 2 ^ 64 → i < 64 → count < 64 → bit_at (stops w count) i ≡ 0 → IsStop w i → ⊥
stop-zero w count i word inside few none stop =
    let all = stops-at w count i in
    elim stop [
      | inl run ↦ let bit = (six-at w i word inside).1 run in omega (arith, all, none, bit)
      | inr run ↦ let bit = (fourteen-at w i word inside).1 run in omega (arith, all, none, bit)
    ]

-- the lowest 1 is the first stop, or `count`
pub record IsFirstStop (w count n : ℕ) : Type 0 where
  pub no_stop : (i : ℕ) → i < n → IsStop w i → ⊥
  pub within : n ≤ count

stops-lt : (w count : ℕ) → stops w count < 2 ^ 64
stops-lt w count =
    or_lt 64 (bit_or (after_six w) (after_fourteen w)) (1 * 2 ^ count % 18446744073709551616)
    (or_lt 64 (after_six w) (after_fourteen w) (omega (arith, and_le_r (six w / 1024) (MAX - w / 512)))
    (omega (arith, and_le_r (fourteen w / 4) (MAX - w / 2)))) (omega arith)

pub first-stop : (w count : ℕ) → w < 2 ^ 64 → count ≤ 48 → IsFirstStop w count (trailing_zeros w64 (stops w count))
first-stop w count word few =
    let s : ℕ = stops w count in
    let one = (one-at count count (omega arith)).1 refl in
    let all = stops-at w count count in
    let most = bit_at-lt (stops w count) count in
    let last : bit_at (stops w count) count ≡ 1 = omega (arith, all, one, most) in
    let some : 0 < stops w count =
    elim (cases_lt 0 s) [
      | inl some ↦ some
      | inr none ↦ let zero : stops w count ≡ 0 = omega (arith, none) in
          absurd (omega (arith, last, bit_at-zero count, ap (λ (x : ℕ). bit_at x count) zero))
    ] in
    let lowest = bit_at-trailing_zeros w64 s some (stops-lt w count) in
    let n : ℕ = trailing_zeros w64 s in record {
      no_stop = λ i before. stop-zero w count i word (omega (arith, lowest.0, before)) (omega arith)
          (lowest.2 i before);
      within = elim (cases_lt count n) [ inl past ↦ absurd (omega (arith, last, lowest.2 count past)) | inr is ↦ is ];
    }

-- ---- the places of inserted 0s

abbrev pub inserted : ℕ → ℕ
inserted w = bit_and (five w / 8) (MAX - w / 256)

pub inserted-at : (w k : ℕ) → w < 2 ^ 64 → k < 56 → bit_at (inserted w) k ≡ 1 ↔ w / 2 ^ (3 + k) % 64 ≡ 31
inserted-at w k word inside =
    let v : ℕ = w / 2 ^ (3 + k) in
    let run : five w / 8 / 2 ^ k ≡ five v = shr-shr (five w) 3 k ∙ five-shr w (3 + k) in
    let after : 8 + k ≡ (3 + k) + 5 = omega arith in
    let bit : bit_at (w / 256) k ≡ v / 32 % 2 =
    ap (λ (x : ℕ). x % 2) (shr-shr w 8 k ∙ (ap (λ (j : ℕ). w / 2 ^ j) after ∙ sym (shr-shr w (3 + k) 5))) in
    let both : bit_at (inserted w) k ≡ min (five v % 2) (1 - v / 32 % 2) =
    masked (five w / 8) (w / 256) k (omega (arith, word)) (omega (arith, inside)) ∙ rw (run, bit) refl in
    let ones = five-ones v in (
      (λ is. let shown = ones.0 (omega (arith, both, is)) in omega (arith, both, is, shown)),
      λ is. let shown = ones.1 (omega (arith, is)) in omega (arith, both, is, shown),
    )
