-- Several data bits more at once.
use Rattle.std.proofs.Common.{◌≡◌, ℕ, zero, suc, ◌+◌, ◌-◌, ◌*◌, ◌/◌, ◌%◌, ◌^◌, ◌≤◌, ◌<◌, Bool, List, [], ◌∷◌, ◌++◌}
use Rattle.std.proofs.Common.{length, take, drop, min, refl, sym, ap, ◌∙◌, subst, arith, length-append, inl, inr}
use Rattle.std.specs.Prelude.{bit_or}
use Rattle.std.specs.Int.{w32, w64, to_le_bytes}
use Rattle.std.specs.Int.Bits.{or_shifted_r, or_zero_r}
use Rattle.std.proofs.Math.Nat.{add-zero, mod-eq_of_lt, pow-le-pow_right}
use Rattle.std.proofs.Math.Seq.{take-add, take-append-add, take-nil, drop-append-add}
use Rattle.std.proofs.lemmas.Bool.{cases_lt}
use Rattle.std.proofs.lemmas.Nat.{div-mul-add, mod_low, mod-pow-add, shr-shr}
use Rattle.std.proofs.lemmas.List.{append-nil, append_assoc, length-take, length-drop, take_all, take-append-drop}
use Rattle.std.proofs.lemmas.List.{take-append-le}
use Rattle.bus_bits.specs.Octet.{number, bits_of, octets}
use Rattle.bus_bits.proofs.OctetLemmas.{number-append, number-bits, number-lt, length-bits, octets-push, octets-append}
use Rattle.bus_bits.proofs.ListLemmas.{take_past}
use Rattle.bus_fcs.specs.Check.{CheckView}
use Rattle.bus_line.specs.LineState.{LineState, stored_of}
use Rattle.bus_line.specs.Words.{state}
use Rattle.bus_line.specs.declared.decoder_words.DecoderWords.{DecoderWords}
use Rattle.bus_line.specs.Internal.LineView.{settles_from}
use Rattle.bus_line.specs.Internal.Tracks.{Holds, in_words, after_words, words_room}
use Rattle.bus_line.specs.Internal.Settled.{AppendsBits, HoldsOctets, StoresLow, StoresWord}
use Rattle.bus_line.specs.Internal.Settled.{low_octets}
use Rattle.bus_line.proofs.WholeLemmas.{octets-short, octets-here, length-octets}
use Rattle.bus_line.proofs.WordLemmas.{number-drop, number-take}

-- ---- octets of a number

-- the first octets of bits are those of their number
octets-first : (k : ℕ) (d : List Bool) → 8 * k ≤ length d → octets (take (8 * k) d) ≡ low_octets k (number d)
octets-first zero d within = octets-short [] refl
octets-first (suc k) d within =
    let a = take (8 * k) d in
    let b = take 8 (drop (8 * k) d) in
    let next : 8 * suc k ≡ 8 * k + 8 = omega arith in
    let size : length (take (8 * k) d) ≡ 8 * k = length-take (8 * k) d ∙ omega (arith, within) in
    let eight : length (take 8 (drop (8 * k) d)) ≡ 8 =
    length-take 8 (drop (8 * k) d) ∙ omega (arith, length-drop (8 * k) d, within) in
    let octet : number (take 8 (drop (8 * k) d)) ≡ number d / 2 ^ (8 * k) % 256 =
    sym (number-take 8 (drop (8 * k) d)) ∙ ap (λ (x : ℕ). x % 256) (sym (number-drop (8 * k) d)) in
    ap (λ (j : ℕ). octets (take j d)) next ∙ (ap octets (take-add (8 * k) 8 d)
    ∙ (octets-push a b (omega (arith, size)) eight ∙ rw (octets-first k d (omega (arith, within)), octet) refl))

octets-all : (k : ℕ) (d : List Bool) → length d / 8 ≡ k → octets d ≡ low_octets k (number d)
octets-all k d full =
    octets-here d
    ∙ (ap (λ (j : ℕ). octets (take (8 * j) d)) full ∙ octets-first k d (omega (arith, full)))

pub length-octets_of : (k n : ℕ) → length (low_octets k n) ≡ k
length-octets_of zero n = refl
length-octets_of (suc k) n = length-append (low_octets k n) (n / 2 ^ (8 * k) % 256 ∷ [])
    ∙ omega (arith, length-octets_of k n)

-- some, and others after them
octets-both : (k j n : ℕ) → low_octets (k + j) n ≡ low_octets k n ++ low_octets j (n / 2 ^ (8 * k))
octets-both k zero n =
    let all : k + 0 ≡ k = omega arith in rw all (sym (append-nil (low_octets k n)))
octets-both k (suc j) n =
    let all : k + suc j ≡ suc (k + j) = omega arith in
    let place : 8 * k + 8 * j ≡ 8 * (k + j) = omega arith in
    rw (all, shr-shr n (8 * k) (8 * j), place, octets-both k j n)
    (append_assoc (low_octets k n) (low_octets j (n / 2 ^ (8 * k))) (n / 2 ^ (8 * (k + j)) % 256 ∷ []))

pub stores-both : {C : Type 0} {folded : C → List ℕ → Type 0} {old mid new : C} {held some all : List ℕ} (k j n m : ℕ)
    → k + j ≡ m → StoresLow folded k n old held mid some → StoresLow folded j (n / 2 ^ (8 * k)) mid some new all
    → StoresLow folded m n old held new all
stores-both {C} {folded} {old} {mid} {new} {held} {some} {all} k j n m count first more =
    let joined : (os : List ℕ) → (os ++ low_octets k n) ++ low_octets j (n / 2 ^ (8 * k)) ≡ os ++ low_octets m n =
    λ os. append_assoc os (low_octets k n) (low_octets j (n / 2 ^ (8 * k)))
    ∙ ap (λ (z : List ℕ). os ++ z) (sym (octets-both k j n) ∙ ap (λ (i : ℕ). low_octets i n) count) in
    record {
      stored = more.stored ∙ (ap (λ (z : List ℕ). z ++ low_octets j (n / 2 ^ (8 * k))) first.stored ∙ joined held);
      checked = λ before is.
          subst (folded new) (joined before) (more.checked (before ++ low_octets k n) (first.checked before is));
    }

-- the machine's eight
pub eight-octets : (n : ℕ) → to_le_bytes w64 n ≡ low_octets 8 n
eight-octets n = let lowest : n % 256 ≡ n / 1 % 256 = omega arith in rw lowest refl

-- and four of 32 bits
pub four-octets : (n : ℕ) → to_le_bytes w32 (n % 4294967296) ≡ low_octets 4 n
four-octets n =
    let one : n % 4294967296 % 256 ≡ n / 1 % 256 = omega arith in
    let two : n % 4294967296 / 256 % 256 ≡ n / 256 % 256 = omega arith in
    let three : n % 4294967296 / 65536 % 256 ≡ n / 65536 % 256 = omega arith in
    let four : n % 4294967296 / 16777216 % 256 ≡ n / 16777216 % 256 = omega arith in
    rw (one, two, three, four) refl

-- ---- whole words of eight octets

length-words : (d : List Bool) → length (in_words d) ≡ 64 * (length d / 64)
length-words d = length-take (64 * (length d / 64)) d ∙ omega arith

length-after : (d : List Bool) → length (after_words d) ≡ length d % 64
length-after d = length-drop (64 * (length d / 64)) d ∙ omega arith

words-after : (d : List Bool) → in_words d ++ after_words d ≡ d
words-after d = take-append-drop (64 * (length d / 64)) d

-- of bits and of further ones
words-end : (d e : List Bool) → 64 * (length (d ++ e) / 64)
    ≡ length (in_words d) + 64 * (length (after_words d ++ e) / 64)
words-end d e =
    omega (arith, length-append d e, length-append (after_words d) e, length-words d, length-after d)

words-parts : (d e : List Bool) → d ++ e ≡ in_words d ++ (after_words d ++ e)
words-parts d e =
    ap (λ (z : List Bool). z ++ e) (sym (words-after d)) ∙ append_assoc (in_words d) (after_words d) e

words-more : (d e : List Bool) → in_words (d ++ e) ≡ in_words d ++ in_words (after_words d ++ e)
words-more d e =
    ap (λ (j : ℕ). take j (d ++ e)) (words-end d e)
    ∙ (ap (take (length (in_words d) + 64 * (length (after_words d ++ e) / 64))) (words-parts d e)
    ∙ take-append-add (in_words d) (after_words d ++ e) (64 * (length (after_words d ++ e) / 64)))

after-more : (d e : List Bool) → after_words (d ++ e) ≡ after_words (after_words d ++ e)
after-more d e =
    ap (λ (j : ℕ). drop j (d ++ e)) (words-end d e)
    ∙ (ap (drop (length (in_words d) + 64 * (length (after_words d ++ e) / 64))) (words-parts d e)
    ∙ drop-append-add (in_words d) (after_words d ++ e) (64 * (length (after_words d ++ e) / 64)))

-- no word, and one
words-none : (x : List Bool) → length x < 64 → (in_words x ≡ []) × (after_words x ≡ x)
words-none x few =
    let none : 64 * (length x / 64) ≡ 0 = omega (arith, few) in
    (ap (λ (j : ℕ). take j x) none, ap (λ (j : ℕ). drop j x) none)

words-one : (x : List Bool) → 64 ≤ length x → length x < 128 → (in_words x ≡ take 64 x) × (after_words x ≡ drop 64 x)
words-one x some few =
    let one : 64 * (length x / 64) ≡ 64 = omega (arith, some, few) in
    (ap (λ (j : ℕ). take j x) one, ap (λ (j : ℕ). drop j x) one)

pub words-short : (d : List Bool) → length d < 64 → octets (in_words d) ≡ []
words-short d few = ap octets (words-none d few).0 ∙ octets-short [] refl

-- whole octets, as many as there is room for where all have it
pub words-octets : (d : List Bool) → length (octets (in_words d)) ≡ 8 * (length d / 64)
words-octets d = length-octets (8 * (length d / 64)) (in_words d) (omega (arith, length-words d))

-- the octets of words, and those after them
octets-parts : (d : List Bool) → octets d
    ≡ octets (in_words d) ++ low_octets (length d / 8 % 8) (number (after_words d))
octets-parts d =
    ap octets (sym (words-after d)) ∙ (octets-append (in_words d) (after_words d) (omega (arith, length-words d))
    ∙ ap (λ (os : List ℕ). octets (in_words d) ++ os)
    (octets-all (length d / 8 % 8) (after_words d) (omega (arith, length-after d))))

-- ---- the bits after words and new ones after them, in one number

abbrev pub joined : ℕ → ℕ → ℕ → ℕ
joined partial held bits = bit_or partial (bits * 2 ^ held % 18446744073709551616)

low-part : (b h p : ℕ) → h ≤ 64 → p < 2 ^ h → (b * 2 ^ h + p) % 2 ^ 64 ≡ b % 2 ^ (64 - h) * 2 ^ h + p
low-part b h p few low =
    let size : 64 ≡ (64 - h) + h = omega (arith, few) in
    ap (λ (j : ℕ). (b * 2 ^ h + p) % 2 ^ j) size ∙ (mod-pow-add (b * 2 ^ h + p) (64 - h) h
    ∙ rw (div-mul-add b (2 ^ h) p low, mod_low b h p low) refl)

joined-low : (b h p : ℕ) → h ≤ 64 → p < 2 ^ h → joined p h b ≡ (b * 2 ^ h + p) % 2 ^ 64
joined-low b h p few low =
    let some : 0 < 2 ^ h = omega (arith, low) in
    let shifted : b * 2 ^ h % 18446744073709551616 ≡ b % 2 ^ (64 - h) * 2 ^ h =
    ap (λ (x : ℕ). x % 2 ^ 64) (sym (add-zero (b * 2 ^ h)))
    ∙ (low-part b h 0 few some ∙ add-zero (b % 2 ^ (64 - h) * 2 ^ h)) in
    ap (bit_or p) shifted ∙ (or_shifted_r (b % 2 ^ (64 - h)) h p low ∙ sym (low-part b h p few low))

-- the bits after words, as a number
module _ (got : List Bool) (n bits : ℕ) (small : bits < 2 ^ n) where
  held : ℕ
  held = length got % 64

  both : List Bool
  both = after_words got ++ bits_of n bits

  length-both : length (after_words got ++ bits_of n bits) ≡ length got % 64 + n
  length-both = length-append (after_words got) (bits_of n bits)
      ∙ omega (arith, length-after got, length-bits n bits)

  partial-low : number (after_words got) < 2 ^ (length got % 64)
  partial-low = rw (← length-after got) (number-lt (after_words got))

  number-both : number (after_words got ++ bits_of n bits) ≡ bits * 2 ^ (length got % 64) + number (after_words got)
  number-both =
      let high : number (bits_of n bits) * 2 ^ length (after_words got) ≡ bits * 2 ^ (length got % 64) =
      rw (number-bits n bits small, length-after got) refl in
      omega (arith, number-append (after_words got) (bits_of n bits), high)

  joined-both : joined (number (after_words got)) (length got % 64) bits
      ≡ number (after_words got ++ bits_of n bits) % 2 ^ 64
  joined-both =
      joined-low bits (length got % 64) (number (after_words got)) (omega arith) partial-low
      ∙ ap (λ (x : ℕ). x % 2 ^ 64) (sym number-both)

  -- where they fill no word
  pub joined-after : length got % 64 + n < 64 → joined (number (after_words got)) (length got % 64) bits
      ≡ number (after_words (got ++ bits_of n bits))
  joined-after few =
      let fits : number (after_words got ++ bits_of n bits) < 2 ^ 64 =
      let low = number-lt (after_words got ++ bits_of n bits) in
      let most : 2 ^ length (after_words got ++ bits_of n bits) ≤ 2 ^ 64 =
      pow-le-pow_right {n = 2} (omega arith) {i = length (after_words got ++ bits_of n bits)} {j = 64}
      (omega (arith, length-both, few)) in
      omega (arith, low, most) in
      joined-both ∙ (mod-eq_of_lt fits
      ∙ ap number (sym (after-more got (bits_of n bits)
      ∙ (words-none (after_words got ++ bits_of n bits) (omega (arith, length-both, few))).1)))

  pub words-still : length got % 64 + n < 64 → in_words (got ++ bits_of n bits) ≡ in_words got
  words-still few =
      words-more got (bits_of n bits)
      ∙ (ap (λ (z : List Bool). in_words got ++ z)
      (words-none (after_words got ++ bits_of n bits) (omega (arith, length-both, few))).0 ∙ append-nil (in_words got))

  -- where they fill one
  pub word-more : n ≤ 56 → 64 ≤ length got % 64 + n → octets (in_words (got ++ bits_of n bits))
      ≡ octets (in_words got) ++ low_octets 8 (joined (number (after_words got)) (length got % 64) bits)
  word-more few full =
      let x = after_words got ++ bits_of n bits in
      let one = words-one x (omega (arith, length-both, full)) (omega (arith, length-both, few)) in
      let eight : length (take 64 (after_words got ++ bits_of n bits)) ≡ 64 =
      length-take 64 x ∙ omega (arith, length-both, full) in
      let word : octets (take 64 (after_words got ++ bits_of n bits))
      ≡ low_octets 8 (joined (number (after_words got)) (length got % 64) bits) =
      octets-all 8 (take 64 x) (omega (arith, eight))
      ∙ ap (low_octets 8) (sym (joined-both ∙ number-take 64 x)) in
      ap octets (words-more got (bits_of n bits) ∙ ap (λ (z : List Bool). in_words got ++ z) one.0)
      ∙ (octets-append (in_words got) (take 64 x) (omega (arith, length-words got))
      ∙ ap (λ (os : List ℕ). octets (in_words got) ++ os) word)

  pub after-word : n ≤ 56 → 64 ≤ length got % 64 + n → number (after_words (got ++ bits_of n bits))
      ≡ bits / 2 ^ (64 - length got % 64)
  after-word few full =
      let x = after_words got ++ bits_of n bits in
      let h : ℕ = length got % 64 in
      let one = words-one x (omega (arith, length-both, full)) (omega (arith, length-both, few)) in
      let size : 64 ≡ h + (64 - h) = omega arith in
      ap number (after-more got (bits_of n bits) ∙ one.1)
      ∙ (sym (number-drop 64 x) ∙ (ap (λ (y : ℕ). y / 2 ^ 64) number-both
      ∙ (ap (λ (j : ℕ). (bits * 2 ^ h + number (after_words got)) / 2 ^ j) size
      ∙ (sym (shr-shr (bits * 2 ^ h + number (after_words got)) h (64 - h))
      ∙ ap (λ (y : ℕ). y / 2 ^ (64 - h)) (div-mul-add bits (2 ^ h) (number (after_words got)) partial-low)))))

-- ---- octets more, as many as there is room for

-- the first of two lists
take-over : {X : Type 0} (k : ℕ) (xs ys : List X) → take k (xs ++ ys) ≡ take k xs ++ take (k - length xs) ys
take-over k xs ys = elim (cases_lt k (length xs)) [
  | inl short ↦
      let none : k - length xs ≡ 0 = omega arith in
      rw none (take-append-le k xs ys (omega arith) ∙ sym (append-nil (take k xs)))
  | inr long ↦ rw (take_all k xs long) (take_past k xs ys long)
]

-- as many of them as there is room for
octets-room : (k room m n : ℕ) → m ≡ min k room → low_octets m n ≡ take room (low_octets k n)
octets-room zero room m n is = let none : m ≡ 0 = omega (arith, is) in rw none (sym (take-nil room))
octets-room (suc k) room m n is = elim (cases_lt k room) [
  | inl fits ↦
      let all : m ≡ suc k = omega (arith, is, fits) in
      rw all (sym (take_all room (low_octets (suc k) n) (omega (arith, length-octets_of (suc k) n, fits))))
  | inr over ↦
      octets-room k room m n (omega (arith, is, over))
      ∙ sym (take-append-le room (low_octets k n) (n / 2 ^ (8 * k) % 256 ∷ [])
      (omega (arith, length-octets_of k n, over)))
]

-- how many are held
pub length-held : {C : Type 0} {folded : C → List ℕ → Type 0} {limit : ℕ} {d : LineState C} {os : List ℕ} →
    HoldsOctets folded limit d os → length d.octets ≡ min limit (length os)
length-held {C} {folded} {limit} {d} {os} kept = ap length kept.held ∙ length-take limit os

-- the buffer and its check have as many octets more as there is room for
pub keeps-more : {C : Type 0} (folded : C → List ℕ → Type 0) (limit : ℕ) (d e : LineState C) (k m n : ℕ)
    (os : List ℕ) → HoldsOctets folded limit d os → m ≡ min k (limit - length d.octets)
    → e.octets ≡ d.octets ++ low_octets m n →
    ((xs : List ℕ) → folded d.check xs → folded e.check (xs ++ low_octets m n))
    → HoldsOctets folded limit e (os ++ low_octets k n)
keeps-more folded limit d e k m n os kept count same-octets checks =
    let room : m ≡ min k (limit - length os) = omega (arith, count, length-held kept) in
    let all : take limit (os ++ low_octets k n) ≡ take limit os ++ low_octets m n =
    take-over limit os (low_octets k n) ∙ ap (λ (z : List ℕ). take limit os ++ z)
    (sym (octets-room k (limit - length os) m n room)) in
    record {
      held = same-octets ∙ (ap (λ (z : List ℕ). z ++ low_octets m n) kept.held ∙ sym all);
      checked = subst (folded e.check) (sym all) (checks (take limit os) kept.checked);
    }

pub keeps-none : {C : Type 0} (folded : C → List ℕ → Type 0) (limit : ℕ) (e : LineState C) → e.octets ≡ [] →
    folded e.check [] → HoldsOctets folded limit e []
keeps-none folded limit e none check =
    let still : take {A = ℕ} limit [] ≡ [] = take-nil limit in
    record { held = none ∙ sym still; checked = subst (folded e.check) (sym still) check }

-- of few octets all are held, whatever the limit
holds-all : {C : Type 0} {folded : C → List ℕ → Type 0} {limit other : ℕ} {d : LineState C} {os : List ℕ} →
    HoldsOctets folded limit d os → length os ≤ limit → length os ≤ other → HoldsOctets folded other d os
holds-all {C} {folded} {limit} {other} {d} {os} kept within fits =
    let same : take limit os ≡ take other os = take_all limit os within ∙ sym (take_all other os fits) in
    record { held = kept.held ∙ same; checked = subst (folded d.check) same kept.checked }

-- ---- a word

-- it is stored where there is room for all of it
pub stores-word : {C : Type 0} (folded : C → List ℕ → Type 0) (d e : LineState C) (word m : ℕ) →
    ((a : ℕ) → length d.octets ≡ 8 * a → m ≡ min 8 (words_room d.longest - length d.octets)) →
    e.octets ≡ d.octets ++ low_octets m word
    → ((xs : List ℕ) → folded d.check xs → folded e.check (xs ++ low_octets m word))
    → StoresWord folded d word e
stores-word folded d e word m count same-octets checks = λ os whole kept.
    keeps-more folded (words_room d.longest) d e 8 m word os kept
    (count (length d.octets / 8) (omega (arith, length-held kept, whole))) same-octets checks

-- ---- the last octets

-- all octets of data are held that are no more than there is room for
pub holds-last : {C : Type 0} (folded : C → List ℕ → Type 0) (d e : LineState C) (m : ℕ) (bits : List Bool) →
    HoldsOctets folded (words_room d.longest) d (octets (in_words bits)) → length bits ≤ 8 * (d.longest + 2) →
    m ≡ min (length bits / 8 % 8) (d.longest + 2 - length d.octets)
    → e.octets ≡ d.octets ++ low_octets m (number (after_words bits)) →
    ((xs : List ℕ) → folded d.check xs → folded e.check (xs ++ low_octets m (number (after_words bits))))
    → HoldsOctets folded (d.longest + 2) e (octets bits)
holds-last folded d e m bits kept within count same-octets checks =
    let size = words-octets bits in
    let held = holds-all {other = d.longest + 2} kept (omega (arith, size, within)) (omega (arith, size, within)) in
    rw (octets-parts bits)
    (keeps-more folded (d.longest + 2) d e (length bits / 8 % 8) m (number (after_words bits)) (octets (in_words bits))
    held count same-octets checks)

-- ---- all together

module _ {C : Type 0} (view : CheckView C) (w : DecoderWords) (check : C) (os : List ℕ) (n bits : ℕ) (few : n ≤ 56)
    (small : bits < 2 ^ n) (early : w.place ≤ settles_from (state w check os).first → n ≡ 0) where
  -- no word is full
  pub appended-few : w.data_bits % 64 + n < 64 → AppendsBits view (state w check os) (bits_of n bits)
      (state (record w { data_bits = w.data_bits + n; partial = joined w.partial (w.data_bits % 64) bits }) check os)
  unfolding bits_of stored_of
  appended-few short =
      let d = state w check os in
      record {
        none = λ soon.
            let no : n ≡ 0 = early soon in
            let zero : bits ≡ 0 = omega (arith, small, ap (λ (j : ℕ). 2 ^ j) no) in
            let nothing : 0 * 2 ^ (w.data_bits % 64) % 18446744073709551616 ≡ 0 = omega arith in
            let same : joined w.partial (w.data_bits % 64) bits ≡ w.partial =
            ap (joined w.partial (w.data_bits % 64)) zero ∙ (ap (bit_or w.partial) nothing ∙ or_zero_r w.partial) in
            rw (same, no, add-zero w.data_bits) refl;
        holds = λ got holds.
            let size : w.data_bits % 64 ≡ length got % 64 = ap (λ (j : ℕ). j % 64) holds.count in
            let less : length got % 64 + n < 64 = omega (arith, size, short) in
            let still = words-still got n bits small less in
            let long : length (got ++ bits_of n bits) ≡ length got + n =
            length-append got (bits_of n bits) ∙ omega (arith, length-bits n bits) in
            record {
              count = omega (arith, holds.count, long);
              partial = rw (size, holds.partial) (joined-after got n bits small less);
              held = λ full. rw still (holds.held (omega (arith, full, long, less)));
              checked = λ full. rw still (holds.checked (omega (arith, full, long, less)));
            };
        settled = omega (arith, length-bits n bits);
        filled = omega (arith, length-bits n bits);
        waits = omega (arith, length-bits n bits);
        kept = refl;
      }

  -- a word is full, and stored where there is room for it
  pub appended-word : (begun new : C) (before after : List ℕ) → 64 ≤ w.data_bits % 64 + n →
      ((got : List Bool) → Holds view.folded (state w check os) got →
      HoldsOctets view.folded (words_room w.longest) (state w begun before) (octets (in_words got))) →
      StoresWord view.folded (state w begun before) (joined w.partial (w.data_bits % 64) bits) (state w new after)
      → AppendsBits view (state w check os) (bits_of n bits) (state (record w {
        data_bits = w.data_bits + n;
        partial = bits / 2 ^ (64 - w.data_bits % 64);
      }) new after)
  unfolding stored_of
  appended-word begun new before after full begins stores =
      let whole : (got : List Bool) → length (octets (in_words got)) % 8 ≡ 0 =
      λ got. omega (arith, words-octets got) in
      record {
        none = λ soon. absurd (omega (arith, early soon, full));
        holds = λ got holds.
            let size : w.data_bits % 64 ≡ length got % 64 = ap (λ (j : ℕ). j % 64) holds.count in
            let more : 64 ≤ length got % 64 + n = omega (arith, size, full) in
            let long : length (got ++ bits_of n bits) ≡ length got + n =
            length-append got (bits_of n bits) ∙ omega (arith, length-bits n bits) in
            let kept = stores (octets (in_words got)) (whole got) (begins got holds) in
            let next = word-more got n bits small few more in
            record {
              count = omega (arith, holds.count, long);
              partial = rw size (sym (after-word got n bits small few more));
              held = λ some. rw (next, ← size, ← holds.partial) kept.held;
              checked = λ some. rw (next, ← size, ← holds.partial) kept.checked;
            };
        settled = omega (arith, length-bits n bits);
        filled = omega (arith, length-bits n bits);
        waits = omega (arith, length-bits n bits);
        kept = refl;
      }
