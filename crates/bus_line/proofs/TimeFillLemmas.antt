-- Bits that decide nothing, 56 at a time.
use Rattle.std.proofs.Common.{◌≡◌, ◌≢◌, ℕ, zero, suc, ◌+◌, ◌-◌, ◌*◌, ◌/◌, ◌%◌, ◌^◌, ◌≤◌, ◌<◌, Bool, true, List, [], ◌∷◌}
use Rattle.std.proofs.Common.{◌++◌, length, take, drop, replicate, None, refl, sym, ap, ◌∙◌, arith, inl, inr}
use Rattle.std.specs.Prelude.{bit_and, bit_or}
use Rattle.std.specs.Int.{bit_at, trailing_zeros, w64}
use Rattle.std.specs.Int.Bits.{or_shifted_r}
use Rattle.std.proofs.lemmas.Nat.{and_le_r, shr-shr, field_of}
use Rattle.std.proofs.Math.Pow.{mod-mod-pow}
use Rattle.std.proofs.lemmas.List.{append-nil, append_assoc, replicate-append-replicate, take-replicate}
use Rattle.bus_bits.specs.Bits.{bits_from}
use Rattle.bus_bits.proofs.BitLemmas.{bits-more, bits-taken}
use Rattle.std.proofs.lemmas.Nat.Bits.{bit_at_and, bit_at-zero, bit_at_mask_inside, bit_at_mask_above}
use Rattle.std.proofs.lemmas.Nat.Bits.{bit_at_mask_below, bit_at-trailing_zeros}
use Rattle.std.proofs.lemmas.Bool.{cases_lt}
use Rattle.bus_bits.specs.Octet.{bits_of, number}
use Rattle.bus_bits.proofs.OctetLemmas.{bits-front, bits-low, number-bits}
use Rattle.bus_fcs.specs.Check.{CheckView}
use Rattle.bus_line.specs.Mark.{flag}
use Rattle.bus_line.specs.Internal.Flags.{flags, EndsInFlag, SkipsFlags}
use Rattle.bus_line.specs.Due.{placed}
use Rattle.bus_line.specs.After.{After, Decides}
use Rattle.bus_line.specs.Words.{first_in, AreDecoderWords, state}
use Rattle.bus_line.specs.declared.decoder_words.DecoderWords.{DecoderWords}
use Rattle.bus_line.specs.Internal.TimeFill.{AreFlags, SkipsOnes}
use Rattle.bus_line.specs.Internal.Settled.{HasNoStop, IsStop, IsWord, data_in_word}
use Rattle.bus_line.proofs.SettledDataLemmas.{six, six-ones, six-shr}
use Rattle.bus_line.specs.LineState.{LineState}
use Rattle.bus_line.specs.Internal.Tracks.{padded, HasTaken}
use Rattle.bus_line.proofs.WordLemmas.{last-below, word-made}
use Rattle.bus_line.proofs.AdvanceLemmas.{no_stop-before, no_stop-placed, no_stop-after}
use Rattle.bus_line.proofs.SettleLemmas.{word-unsettled}
use Rattle.bus_line.proofs.WordsLemmas.{flags-skipped, settles-told, shifted}
use Rattle.bus_line.proofs.FlagLemmas.{flags-length, flags-placed, mark-is}
use Rattle.bus_line.proofs.DecidesLemmas.{decides-none, decides-more}

-- ---- where six ones end

-- where the machine may find them
abbrev pub sixes : ℕ → ℕ
sixes w = bit_and (six w) 288230376151711740

-- and finds none
no-six-at : (w i : ℕ) → i < 56 → bit_at (sixes w) (2 + i) ≡ 0 → w / 2 ^ (2 + i) % 64 ≢ 63
no-six-at w i inside none ones =
    let mask : bit_at 288230376151711740 (2 + i) ≡ 1 =
    bit_at_mask_inside 2 58 (2 + i) (omega arith) (omega (arith, inside)) in
    let both = bit_at_and (six w) 288230376151711740 (2 + i) in
    let low : bit_at (six w) (2 + i) ≡ six (w / 2 ^ (2 + i)) % 2 = ap (λ (x : ℕ). x % 2) (six-shr w (2 + i)) in
    let one = (six-ones (w / 2 ^ (2 + i))).1 ones in
    omega (arith, mask, none, both, low, one)

pub no-six : (w : ℕ) → sixes w ≡ 0 → (i : ℕ) → i < 56 → w / 2 ^ (2 + i) % 64 ≢ 63
no-six w none i inside = no-six-at w i inside (ap (λ (x : ℕ). bit_at x (2 + i)) none ∙ bit_at-zero (2 + i))

-- the first
pub record IsFirstSix (w place : ℕ) : Type 0 where
  pub least : 2 ≤ place
  pub most : place < 58
  pub none : (i : ℕ) → i < place - 2 → w / 2 ^ (2 + i) % 64 ≢ 63

pub first-six : (w : ℕ) → sixes w ≢ 0 → IsFirstSix w (trailing_zeros w64 (sixes w))
first-six w some =
    let small : sixes w < 2 ^ 64 = omega (arith, and_le_r (six w) 288230376151711740) in
    let found = bit_at-trailing_zeros w64 (sixes w) (omega (arith, some)) small in
    let place : ℕ = trailing_zeros w64 (sixes w) in
    let both = bit_at_and (six w) 288230376151711740 place in
    let most : place < 58 = elim (cases_lt place 58) [
      | inl before ↦ before
      | inr above ↦ absurd (omega (arith, bit_at_mask_above 2 58 place above, both, found.1))
    ] in
    record {
      least = elim (cases_lt place 2) [
        | inl below ↦ absurd (omega (arith, bit_at_mask_below 2 58 place below, both, found.1))
        | inr late ↦ late
      ];
      most = most;
      none = λ i before. no-six-at w i (omega (arith, before, most)) (found.2 (2 + i) (omega (arith, before)));
    }

-- so no bit comes after exactly six ones or exactly fourteen
pub no-stop : (w behind n : ℕ) → behind ≡ w / 256 → ((i : ℕ) → i < n → behind / 2 ^ (2 + i) % 64 ≢ 63) → (i : ℕ) →
    i < n → IsStop w i → ⊥
no-stop w behind n is none i inside stop =
    let at : behind / 2 ^ (2 + i) ≡ w / 2 ^ (10 + i) =
    ap (λ (x : ℕ). x / 2 ^ (2 + i)) is ∙ (shr-shr w 8 (2 + i) ∙ ap (λ (j : ℕ). w / 2 ^ j) (omega arith)) in
    elim stop [
      | inl six ↦
          let far : w / 2 ^ (10 + i) ≡ w / 2 ^ (9 + i) / 2 =
          ap (λ (j : ℕ). w / 2 ^ j) (omega arith) ∙ sym (shr-shr w (9 + i) 1) in
          none i inside (omega (arith, at, far, six))
      | inr more ↦
          let far : w / 2 ^ (10 + i) ≡ w / 2 ^ (1 + i) / 512 =
          ap (λ (j : ℕ). w / 2 ^ j) (omega arith) ∙ sym (shr-shr w (1 + i) 9) in
          none i inside (omega (arith, at, far, more))
    ]

-- ---- the word of 56 new bits after sixteen others

-- as a number, whatever stands above the new bits
abbrev pub word_of : ℕ → ℕ → ℕ
word_of last_bits bits = last_bits + bits % 2 ^ 56 * 65536

-- the machine's, but for the eight lowest bits
pub word-behind : (last_bits bits : ℕ) → last_bits < 65536
    → bit_or (last_bits / 256) (bits * 256 % 18446744073709551616) ≡ word_of last_bits bits / 256
word-behind last_bits bits small =
    let y : ℕ = bits % 2 ^ 56 in
    let shifted : bits * 256 % 18446744073709551616 ≡ y * 2 ^ 8 = omega arith in
    rw shifted (or_shifted_r y 8 (last_bits / 256) (omega (arith, small)) ∙ omega (arith, small))

-- and but for the eight highest
pub word-front : (last_bits bits : ℕ) → last_bits < 65536 → bit_or last_bits (bits * 65536 % 18446744073709551616)
    ≡ word_of last_bits bits % 2 ^ 64
word-front last_bits bits small =
    let y : ℕ = bits % 2 ^ 48 in
    let shifted : bits * 65536 % 18446744073709551616 ≡ y * 2 ^ 16 = omega arith in
    rw shifted (or_shifted_r y 16 last_bits (omega (arith, small)) ∙ omega (arith, small))

-- the data that it settles do not hang on these
field : (w j n : ℕ) → j + n ≤ 64 → w % 2 ^ 64 / 2 ^ j % 2 ^ n ≡ w / 2 ^ j % 2 ^ n
field w j n inside =
    let size : 64 ≡ (64 - j) + j = omega (arith, inside) in
    let part : 64 - j ≡ (64 - j - n) + n = omega (arith, inside) in
    ap (λ (x : ℕ). w % 2 ^ x / 2 ^ j % 2 ^ n) size
    ∙ (ap (λ (x : ℕ). x % 2 ^ n) (field_of w (64 - j) j)
    ∙ (ap (λ (x : ℕ). w / 2 ^ j % 2 ^ x % 2 ^ n) part ∙ mod-mod-pow (w / 2 ^ j) (64 - j - n) n))

field-behind : (w s j n : ℕ) → s + j + n ≤ 64 → w % 2 ^ 64 / 2 ^ s / 2 ^ j % 2 ^ n ≡ w / 2 ^ s / 2 ^ j % 2 ^ n
field-behind w s j n inside =
    ap (λ (x : ℕ). x % 2 ^ n) (shr-shr (w % 2 ^ 64) s j)
    ∙ (field w (s + j) n inside ∙ ap (λ (x : ℕ). x % 2 ^ n) (sym (shr-shr w s j)))

pub settled-behind : (w s k : ℕ) → s + k ≤ 56 → data_in_word (w % 2 ^ 64 / 2 ^ s) k ≡ data_in_word (w / 2 ^ s) k
settled-behind w s zero fits = refl
settled-behind w s (suc k) fits =
    let x : ℕ = w % 2 ^ 64 / 2 ^ s in
    let five : x / 2 ^ (3 + k) % 64 ≡ w / 2 ^ s / 2 ^ (3 + k) % 64 = field-behind w s (3 + k) 6 (omega (arith, fits)) in
    let bit : x / 2 ^ (8 + k) % 2 ≡ w / 2 ^ s / 2 ^ (8 + k) % 2 = field-behind w s (8 + k) 1 (omega (arith, fits)) in
    rw (settled-behind w s k (omega (arith, fits)), five, bit) refl

-- ---- 56 bits more of these octets

-- some of 56 bits
pub turn-bits : (os : List ℕ) (at x n : ℕ) → bits_of 56 x ≡ bits_from os at 56 → n ≤ 56
    → bits_of n x ≡ bits_from os at n
turn-bits os at x n same few =
    sym (bits-front n 56 x few) ∙ (ap (take n) same ∙ bits-taken os at 56 n few)

from-more : (os : List ℕ) (from at n : ℕ) → from ≤ at → bits_from os from (at + n - from)
    ≡ bits_from os from (at - from) ++ bits_from os at n
from-more os from at n begun =
    let size : at + n - from ≡ (at - from) + n = omega (arith, begun) in
    let end : from + (at - from) ≡ at = omega (arith, begun) in
    ap (bits_from os from) size
    ∙ (bits-more os from (at - from) n ∙ ap (λ (j : ℕ). bits_from os from (at - from) ++ bits_from os j n) end)

no-bits-from : (os : List ℕ) (at : ℕ) → bits_from os at (at - at) ≡ []
unfolding bits_from
no-bits-from os at = let none : at - at ≡ 0 = omega arith in ap (bits_from os at) none

-- ones
pub ones-none : (os : List ℕ) (at : ℕ) → bits_from os at (at - at) ≡ replicate (at - at) true
ones-none os at = let none : 0 ≡ at - at = omega arith in no-bits-from os at ∙ ap (λ (n : ℕ). replicate n true) none

ones-shown : (x : ℕ) → x * 256 % 18446744073709551616 ≡ 18446744073709551360 → bits_of 56 x ≡ replicate 56 true
unfolding bits_of
ones-shown x ones = let low : x % 2 ^ 56 ≡ 72057594037927935 =
    omega (arith, ones) in sym (bits-low 56 x) ∙ ap (bits_of 56) low

-- the first of 56
pub ones-front : (os : List ℕ) (from x n : ℕ) → bits_of 56 x ≡ bits_from os from 56 →
    x * 256 % 18446744073709551616 ≡ 18446744073709551360 → n ≤ 56 → bits_from os from n ≡ replicate n true
ones-front os from x n same ones few =
    sym (turn-bits os from x n same few)
    ∙ (sym (bits-front n 56 x few) ∙ (ap (take n) (ones-shown x ones) ∙ take-replicate n 56 true few))

all-ones : bits_of 64 18446744073709551615 ≡ replicate 64 true
unfolding bits_of
all-ones = refl

-- and eight octets of them more
pub ones-octets : (os : List ℕ) (from at x : ℕ) → from ≤ at → at ≡ 8 * (at / 8) →
    bits_from os from (at - from) ≡ replicate (at - from) true → bits_of 64 x ≡ bits_from os (8 * (at / 8)) 64 →
    x ≡ 18446744073709551615 → bits_from os from (at + 64 - from) ≡ replicate (at + 64 - from) true
ones-octets os from at x begun whole before next ones =
    let size : (at - from) + 64 ≡ at + 64 - from = omega (arith, begun) in
    let here : bits_from os at 64 ≡ replicate 64 true =
    ap (λ (j : ℕ). bits_from os j 64) whole ∙ (sym next ∙ (ap (bits_of 64) ones ∙ all-ones)) in
    from-more os from at 64 begun
    ∙ (ap (λ (z : List Bool). z ++ bits_from os at 64) before
    ∙ (ap (λ (z : List Bool). replicate (at - from) true ++ z) here
    ∙ (replicate-append-replicate (at - from) 64 true ∙ ap (λ (j : ℕ). replicate j true) size)))

-- flags
pub flags-shown : (x : ℕ) → x * 256 % 18446744073709551616 ≡ 9114861777597660672 → bits_of 56 x ≡ flags 7
unfolding bits_of
flags-shown x is = let low : x % 2 ^ 56 ≡ 35604928818740862 =
    omega (arith, is) in sym (bits-low 56 x) ∙ ap (bits_of 56) low

flags-append : (k j : ℕ) → flags k ++ flags j ≡ flags (k + j)
flags-append k zero = let sum : k ≡ k + 0 = omega arith in append-nil (flags k) ∙ ap flags sum
flags-append k (suc j) =
    let sum : suc (k + j) ≡ k + suc j = omega arith in
    sym (append_assoc (flags k) (flags j) flag) ∙ (ap (λ (z : List Bool). z ++ flag) (flags-append k j) ∙ ap flags sum)

pub flags-none : (os : List ℕ) (at : ℕ) → AreFlags os at at
flags-none os at = let none : 0 ≡ (at - at) / 8 =
    omega arith in record { whole = omega arith; are = no-bits-from os at ∙ ap flags none }

pub flags-more : (os : List ℕ) (from at x k : ℕ) → from ≤ at → AreFlags os from at
    → bits_of 56 x ≡ bits_from os at 56 → k ≤ 7 → bits_of (8 * k) x ≡ flags k → AreFlags os from (at + 8 * k)
flags-more os from at x k begun before next few are =
    let j : ℕ = (at - from) / 8 in
    let size : j + k ≡ (at + 8 * k - from) / 8 = omega (arith, before.whole, begun) in
    let there : bits_from os at (8 * k) ≡ flags k = sym (turn-bits os at x (8 * k) next (omega (arith, few))) ∙ are in
    record {
      whole = omega (arith, before.whole, begun);
      are = from-more os from at (8 * k) begun
          ∙ (ap (λ (z : List Bool). z ++ bits_from os at (8 * k)) before.are
          ∙ (ap (λ (z : List Bool). flags j ++ z) there ∙ (flags-append j k ∙ ap flags size)));
    }

-- ---- time fill

-- where no piece is open, one after sixteen of them decides nothing
module _ {C : Type 0} (view : CheckView C) (check : C) (octets : List ℕ) where
  one-more : (w : DecoderWords) → w.last_bits ≡ 65535 → w.settles_at ≡ 2 ^ 62 → w.place + 1 ≤ 2 ^ 60 →
      Decides view (state w check octets) (true ∷ []) None (state (record w { place = w.place + 1 }) check octets)
  unfolding number
  one-more w ones idle room =
      let d = state w check octets in
      let next : DecoderWords = record w { place = w.place + 1 } in
      let e = state next check octets in
      let word : (b : List Bool) → After view d b → IsWord 131071 b (true ∷ []) =
      λ b stands. word-made 65535 1 b (true ∷ []) (sym ones ∙ stands.has_taken.last_bits) refl in
      let none : (i : ℕ) → i < 1 → IsStop 131071 i → ⊥ = λ i before stop. let first : i ≡ 0 =
      omega (arith, before) in
      elim (rw first at stop) [ inl six ↦ omega (arith, six) | inr more ↦ omega (arith, more) ] in
      let no_stop : (b : List Bool) → After view d b → HasNoStop b (true ∷ []) 1 =
      λ b stands. no_stop-before 131071 1 b (true ∷ []) (word b stands) (omega arith) none in
      let same : next ≡ record w { place = w.place + 1; last_bits = 131071 / 2 ^ 1 % 65536 } =
      ap (λ (x : ℕ). record w { place = w.place + 1; last_bits = x }) (ones ∙ omega arith) in
      let closed : first_in w.settles_at ≡ None = ap first_in idle in
      record {
        leads = record {
          after = λ b stands.
              let one = shifted w next check octets b (true ∷ []) 131071 1 same stands (word b stands)
              (omega arith) (λ i before. absurd (omega (arith, before))) in
              let tracks = word-unsettled (2 ^ 62) None one closed refl (omega (arith, room)) in
              no_stop-after view 1 e b (true ∷ []) (no_stop b stands) (omega arith) tracks;
          longest = refl;
          origin = refl;
          place = refl;
        };
        says = λ b stands. no_stop-placed w.origin w.longest 1 b (true ∷ []) (no_stop b stands) 1 (omega arith)
            (omega arith)
            ∙ sym (append-nil (placed w.origin w.longest b));
      }

  pub ones-decide : (n : ℕ) (w : DecoderWords) → (0 < n → w.last_bits ≡ 65535) → w.settles_at ≡ 2 ^ 62
      → w.place + n ≤ 2 ^ 60 → Decides view (state w check octets) (replicate n true) None
      (state (record w { place = w.place + n }) check octets)
  ones-decide zero w ones idle room =
      let end : w.place + 0 ≡ w.place = omega arith in
      rw end decides-none
  ones-decide (suc n) w ones idle room =
      let next : DecoderWords = record w { place = w.place + 1 } in
      let end : w.place + 1 + n ≡ w.place + suc n = omega arith in
      let rest = ones-decide n next (λ _. ones (omega arith)) idle (omega (arith, room)) in
      rw (← end)
      (decides-more (one-more w (ones (omega arith)) idle (omega (arith, room))) rest)

  pub skipped-ones : (old new : DecoderWords) (n : ℕ) → SkipsOnes old n new → old.settles_at ≡ 2 ^ 62 →
      old.place + n ≤ 2 ^ 60 → Decides view (state old check octets) (replicate n true) None (state new check octets)
  skipped-ones old new n passed idle room = rw passed.new_is (ones-decide n old passed.behind idle room)

  -- flags after a flag
  pub skipped-flags : (old new : DecoderWords) (k : ℕ) → SkipsFlags old k new → AreDecoderWords old →
      old.settles_at ≡ old.place + 8 → new.place ≤ 2 ^ 60 →
      Decides view (state old check octets) (flags k) None (state new check octets)
  skipped-flags old new k passed within flag fits =
      let ends : (b : List Bool) → After view (state old check octets) b → EndsInFlag b =
      λ b stands. mark-is view (state old check octets) old.settles_at b stands
      (settles-told old.settles_at within.settles_late) within.place_fits flag in
      record {
        leads = record {
          after = λ b stands. flags-skipped view old new check octets b k passed (λ _. ends b stands) fits stands;
          longest = (kept k passed).0;
          origin = (kept k passed).1;
          place = (kept k passed).2 ∙ ap (λ (n : ℕ). old.place + n) (sym (flags-length k));
        };
        says = λ b stands. flags-placed old.origin old.longest b k (λ _. ends b stands)
            ∙ sym (append-nil (placed old.origin old.longest b));
      }
    where
      kept : (k : ℕ) → SkipsFlags old k new → (new.longest ≡ old.longest) × (new.origin ≡ old.origin)
          × (new.place ≡ old.place + 8 * k)
      kept zero passed = rw (passed.none refl) (refl, refl, omega arith)
      kept (suc k) passed = rw (passed.some (omega arith)) (refl, refl, refl)

-- ---- data

-- the word of the new bits
pub word-is : (h x : ℕ) (b : List Bool) → h ≡ number (drop (length b) (padded b)) →
    IsWord (word_of h x) b (bits_of 56 x)
word-is h x b last =
    let new : x % 2 ^ 56 ≡ number (bits_of 56 x) = sym (number-bits 56 (x % 2 ^ 56) (omega arith))
    ∙ ap number (bits-low 56 x) in
    word-made h (x % 2 ^ 56) b (bits_of 56 x) last new

pub last-bits-small : {C : Type 0} (d : LineState C) (b : List Bool) → HasTaken d b → d.last_bits < 65536
last-bits-small d b taken = omega (arith, taken.last_bits, last-below b)

pub newest-front : (h x n : ℕ) → h < 65536 → n < 8
    → bit_or h (x * 65536 % 18446744073709551616) / 2 ^ n % 65536 ≡ word_of h x / 2 ^ n % 65536
newest-front h x n small few =
    ap (λ (y : ℕ). y / 2 ^ n % 65536) (word-front h x small) ∙ field (word_of h x) n 16 (omega (arith, few))

pub newest-behind : (h x n : ℕ) → h < 65536 → 8 ≤ n
    → bit_or (h / 256) (x * 256 % 18446744073709551616) / 2 ^ (n - 8) % 65536 ≡ word_of h x / 2 ^ n % 65536
newest-behind h x n small many =
    let all : 8 + (n - 8) ≡ n = omega (arith, many) in
    ap (λ (y : ℕ). y / 2 ^ (n - 8) % 65536) (word-behind h x small)
    ∙ ap (λ (y : ℕ). y % 65536) (shr-shr (word_of h x) 8 (n - 8) ∙ ap (λ (j : ℕ). word_of h x / 2 ^ j) all)
