-- The reflected register.
use Rattle.std.proofs.Common.{◌≡◌, ◌↔◌, ℕ, zero, suc, ◌+◌, ◌-◌, ◌*◌, ◌/◌, ◌%◌, ◌^◌, ◌<◌, ◌≤◌, Bool, true, false, cond}
use Rattle.std.proofs.Common.{not, List, [], ◌∷◌, ◌++◌, length, map, take, drop, replicate, refl, sym, ap, ◌∙◌}
use Rattle.std.proofs.Common.{arith, append_assoc, length-append, bit_xor, inl, inr, ◌⊎◌}
use Rattle.std.proofs.lemmas.List.{append-nil, length-replicate, length-map, take-append-drop, length-take, length-drop}
use Rattle.std.proofs.lemmas.List.{replicate-append-replicate}
use Rattle.std.proofs.Math.Nat.{pow-suc, mul_assoc, add-zero}
use Rattle.std.proofs.lemmas.Nat.{pow_pos, mod_below, mod-pow-add, shr_split}
use Rattle.std.specs.Int.Bits.{xor_block, xor_comm, xor_assoc, xor_self, xor_zero_r, xor_shr, xor_mod, xor_shifted}
use Rattle.bus_bits.proofs.OctetLemmas.{number-push, same_number, length-bits, number-bits, number-append}
use Rattle.bus_bits.proofs.OctetLemmas.{length-bits_of_octets, bits_of_octets-push}
use Rattle.bus_fcs.specs.Division.{plus, add, step, divided, remainder}
use Rattle.bus_fcs.specs.FrameCheck.{Good, fcs}
use Rattle.bus_bits.specs.Octet.{bits_of, bits_of_octets, number}
use Rattle.bus_fcs.specs.Internal.Register.{crc_step_of, crc_steps, register, IsStateAfter}
use Rattle.bus_fcs.proofs.DivisionSumLemmas.{length-add, add_again, add_left_comm, add_comm, add-append, add-parts}
use Rattle.bus_fcs.proofs.DivisionSumLemmas.{add-zeros, add_more_zeros, add_to_zeros, add_sixteen_ones, add_self}
use Rattle.bus_fcs.proofs.DivisionSumLemmas.{same_from_add}
use Rattle.bus_fcs.proofs.DivisionLemmas.{remainder_add, remainder-append, remainder-zeros, remainder_own, divided-add}
use Rattle.bus_fcs.proofs.DivisionLemmas.{divided_zero, step_false, length-step_false, length-divided, rest}
use Rattle.bus_fcs.proofs.LawsLemmas.{length-register, good-register, fcs-register}

abbrev zeros : ℕ → List Bool
zeros n = replicate n false

abbrev ones : List Bool
ones = replicate 16 true

-- ---- the register, as bits

-- up to sixteen more bits are added to the register, and then it is shifted past them
pub register-append : (d o : List Bool) → length o ≤ 16 →
    register (d ++ o) ≡ divided (length o) (add o (register d) ++ zeros (length o))
unfolding register
register-append d o short =
    let k = length d in
    let count = length o in
    let padded : List Bool = d ++ zeros 16 in
    let placed : List Bool = zeros k ++ o in
    let turned : List Bool = add ones padded in
    let zeros-length : length (zeros k) ≡ length d = length-replicate k false in
    let padded-length : length padded ≡ length d + 16 = length-append d (zeros 16) in
    let placed-length : length placed ≡ length d + length o = rw (length-append (zeros k) o, zeros-length) refl in
    let turned-length : length turned ≡ length d + 16 = length-add ones padded ∙ padded-length in
    let swap : zeros 16 ++ zeros count ≡ zeros count ++ zeros 16 =
    replicate-append-replicate 16 count false ∙ ap zeros (omega arith)
    ∙ sym (replicate-append-replicate count 16 false) in
    let tail : add o (zeros count ++ zeros 16) ≡ o ++ zeros 16 =
    rw (add-append o (zeros count) (zeros 16) (omega (arith, length-replicate count false)), add_to_zeros o) refl in
    let parts : add (zeros k) d ++ add o (zeros count ++ zeros 16) ≡ d ++ (o ++ zeros 16) =
    rw (add-zeros k d, tail) refl in
    let whole : add placed (padded ++ zeros count) ≡ (d ++ o) ++ zeros 16 =
    ap (add placed) (append_assoc d (zeros 16) (zeros count) ∙ ap (λ (z : List Bool). d ++ z) swap)
    ∙ add-parts (zeros k) o d (zeros count ++ zeros 16) zeros-length ∙ parts ∙ sym (append_assoc d o (zeros 16)) in
    let shift : add ones ((d ++ o) ++ zeros 16) ≡ add placed turned ++ zeros count =
    ap (add ones) (sym whole) ∙ add_left_comm ones placed (padded ++ zeros count)
    ∙ ap (add placed) (add-append ones padded (zeros count) (omega arith))
    ∙ add-append placed turned (zeros count) (omega arith) in
    let more : List Bool = o ++ zeros (16 - count) in
    let more-length : length more ≡ 16 =
    omega (arith, length-append o (zeros (16 - count)), length-replicate (16 - count) false) in
    let same-length : length (zeros k ++ more) ≡ length turned = omega (arith, length-append (zeros k) more) in
    let sum : remainder (add placed turned) ≡ add o (remainder turned) =
    ap remainder (sym (add_more_zeros placed (16 - count) turned)
    ∙ ap (λ (z : List Bool). add z turned) (append_assoc (zeros k) o (zeros (16 - count))))
    ∙ remainder_add (zeros k ++ more) turned same-length
    ∙ ap (λ (z : List Bool). add z (remainder turned)) (remainder-zeros k more ∙ remainder_own more more-length)
    ∙ add_more_zeros o (16 - count) (remainder turned) in
    ap remainder shift ∙ remainder-append (add placed turned) (zeros count)
    ∙ (let same : length (zeros count) ≡ count = length-replicate count false in cc)

-- ---- good data, by the register after all of it

-- what the register is after good data
abbrev pub residue : List Bool
residue = divided 16 (ones ++ zeros 16)

same_from_shift : (x y : List Bool) → length x ≡ 16 → length y ≡ 16 →
    divided 16 (x ++ zeros 16) ≡ divided 16 (y ++ zeros 16) → x ≡ y
same_from_shift x y x-sixteen y-sixteen shifted =
    let same-length : length x ≡ length y = x-sixteen ∙ sym y-sixteen in
    let padded : length (x ++ zeros 16) ≡ length (y ++ zeros 16) =
    omega (arith, length-append x (zeros 16), length-append y (zeros 16)) in
    let sixteen : length (add x y) ≡ 16 = length-add x y ∙ y-sixteen in
    let parts : add x y ++ zeros 16 ≡ add (x ++ zeros 16) (y ++ zeros 16) =
    ap (λ (z : List Bool). add x y ++ z) (sym (add-zeros 16 (zeros 16)))
    ∙ sym (add-parts x (zeros 16) y (zeros 16) same-length) in
    let count : length (divided 16 (y ++ zeros 16)) ≡ 16 =
    length-divided 16 (y ++ zeros 16) ∙ omega (arith, length-append y (zeros 16)) in
    let none : divided 16 (add x y ++ zeros 16) ≡ zeros 16 =
    rw (parts, divided-add 16 (x ++ zeros 16) (y ++ zeros 16) padded, shifted)
    (add_self (divided 16 (y ++ zeros 16)) ∙ ap zeros count) in
    same_from_add x y same-length (divided_zero 16 (add x y) sixteen none ∙ ap zeros (sym y-sixteen))

-- with a tail of sixteen bits
residue_at : (c t : List Bool) → 16 ≤ length c → length t ≡ 16 → Good (c ++ t) ↔ (register (c ++ t) ≡ residue)
residue_at c t long sixteen =
    let good = good-register c t long sixteen in
    let inverted : add t (map not t) ≡ ones =
    ap (add t) (sym (add_sixteen_ones t sixteen)) ∙ add_left_comm t ones t
    ∙ ap (add ones) (add_self t ∙ ap zeros sixteen) ∙ add_to_zeros ones in
    let after : register (c ++ t) ≡ divided 16 (add t (register c) ++ zeros 16) =
    register-append c t (omega arith) ∙ ap (λ (n : ℕ). divided n (add t (register c) ++ zeros n)) sixteen in
    let sum-length : length (add t (register c)) ≡ 16 = length-add t (register c) ∙ length-register c in (
      (λ is-good.
          let all : add t (register c) ≡ ones = rw (good.0 is-good) inverted in
          after ∙ ap (λ (z : List Bool). divided 16 (z ++ zeros 16)) all),
      (λ left.
          let all : add t (register c) ≡ ones =
          same_from_shift (add t (register c)) ones sum-length refl (sym after ∙ left) in
          good.1 (sym (add_again t (register c)) ∙ ap (add t) all ∙ add_comm t ones sixteen
          ∙ add_sixteen_ones t sixteen)),
    )

pub good-residue : (d : List Bool) → 32 ≤ length d → Good d ↔ (register d ≡ residue)
good-residue d long =
    let from = length d - 16 in
    let whole = take-append-drop from d in
    let split =
    residue_at (take from d) (drop from d) (omega (arith, length-take from d)) (length-drop from d ∙ omega arith) in
    rw whole at split

-- ---- the register, as a number

bit_lt : (b : Bool) → cond b 1 0 < 2
bit_lt true = omega arith
bit_lt false = omega arith

bit_plus : (a b : Bool) → bit_xor (cond a 1 0) (cond b 1 0) ≡ cond (plus a b) 1 0
bit_plus true true = refl
bit_plus true false = refl
bit_plus false b = refl

pub number-add : (x y : List Bool) → length x ≤ length y → number (add x y) ≡ bit_xor (number x) (number y)
unfolding number add
number-add [] y within = refl
number-add (a ∷ x) [] within = absurd (omega arith)
number-add (a ∷ x) (b ∷ y) within =
    ap (λ (n : ℕ). n * 2 + cond (plus a b) 1 0) (number-add x y (omega arith))
    ∙ ap (λ (n : ℕ). bit_xor (number x) (number y) * 2 + n) (sym (bit_plus a b))
    ∙ sym (xor_block 1 (number x) (number y) (cond a 1 0) (cond b 1 0) (bit_lt a) (bit_lt b))

pub turn_even : (n : ℕ) → crc_step_of (n * 2 + 0) ≡ n
unfolding crc_step_of
turn_even n =
    let low : (n * 2 + 0) % 2 ≡ 0 = omega arith in
    let high : (n * 2 + 0) / 2 ≡ n = omega arith in
    rw (low, high)

pub turn_odd : (n : ℕ) → crc_step_of (n * 2 + 1) ≡ bit_xor n 0x8408
unfolding crc_step_of
turn_odd n =
    let low : (n * 2 + 1) % 2 ≡ 1 = omega arith in
    let high : (n * 2 + 1) / 2 ≡ n = omega arith in
    rw (low, high)

-- a shift of the bits is a turn of the number
number_turn : (w : List Bool) → length w ≡ 16 → number (step (w ++ false ∷ [])) ≡ crc_step_of (number w)
unfolding number step add
number_turn [] sixteen = absurd (omega arith)
number_turn (false ∷ w) sixteen = number-push w ∙ sym (turn_even (number w))
number_turn (true ∷ w) sixteen =
    number-add rest (w ++ false ∷ []) (omega (arith, length-append w (false ∷ [])))
    ∙ ap (bit_xor 0x8408) (number-push w)
    ∙ xor_comm 0x8408 (number w) ∙ sym (turn_odd (number w))

pub number_turns : (n : ℕ) (w : List Bool) → length w ≡ 16 → number (divided n (w ++ zeros n)) ≡ crc_steps n (number w)
unfolding divided crc_steps
number_turns zero w sixteen = ap number (append-nil w)
number_turns (suc n) w sixteen =
    rw (step_false w (zeros n) sixteen, ← number_turn w sixteen)
    (number_turns n (step (w ++ false ∷ [])) (length-step_false w sixteen))

-- ---- octets

-- one octet more
pub state_more : (s o : ℕ) (os : List ℕ) → o < 256 → IsStateAfter s os →
    IsStateAfter (crc_steps 8 (bit_xor s o)) (os ++ o ∷ [])
unfolding IsStateAfter
state_more s o os small is-state =
    let before = register (bits_of_octets os) in
    let octet-bits = bits_of 8 o in
    let added = add octet-bits before in
    let eight : length octet-bits ≡ 8 = length-bits 8 o in
    let after : register (bits_of_octets (os ++ o ∷ [])) ≡ divided 8 (added ++ zeros 8) =
    ap register (bits_of_octets-push os o) ∙ register-append (bits_of_octets os) octet-bits (omega arith)
    ∙ ap (λ (k : ℕ). divided k (added ++ zeros k)) eight in
    let sum : number added ≡ bit_xor s o =
    number-add octet-bits before (omega (arith, length-register (bits_of_octets os)))
    ∙ (let octet : number octet-bits ≡ o = number-bits 8 o small in cc) ∙ xor_comm o s in
    let sixteen : length added ≡ 16 = length-add octet-bits before ∙ length-register (bits_of_octets os) in
    sym (ap number after ∙ number_turns 8 added sixteen ∙ ap (crc_steps 8) sum)

pub state_none : IsStateAfter 0xffff []
unfolding IsStateAfter register remainder divided step add number bits_of_octets
state_none = refl

length_residue : length residue ≡ 16
length_residue = length-divided 16 (ones ++ zeros 16)

residue_number : number residue ≡ 0xf0b8
unfolding number divided step add
residue_number = refl

pub state_good : (s : ℕ) (os : List ℕ) → IsStateAfter s os → 4 ≤ length os → (s ≡ 0xf0b8) ↔ Good (bits_of_octets os)
unfolding IsStateAfter
state_good s os is-state long =
    let bits = bits_of_octets os in
    let good = good-residue bits (omega (arith, length-bits_of_octets os)) in (
      (λ left.
          good.1 (same_number (register bits) residue (length-register bits ∙ sym length_residue)
          (sym is-state ∙ left ∙ sym residue_number))),
      (λ is-good. is-state ∙ ap number (good.0 is-good) ∙ residue_number),
    )

-- ---- the check bits

number-not : (w : List Bool) → number (map not w) + number w + 1 ≡ 2 ^ length w
unfolding number
number-not [] = refl
number-not (true ∷ w) = omega (arith, number-not w, pow-suc 2 (length w))
number-not (false ∷ w) = omega (arith, number-not w, pow-suc 2 (length w))

pub state_trailer : (s lo hi : ℕ) (os : List ℕ) → IsStateAfter s os → lo < 256 → hi < 256 → hi * 256 + lo + s ≡ 65535
    → bits_of_octets (lo ∷ hi ∷ []) ≡ fcs (bits_of_octets os)
unfolding IsStateAfter bits_of_octets
state_trailer s lo hi os is-state lo-small hi-small sum =
    let after = register (bits_of_octets os) in
    let octets = bits_of 8 lo ++ bits_of 8 hi in
    let octets-length : length octets ≡ 16 =
    omega (arith, length-append (bits_of 8 lo) (bits_of 8 hi), length-bits 8 lo, length-bits 8 hi) in
    let value : number octets ≡ lo + hi * 256 =
    number-append (bits_of 8 lo) (bits_of 8 hi)
    ∙ (let lo-bits = length-bits 8 lo in
    let low = number-bits 8 lo lo-small in
    let high = number-bits 8 hi hi-small in
    cc) in
    let inverted : number (map not after) + number after + 1 ≡ 65536 =
    number-not after ∙ ap (λ (k : ℕ). 2 ^ k) (length-register (bits_of_octets os)) in
    let same : number octets ≡ number (map not after) = omega arith in
    let same-length : length octets ≡ length (map not after) =
    octets-length ∙ sym (length-map after not ∙ length-register (bits_of_octets os)) in
    ap (λ (z : List Bool). bits_of 8 lo ++ z) (append-nil (bits_of 8 hi))
    ∙ same_number octets (map not after) same-length same ∙ sym (fcs-register (bits_of_octets os))

-- ---- eight turns at once

below_two : (r : ℕ) → r < 2 → (r ≡ 0) ⊎ (r ≡ 1)
below_two zero small = inl refl
below_two (suc zero) small = inr refl
below_two (suc (suc r)) small = absurd (omega arith)

bit_cases : (n : ℕ) → (n % 2 ≡ 0) ⊎ (n % 2 ≡ 1)
bit_cases n = below_two (n % 2) (omega arith)

xor_right : (a b p : ℕ) → bit_xor (bit_xor a b) p ≡ bit_xor (bit_xor a p) b
xor_right a b p = xor_assoc a b p ∙ ap (bit_xor a) (xor_comm b p) ∙ sym (xor_assoc a p b)

xor_both : (a b p : ℕ) → bit_xor a b ≡ bit_xor (bit_xor a p) (bit_xor b p)
xor_both a b p =
    let twice : bit_xor p (bit_xor b p) ≡ b =
    ap (bit_xor p) (xor_comm b p) ∙ sym (xor_assoc p p b) ∙ ap (λ (n : ℕ). bit_xor n b) (xor_self p) in
    sym (xor_assoc a p (bit_xor b p) ∙ ap (bit_xor a) twice)

pub crc_step-xor : (a b : ℕ) → crc_step_of (bit_xor a b) ≡ bit_xor (crc_step_of a) (crc_step_of b)
unfolding crc_step_of
crc_step-xor a b =
    let high : bit_xor a b / 2 ≡ bit_xor (a / 2) (b / 2) = xor_shr a b 1 in
    let low : bit_xor a b % 2 ≡ bit_xor (a % 2) (b % 2) = xor_mod a b 1 in
    elim (bit_cases a) [
      | inl a-even ↦ elim (bit_cases b) [
        | inl b-even ↦ rw (low, high, a-even, b-even) refl
        | inr b-odd ↦ rw (low, high, a-even, b-odd) (xor_assoc (a / 2) (b / 2) 0x8408)
      ]
      | inr a-odd ↦ elim (bit_cases b) [
        | inl b-even ↦ rw (low, high, a-odd, b-even) (xor_right (a / 2) (b / 2) 0x8408)
        | inr b-odd ↦ rw (low, high, a-odd, b-odd) (xor_both (a / 2) (b / 2) 0x8408)
      ]
    ]

pub crc_steps-xor : (n a b : ℕ) → crc_steps n (bit_xor a b) ≡ bit_xor (crc_steps n a) (crc_steps n b)
unfolding crc_steps
crc_steps-xor zero a b = refl
crc_steps-xor (suc n) a b = ap (crc_steps n) (crc_step-xor a b) ∙ crc_steps-xor n (crc_step_of a) (crc_step_of b)

turns_shift : (n h : ℕ) → crc_steps n (h * 2 ^ n) ≡ h
unfolding crc_steps
turns_shift zero h = omega arith
turns_shift (suc n) h =
    let doubled : h * 2 ^ suc n ≡ h * 2 ^ n * 2 + 0 =
    ap (λ (k : ℕ). h * k) (pow-suc 2 n) ∙ sym (mul_assoc h (2 ^ n) 2) ∙ sym (add-zero (h * 2 ^ n * 2)) in
    rw (doubled, turn_even (h * 2 ^ n)) (turns_shift n h)

-- steps one after the other
steps-sum : (m n s : ℕ) → crc_steps (m + n) s ≡ crc_steps n (crc_steps m s)
unfolding crc_steps
steps-sum zero n s = let same : zero + n ≡ n = omega arith in rw same refl
steps-sum (suc m) n s = let next : suc m + n ≡ suc (m + n) = omega arith in rw next (steps-sum m n (crc_step_of s))

-- zeros in front only take steps
steps-past : (k m h : ℕ) → crc_steps (k + m) (h * 2 ^ k) ≡ crc_steps m h
steps-past k m h = steps-sum k m (h * 2 ^ k) ∙ ap (crc_steps m) (turns_shift k h)

-- the lowest bits apart, which alone take the steps
split : (n s : ℕ) → bit_xor (s / 2 ^ n * 2 ^ n) (s % 2 ^ n) ≡ s
split n s = xor_shifted (s / 2 ^ n) n (s % 2 ^ n) (mod_below s (2 ^ n) (pow_pos n)) ∙ shr_split s n

pub turns_split : (n s : ℕ) → crc_steps n s ≡ bit_xor (s / 2 ^ n) (crc_steps n (s % 2 ^ n))
turns_split n s =
    ap (crc_steps n) (sym (split n s))
    ∙ rw (crc_steps-xor n (s / 2 ^ n * 2 ^ n) (s % 2 ^ n), turns_shift n (s / 2 ^ n)) refl

pub turns_octet : (s o : ℕ) → o < 256 → crc_steps 8 (bit_xor s o) ≡ bit_xor (s / 256) (crc_steps 8 (bit_xor s o % 256))
turns_octet s o small =
    let none : o / 256 ≡ 0 = omega arith in
    let high : bit_xor s o / 256 ≡ s / 256 =
    xor_shr s o 8 ∙ ap (bit_xor (s / 256)) none ∙ xor_zero_r (s / 256) in
    turns_split 8 (bit_xor s o) ∙ rw high refl

-- one turn more
pub turns_more : (n s : ℕ) → crc_steps (n + 1) s ≡ crc_step_of (crc_steps n s)
unfolding crc_steps
turns_more zero s = refl
turns_more (suc n) s = let next : suc n + 1 ≡ suc (n + 1) = omega arith in rw next (turns_more n (crc_step_of s))

pub turns_none : (s : ℕ) → crc_steps 0 s ≡ s
unfolding crc_steps
turns_none s = refl

-- ---- eight octets at once

-- the highest octet of some, where those below it are known
higher : (k m n z : ℕ) → crc_steps (k + m) (n % 2 ^ k) ≡ z
    → crc_steps (k + m) (n % 2 ^ (8 + k)) ≡ bit_xor z (crc_steps m (n / 2 ^ k % 256))
higher k m n z below =
    let o : ℕ = n / 2 ^ k % 256 in
    let apart : n % 2 ^ (8 + k) ≡ bit_xor (n % 2 ^ k) (o * 2 ^ k) =
    mod-pow-add n 8 k ∙ sym (xor_shifted o k (n % 2 ^ k) (mod_below n (2 ^ k) (pow_pos k)))
    ∙ xor_comm (o * 2 ^ k) (n % 2 ^ k) in
    rw (apart, crc_steps-xor (k + m) (n % 2 ^ k) (o * 2 ^ k), below, steps-past k m o) refl

-- each of eight octets takes its own steps and those of the octets that follow it
pub eight-octets : (n : ℕ) → n < 2 ^ 64 → crc_steps 64 n
    ≡ (let two = bit_xor (crc_steps 64 (n % 256)) (crc_steps 56 (n / 2 ^ 8 % 256)) in
    let four = bit_xor (bit_xor two (crc_steps 48 (n / 2 ^ 16 % 256))) (crc_steps 40 (n / 2 ^ 24 % 256)) in
    let six = bit_xor (bit_xor four (crc_steps 32 (n / 2 ^ 32 % 256))) (crc_steps 24 (n / 2 ^ 40 % 256)) in
    bit_xor (bit_xor six (crc_steps 16 (n / 2 ^ 48 % 256))) (crc_steps 8 (n / 2 ^ 56)))
eight-octets n small =
    let four = higher 24 40 n _ (higher 16 48 n _ (higher 8 56 n _ refl)) in
    let all = higher 56 8 n _ (higher 48 16 n _ (higher 40 24 n _ (higher 32 32 n _ four))) in
    let whole : n % 2 ^ 64 ≡ n = omega (arith, small) in
    let high : n / 2 ^ 56 % 256 ≡ n / 2 ^ 56 = omega (arith, small) in
    ap (crc_steps 64) (sym whole) ∙ (rw high at all)

pub four-octets : (n : ℕ) → n < 2 ^ 32 → crc_steps 32 n
    ≡ (let two = bit_xor (crc_steps 32 (n % 256)) (crc_steps 24 (n / 2 ^ 8 % 256)) in
    bit_xor (bit_xor two (crc_steps 16 (n / 2 ^ 16 % 256))) (crc_steps 8 (n / 2 ^ 24)))
four-octets n small =
    let all = higher 24 8 n _ (higher 16 16 n _ (higher 8 24 n _ refl)) in
    let whole : n % 2 ^ 32 ≡ n = omega (arith, small) in
    let high : n / 2 ^ 24 % 256 ≡ n / 2 ^ 24 = omega (arith, small) in
    ap (crc_steps 32) (sym whole) ∙ (rw high at all)

-- one octet more, and a word of those that follow it
pub octet-first : (n s o w : ℕ) → o < 256
    → crc_steps (8 * suc n) (bit_xor s (w * 256 + o)) ≡ crc_steps (8 * n) (bit_xor (crc_steps 8 (bit_xor s o)) w)
octet-first n s o w small =
    let after : ℕ = crc_steps 8 (bit_xor s o) in
    let whole : 8 * suc n ≡ 8 + 8 * n = omega arith in
    let apart : bit_xor s (w * 256 + o) ≡ bit_xor (bit_xor s o) (w * 256) =
    ap (bit_xor s) (sym (xor_shifted w 8 o small) ∙ xor_comm (w * 256) o) ∙ sym (xor_assoc s o (w * 256)) in
    ap (λ (j : ℕ). crc_steps j (bit_xor s (w * 256 + o))) whole ∙ steps-sum 8 (8 * n) (bit_xor s (w * 256 + o))
    ∙ ap (λ (j : ℕ). crc_steps (8 * n) (crc_steps 8 j)) apart
    ∙ ap (crc_steps (8 * n)) (crc_steps-xor 8 (bit_xor s o) (w * 256) ∙ ap (bit_xor after) (turns_shift 8 w))
