-- Bits after those that octets hold, and some of those that octets hold.
use Rattle.std.proofs.Common.{◌≡◌, ℕ, ◌+◌, ◌-◌, ◌*◌, ◌%◌, ◌^◌, ◌<◌, ◌≤◌, Bool, List, ◌++◌, length, take, refl}
use Rattle.std.proofs.Common.{sym, ap, ◌∙◌, arith, length-append, append_assoc, mod-lt}
use Rattle.std.specs.Prelude.{bit_and, bit_or, slice_index}
use Rattle.std.specs.Int.{w64, to_le_bytes}
use Rattle.std.proofs.lemmas.Nat.{and_mask, one_shl, pow_pos}
use Rattle.std.proofs.lemmas.List.{append_cancel_left, take_all}
use Rattle.std.proofs.Math.Seq.{take-append-add, take-append_seam}
use Rattle.std.proofs.lemmas.Grind.{common_steps}
use borrow.Rule.Slice.PartMut.{put_mid}
use Rattle.bus_bits.specs.Bits.{bits_from}
use Rattle.bus_bits.specs.Octet.{bits_of, bits_of_octets}
use Rattle.bus_bits.proofs.BitLemmas.{bits-in, bits-more, bits-taken, length-from}
use Rattle.bus_bits.proofs.OctetLemmas.{bits-front, bits-low}
use Rattle.bus_formats.proofs.PairBlockLemmas.{bits-stored}
use Rattle.bus_formats.proofs.TextBlockLemmas.{joined-bits, joined-is, le-bits}

-- the octets of a number that has some bits behind others of an octet, stored from that octet on
pub bits-appended : (os : List ℕ) (q k count bits rest joined : ℕ) → q + 8 ≤ length os → k < 8 → k + count ≤ 64
    → bits < 2 ^ count → rest ≡ bit_and (slice_index os q) (1 * 2 ^ k % 2 ^ 64 - 1)
    → joined ≡ bit_or rest (bits * 2 ^ k % 2 ^ 64)
    → bits_from (put_mid q (q + 8 - q) os (to_le_bytes w64 joined)) 0 (8 * q + k + count)
    ≡ bits_from os 0 (8 * q + k) ++ bits_of count bits
bits-appended os q k count bits rest joined inside few fits below kept is =
    let o = slice_index os q in
    let new = put_mid q (q + 8 - q) os (to_le_bytes w64 joined) in
    let front = bits_from os 0 (8 * q) in
    let low : rest ≡ o % 2 ^ k =
    kept ∙ (ap (λ (n : ℕ). bit_and o (n - 1)) (one_shl k 64 (omega (arith, few))) ∙ and_mask o k) in
    let small : rest < 2 ^ k = rw low (mod-lt o (pow_pos k)) in
    let sum : joined ≡ bits * 2 ^ k + rest = is ∙ joined-is rest bits k count small below fits in
    let octets : bits_of_octets (to_le_bytes w64 joined) ≡ bits_of 64 joined =
    ap bits_of_octets (sym (take_all 8 (to_le_bytes w64 joined) (omega arith))) ∙ le-bits 8 joined (omega arith) in
    let stored : bits_from new 0 (8 * (q + 8)) ≡ front ++ bits_of 64 joined =
    bits-stored os (to_le_bytes w64 joined) q 8 (q + 8) refl refl inside ∙ ap (λ (b : List Bool). front ++ b) octets in
    let here : 8 * q + k + count ≡ length front + (k + count) = omega (arith, length-from os 0 (8 * q)) in
    let first : bits_of k rest ≡ bits_from os (0 + 8 * q) k =
    ap (bits_of k) low ∙ (bits-low k o ∙ (ap (bits_of k) (omega arith)
    ∙ bits-in os q 0 (0 + 8 * q) k (omega arith) (omega (arith, few)))) in
    sym (bits-taken new 0 (8 * (q + 8)) (8 * q + k + count) (omega (arith, fits)))
    ∙ (ap (take (8 * q + k + count)) stored
    ∙ (ap (λ (n : ℕ). take n (front ++ bits_of 64 joined)) here
    ∙ (take-append-add front (bits_of 64 joined) (k + count)
    ∙ (ap (λ (b : List Bool). front ++ b) (bits-front (k + count) 64 joined fits
    ∙ rw sum (joined-bits rest bits k count small))
    ∙ (sym (append_assoc front (bits_of k rest) (bits_of count bits))
    ∙ ap (λ (b : List Bool). (front ++ b) ++ bits_of count bits) first
    ∙ ap (λ (b : List Bool). b ++ bits_of count bits) (sym (bits-more os 0 (8 * q) k)))))))

pub length-stored : (os written : List ℕ) (q : ℕ) → length written ≡ 8 → q + 8 ≤ length os →
    length (put_mid q (q + 8 - q) os written) ≡ length os
length-stored os written q long inside = grind (arith, common_steps)

-- those in the middle
pub bits-middle : (os : List ℕ) (a b c : List Bool) → bits_from os 0 (length (a ++ (b ++ c))) ≡ a ++ (b ++ c) →
    bits_from os (length a) (length b) ≡ b
bits-middle os a b c all =
    let sizes : length (a ++ (b ++ c)) ≡ length a + (length b + length c) =
    omega (arith, length-append a (b ++ c), length-append b c) in
    let parts : bits_from os 0 (length a) ++ bits_from os (0 + length a) (length b + length c) ≡ a ++ (b ++ c) =
    sym (bits-more os 0 (length a) (length b + length c)) ∙ (ap (bits_from os 0) (sym sizes) ∙ all) in
    let front : bits_from os 0 (length a) ≡ a =
    sym (front-of (bits_from os 0 (length a)) _ (length a) (length-from os 0 (length a)))
    ∙ (ap (take (length a)) parts ∙ take-append_seam a (b ++ c)) in
    let here : 0 + length a ≡ length a = omega arith in
    let rest : bits_from os (length a) (length b + length c) ≡ b ++ c =
    append_cancel_left a _ _
    (rw here at (ap (λ x. x ++ bits_from os (0 + length a) (length b + length c)) (sym front) ∙ parts)) in
    sym (front-of (bits_from os (length a) (length b)) _ (length b) (length-from os (length a) (length b)))
    ∙ (ap (take (length b)) (sym (bits-more os (length a) (length b) (length c)) ∙ rest) ∙ take-append_seam b c)
  where
    front-of : (x y : List Bool) (n : ℕ) → length x ≡ n → take n (x ++ y) ≡ x
    front-of x y n is = ap (λ (k : ℕ). take k (x ++ y)) (sym is) ∙ take-append_seam x y
