-- Bits of one octet.
use Rattle.std.proofs.Common.{◌≡◌, ℕ, zero, suc, ◌+◌, ◌-◌, ◌*◌, ◌/◌, ◌%◌, ◌^◌, ◌≤◌, ◌==◌, List, Bool, [], ◌∷◌, ◌++◌}
use Rattle.std.proofs.Common.{take, drop, refl, ap, sym, ◌∙◌, arith, w8}
use Rattle.std.proofs.Math.Seq.{drop-append_seam}
use mathlib.Core.List.{reverse_aux}
use Rattle.std.specs.Int.{reverse_bits, reverse_bits_onto}
use Rattle.bus_bits.specs.Octet.{bits_of}
use Rattle.bus_bits.specs.Bits.{bits_from}
use Rattle.bus_bits.proofs.OctetLemmas.{bits-front, bits-split, length-bits}
use Rattle.bus_bits.proofs.BitLemmas.{bits-in}
use Rattle.port1_c.specs.Bits.{high_first}

-- an octet alone, from any of its bits on
pub octet-alone : (o at n : ℕ) → at + n ≤ 8 → bits_of n (o / 2 ^ at) ≡ bits_from (o ∷ []) at n
octet-alone o at n l = bits-in (o ∷ []) 0 at at n (omega arith) l

-- the bits after the first `at` of so many
behind : (at k m x : ℕ) → m ≡ at + k → drop at (bits_of m x) ≡ bits_of k (x / 2 ^ at)
behind at k m x e =
    ap (λ (i : ℕ). drop at (bits_of i x)) e
    ∙ (ap (drop at) (bits-split at k x)
    ∙ (ap (λ (i : ℕ). drop i (bits_of at x ++ bits_of k (x / 2 ^ at))) (sym (length-bits at x))
    ∙ drop-append_seam (bits_of at x) (bits_of k (x / 2 ^ at))))

-- the reversed bits of a number before those of another
reversed : (k j m n a : ℕ) → m ≡ k + j → bits_of m (reverse_bits_onto k n a) ≡ reverse_aux (bits_of k n) (bits_of j a)
unfolding bits_of reverse_bits_onto
reversed zero j m n a e = let f : m ≡ j = omega (arith, e) in ap (λ (i : ℕ). bits_of i a) f
reversed (suc k) j m n a e =
    let f : m ≡ k + suc j = omega (arith, e) in
    let low : (a * 2 + n % 2) % 2 ≡ n % 2 = omega arith in
    let high : (a * 2 + n % 2) / 2 ≡ a = omega arith in
    let both : bits_of (suc j) (a * 2 + n % 2) ≡ (n % 2 == 1) ∷ bits_of j a = rw (low, high) refl in
    reversed k (suc j) m (n / 2) (a * 2 + n % 2) f ∙ ap (reverse_aux (bits_of k (n / 2))) both

-- an octet that was reversed has its bits with the highest first
reversed-octet : (o at n : ℕ) → at + n ≤ 8 → bits_from (reverse_bits w8 o ∷ []) at n ≡ high_first o at n
unfolding bits_of
reversed-octet o at n l =
    let r = reverse_bits w8 o in
    let k = 8 - at in
    let e : 8 ≡ at + k = omega (arith, l) in
    sym (octet-alone r at n l)
    ∙ (sym (bits-front n k (r / 2 ^ at) (omega (arith, l)))
    ∙ (ap (take n) (sym (behind at k 8 r e)) ∙ ap (λ (d : List Bool). take n (drop at d)) (reversed 8 0 8 o 0 refl)))

pub bits-of-reversed : (o r at n : ℕ) → r ≡ reverse_bits w8 o → at + n ≤ 8 → bits_from (r ∷ []) at n ≡ high_first o at n
bits-of-reversed o r at n i l = ap (λ (x : ℕ). bits_from (x ∷ []) at n) i ∙ reversed-octet o at n l
