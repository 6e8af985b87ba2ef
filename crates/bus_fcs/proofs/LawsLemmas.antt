-- The laws of the frame check.
use Rattle.std.proofs.Common.{◌+◌, take, drop, ◌≡◌, ◌↔◌, ℕ, ◌-◌, ◌≤◌, Bool, true, false, not, List, ◌++◌, length, map}
use Rattle.std.proofs.Common.{replicate, refl, sym, ap, ◌∙◌, arith, append_assoc, length-append}
use Rattle.std.proofs.lemmas.List.{length-replicate, length-map, take-append-drop, drop-drop, length-take, length-drop}
use Rattle.bus_fcs.specs.Division.{add, divided, remainder}
use Rattle.bus_fcs.specs.FrameCheck.{Good, fcs}
use Rattle.bus_fcs.specs.Internal.Register.{register}
use Rattle.bus_fcs.proofs.DivisionSumLemmas.{length-add, add_again, add_left_comm, add_assoc_of, add-append, add-parts}
use Rattle.bus_fcs.proofs.DivisionSumLemmas.{add-zeros, add_more_zeros, add_to_zeros, add_sixteen_ones, not-not}
use Rattle.bus_fcs.proofs.DivisionSumLemmas.{add_self, same_from_add}
use Rattle.bus_fcs.specs.Laws.{FcsIsOnly, BurstIsSeen}
use Rattle.bus_fcs.proofs.FrameCheckLemmas.{good_sum}
use Rattle.bus_fcs.proofs.DivisionLemmas.{remainder_add, remainder-append, remainder-zeros, remainder_own}
use Rattle.bus_fcs.proofs.DivisionLemmas.{length-remainder, divided_zero}

abbrev zeros : ℕ → List Bool
zeros n = replicate n false

abbrev ones : List Bool
ones = replicate 16 true

pub length-register : (d : List Bool) → length (register d) ≡ 16
unfolding register
length-register d = length-remainder (add ones (d ++ zeros 16))

-- sixteen more bits add to the remainder of sixteen zeros
pub remainder_tail : (u t : List Bool) → length t ≡ 16 → remainder (u ++ t) ≡ add (remainder (u ++ zeros 16)) t
remainder_tail u t sixteen =
    let parts : add (u ++ zeros 16) (zeros (length u) ++ t) ≡ u ++ t =
    add-parts u (zeros 16) (zeros (length u)) t (sym (length-replicate (length u) false))
    ∙ (let front = add_to_zeros u in let back = add-zeros 16 t in cc) in
    let same-length : length (u ++ zeros 16) ≡ length (zeros (length u) ++ t) =
    omega (arith, length-append u (zeros 16), length-append (zeros (length u)) t, length-replicate (length u) false) in
    ap remainder (sym parts) ∙ remainder_add (u ++ zeros 16) (zeros (length u) ++ t) same-length
    ∙ ap (add (remainder (u ++ zeros 16))) (remainder-zeros (length u) t ∙ remainder_own t sixteen)

-- the check bits are the inverted register
pub fcs-register : (c : List Bool) → fcs c ≡ map not (register c)
unfolding fcs register
fcs-register c =
    let same-length : length (ones ++ zeros (length c)) ≡ length (c ++ zeros 16) =
    omega (
      arith,
      length-append ones (zeros (length c)),
      length-append c (zeros 16),
      length-replicate (length c) false,
    ) in
    ap (map not)
    (sym (remainder_add (ones ++ zeros (length c)) (c ++ zeros 16) same-length)
    ∙ ap remainder (add_more_zeros ones (length c) (c ++ zeros 16)))

-- `c`, with its first sixteen bits inverted
abbrev turned : List Bool → List Bool
turned c = add ones c

-- what `Good` inverts
good_mask : (c t : List Bool) → 16 ≤ length c → length t ≡ 16
    → add (ones ++ zeros (length (c ++ t) - 32) ++ ones) (c ++ t) ≡ turned c ++ map not t
good_mask c t long sixteen =
    let m = length (c ++ t) - 32 in
    let same-length : length (ones ++ zeros m) ≡ length c =
    omega (arith, length-append c t, length-append ones (zeros m), length-replicate m false) in
    add-parts (ones ++ zeros m) ones c t same-length
    ∙ (let front = add_more_zeros ones m c in let back = add_sixteen_ones t sixteen in cc)

-- good data, by the register after its content
pub good-register : (c t : List Bool) → 16 ≤ length c → length t ≡ 16 → Good (c ++ t) ↔ (register c ≡ map not t)
unfolding register
good-register c t long sixteen =
    let good = good_sum (c ++ t) (omega (arith, length-append c t)) in
    let inverted : length (map not t) ≡ 16 = length-map t not ∙ sixteen in
    let sum : remainder (add (ones ++ zeros (length (c ++ t) - 32) ++ ones) (c ++ t)) ≡ add (register c) (map not t) =
    ap remainder (good_mask c t long sixteen) ∙ remainder_tail (turned c) (map not t) inverted
    ∙ ap (λ (z : List Bool). add (remainder z) (map not t)) (sym (add-append ones c (zeros 16) long)) in
    let same-length : length (register c) ≡ length (map not t) = length-register c ∙ sym inverted in (
      (λ is-good.
          same_from_add (register c) (map not t) same-length (sym sum ∙ good.0 is-good ∙ ap zeros (sym inverted))),
      (λ same.
          good.1 (sum ∙ ap (λ (z : List Bool). add z (map not t)) same ∙ add_self (map not t) ∙ ap zeros inverted)),
    )

fcs_iff : (c t : List Bool) → 16 ≤ length c → length t ≡ 16 → Good (c ++ t) ↔ (t ≡ fcs c)
fcs_iff c t long sixteen =
    let good = good-register c t long sixteen in (
      (λ is-good. sym (not-not t) ∙ ap (map not) (sym (good.0 is-good)) ∙ sym (fcs-register c)),
      (λ is. good.1 (sym (not-not (register c)) ∙ ap (map not) (sym (fcs-register c)) ∙ ap (map not) (sym is))),
    )

pub length-fcs : (c : List Bool) → length (fcs c) ≡ 16
length-fcs c = ap length (fcs-register c) ∙ length-map (register c) not ∙ length-register c

pub fcs_only : FcsIsOnly
fcs_only c long = (
  length-fcs c,
  (fcs_iff c (fcs c) long (length-fcs c)).1 refl,
  (λ t sixteen is-good. (fcs_iff c t long sixteen).0 is-good),
)

-- the sum of two good data is a multiple
sum_of_good : (d e : List Bool) → 32 ≤ length d → length d ≡ length e → Good d → Good e → remainder (add d e) ≡ zeros 16
sum_of_good d e long same-length d-good e-good =
    let mask : List Bool = ones ++ zeros (length d - 32) ++ ones in
    let first : remainder (add mask d) ≡ zeros 16 = (good_sum d long).0 d-good in
    let second : remainder (add mask e) ≡ zeros 16 =
    ap (λ (n : ℕ). remainder (add (ones ++ zeros (n - 32) ++ ones) e)) same-length
    ∙ (good_sum e (omega arith)).0 e-good in
    let both : length (add mask d) ≡ length (add mask e) = length-add mask d ∙ same-length ∙ sym (length-add mask e) in
    let sum : add (add mask d) (add mask e) ≡ add d e =
    add_left_comm (add mask d) mask e ∙ ap (add mask) (add_assoc_of mask d e same-length)
    ∙ add_again mask (add d e) in
    ap remainder (sym sum) ∙ remainder_add (add mask d) (add mask e) both
    ∙ (let none : add (zeros 16) (zeros 16) ≡ zeros 16 = add-zeros 16 (zeros 16) in cc)

burst : (u w x v : List Bool) → length w ≡ 16 → length x ≡ 16 → 32 ≤ length (u ++ w ++ v) → Good (u ++ w ++ v)
    → Good (u ++ x ++ v) → w ≡ x
burst u w x v w-sixteen x-sixteen long w-good x-good =
    let fronts : length (u ++ w) ≡ length (u ++ x) = omega (arith, length-append u w, length-append u x) in
    let same-length : length (u ++ w ++ v) ≡ length (u ++ x ++ v) =
    omega (arith, length-append (u ++ w) v, length-append (u ++ x) v) in
    let apart : add (u ++ w ++ v) (u ++ x ++ v) ≡ zeros (length u) ++ add w x ++ zeros (length v) =
    add-parts (u ++ w) v (u ++ x) v fronts
    ∙ (let parts = add-parts u w u x refl in let front = add_self u in let back = add_self v in cc) in
    let sixteen : length (add w x) ≡ 16 = length-add w x ∙ x-sixteen in
    let shifted : remainder (zeros (length u) ++ add w x ++ zeros (length v))
    ≡ divided (length v) (add w x ++ zeros (length v)) =
    ap remainder (append_assoc (zeros (length u)) (add w x) (zeros (length v)))
    ∙ remainder-zeros (length u) (add w x ++ zeros (length v))
    ∙ remainder-append (add w x) (zeros (length v))
    ∙ (let own = remainder_own (add w x) sixteen in let count = length-replicate (length v) false in cc) in
    let none : add w x ≡ zeros 16 =
    divided_zero (length v) (add w x) sixteen (sym shifted ∙ sym (ap remainder apart)
    ∙ sum_of_good (u ++ w ++ v) (u ++ x ++ v) long same-length w-good x-good) in
    same_from_add w x (w-sixteen ∙ sym x-sixteen) (none ∙ ap zeros (sym x-sixteen))

-- three parts of a list
parts : (i : ℕ) (d : List Bool) → i + 16 ≤ length d → (take i d ++ take 16 (drop i d) ++ drop (i + 16) d ≡ d)
    × (length (take 16 (drop i d)) ≡ 16)
parts i d inside =
    let back : drop 16 (drop i d) ≡ drop (i + 16) d = drop-drop 16 i d in (
      append_assoc (take i d) (take 16 (drop i d)) (drop (i + 16) d)
          ∙ ap (λ (z : List Bool). take i d ++ (take 16 (drop i d) ++ z)) (sym back)
          ∙ ap (λ (z : List Bool). take i d ++ z) (take-append-drop 16 (drop i d)) ∙ take-append-drop i d,
      length-take 16 (drop i d) ∙ omega (arith, length-drop i d),
    )

pub burst_seen : BurstIsSeen
burst_seen d e i long same-length inside front back differ d-good e-good =
    let of-d = parts i d inside in
    let of-e = parts i e (omega arith) in
    let w = take 16 (drop i d) in
    let x = take 16 (drop i e) in
    let around : e ≡ take i d ++ x ++ drop (i + 16) d =
    sym of-e.0 ∙ ap (λ (u : List Bool). u ++ x ++ drop (i + 16) e) (sym front)
    ∙ ap (λ (u : List Bool). take i d ++ x ++ u) (sym back) in
    let same : w ≡ x =
    burst (take i d) w x (drop (i + 16) d) of-d.1 of-e.1 (rw of-d.0 long) (rw of-d.0 d-good) (rw (← around) e-good) in
    differ (sym of-d.0 ∙ ap (λ (u : List Bool). take i d ++ u ++ drop (i + 16) d) same ∙ sym around)
