use Rattle.std.proofs.Common.{◌≡◌, ◌+◌, ◌<◌, ◌==◌, ◌||◌, ℕ, Bool, List, length, map, ap, refl, ◌∙◌}
use Rattle.std.proofs.lemmas.List.{length-map}
use Rattle.std.proofs.lemmas.Simd.{mask_l-lt}
use Rattle.std.specs.Simd.Lanes.{mask_l}
use Rattle.bus_bits.specs.Octet.{bits_of}
use Rattle.bus_formats.specs.Capture.{is_arrival, mark_arrival}
use Rattle.bus_bits.specs.Text.{is_bit}
use Rattle.bus_formats.proofs.ArrivalPlanesLemmas.{first-is-no-second, mask-sum, one-is-first, second-zero-is}
use Rattle.bus_formats.proofs.ArrivalPlanesLemmas.{zero-is-first}
use Rattle.bus_formats.proofs.TextMarksLemmas.{bits-mask}
use Rattle.bus_formats.proofs.arrival_planes.marks_of.Goals as goal

-- which of 32 octets are of one kind, as a number
kind : (os : List ℕ) (p : ℕ → Bool) (n : ℕ) → length os ≡ 32 → n ≡ mask_l (map p os) →
    (bits_of 32 n ≡ map p os) × (n < 4294967296)
kind os p n long is = (
  ap (bits_of 32) is ∙ bits-mask (map p os) 32 (length-map os p ∙ long),
  rw is (rw (length-map os p ∙ long) at (mask_l-lt (map p os))),
)

ones : (os : List ℕ) (a b n : ℕ) → length os ≡ 32 → a ≡ mask_l (map (λ x. x == 49) os)
    → b ≡ mask_l (map (λ x. x == 105) os) → n ≡ a + b
    → (bits_of 32 n ≡ map (λ x. (mark_arrival x).0) os) × (n < 4294967296)
ones os a b n long first second is =
    kind os (λ x. (mark_arrival x).0) n long
    (is ∙ rw (first, second) (mask-sum (λ x. x == 49) (λ x. x == 105) one-is-first os))

seconds : (os : List ℕ) (a b n : ℕ) → length os ≡ 32 → a ≡ mask_l (map (λ x. x == 111) os)
    → b ≡ mask_l (map (λ x. x == 105) os) → n ≡ a + b
    → (bits_of 32 n ≡ map (λ x. (mark_arrival x).1) os) × (n < 4294967296)
seconds os a b n long zero one is =
    kind os (λ x. (mark_arrival x).1) n long
    (is ∙ rw (zero, one) (mask-sum (λ x. x == 111) (λ x. x == 105) second-zero-is os))

all : (os : List ℕ) (a b c d n : ℕ) → length os ≡ 32 → a ≡ mask_l (map (λ x. x == 48) os)
    → b ≡ mask_l (map (λ x. x == 49) os) → c ≡ mask_l (map (λ x. x == 111) os)
    → d ≡ mask_l (map (λ x. x == 105) os) → n ≡ a + b + (c + d)
    → (bits_of 32 n ≡ map is_arrival os) × (n < 4294967296)
all os a b c d n long zero one second-zero second-one is =
    kind os is_arrival n long
    (is ∙ rw (zero, one, second-zero, second-one)
    (rw (
      mask-sum (λ x. x == 48) (λ x. x == 49) zero-is-first os,
      mask-sum (λ x. x == 111) (λ x. x == 105) second-zero-is os,
    )
    (mask-sum is_bit (λ x. (x == 111) || (x == 105)) first-is-no-second os)))

pub returns-clause-bits : goal.returns-clause-bits
returns-clause-bits c =
    (ones c.args.octets.now c.lanes-first_ones.result c.lanes-second_ones.result _ c.told-octets
    c.lanes-first_ones.ensures.value c.lanes-second_ones.ensures.value refl).0

pub returns-clause-lines : goal.returns-clause-lines
returns-clause-lines c =
    (seconds c.args.octets.now c.lanes.result c.lanes-second_ones.result _ c.told-octets
    c.lanes.ensures.value c.lanes-second_ones.ensures.value refl).0

pub returns-clause-marks : goal.returns-clause-marks
returns-clause-marks c =
    (all c.args.octets.now c.lanes-2.result c.lanes-first_ones.result c.lanes.result c.lanes-second_ones.result _
    c.told-octets c.lanes-2.ensures.value c.lanes-first_ones.ensures.value c.lanes.ensures.value
    c.lanes-second_ones.ensures.value refl).0

pub returns-clause-few : goal.returns-clause-few
returns-clause-few c = (
  (ones c.args.octets.now c.lanes-first_ones.result c.lanes-second_ones.result _ c.told-octets
      c.lanes-first_ones.ensures.value c.lanes-second_ones.ensures.value refl).1,
  (seconds c.args.octets.now c.lanes.result c.lanes-second_ones.result _ c.told-octets
      c.lanes.ensures.value c.lanes-second_ones.ensures.value refl).1,
  (all c.args.octets.now c.lanes-2.result c.lanes-first_ones.result c.lanes.result c.lanes-second_ones.result _
      c.told-octets c.lanes-2.ensures.value c.lanes-first_ones.ensures.value c.lanes.ensures.value
      c.lanes-second_ones.ensures.value refl).1,
)
