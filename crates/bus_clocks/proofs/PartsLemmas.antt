-- Arrivals up to a bit of the second line, and those beyond it.
use Rattle.std.proofs.Common.{◌≡◌, ℕ, zero, suc, ◌+◌, ◌-◌, ◌<◌, ◌≤◌, Bool, List, [], ◌∷◌, ◌++◌, length, refl, sym, ap}
use Rattle.std.proofs.Common.{◌∙◌, arith, append-nil, length-append, inl, inr, Some}
use Rattle.std.proofs.Common.{◌*◌, get_or}
use Rattle.std.specs.Prelude.{slice_get, slice_set}
use Rattle.std.proofs.lemmas.Bool.{cases_lt}
use Rattle.std.proofs.lemmas.List.{get_or-set_other, get_or-set_same, length-set}
use Rattle.std.proofs.lemmas.Option.{get_or_from_slice_get, slice_get-get_or, slice_get_past, slice_get_within}
use Rattle.bus_bits.specs.Bits.{bit_at}
use Rattle.bus_line.specs.declared.line.Line.TheVariants.{First, Second}
use Rattle.bus_tap.specs.Arrival.{Arrival, arrival_of, arrivals_from, own, firsts_before}
use Rattle.bus_tap.proofs.ArrivalLemmas.{arrivals-first, arrivals-none, own-append, before-append}
use Rattle.bus_tap.proofs.ArrivalLemmas.{before-now}
use Rattle.bus_clocks.specs.Internal.Parts.{Parts, upto, beyond}
use Rattle.bus_clocks.specs.declared.parted.Parted.{Parted}
use Rattle.bus_clocks.proofs.RoomLemmas.{own-count}

pub upto-beyond : (n : ℕ) (xs : List Arrival) → upto n xs ++ beyond n xs ≡ xs
upto-beyond zero xs = refl
upto-beyond (suc n) [] = refl
upto-beyond (suc n) ((First, bit) ∷ xs) = ap (λ ys. (First, bit) ∷ ys) (upto-beyond (suc n) xs)
upto-beyond (suc n) ((Second, bit) ∷ xs) = ap (λ ys. (Second, bit) ∷ ys) (upto-beyond n xs)

upto-none : (n : ℕ) → upto n [] ≡ []
upto-none zero = refl
upto-none (suc n) = refl

-- so many bits, and more
pub upto-more : (m n : ℕ) (xs : List Arrival) → upto (m + n) xs ≡ upto m xs ++ upto n (beyond m xs)
upto-more zero n xs = let none : 0 + n ≡ n = omega arith in ap (λ k. upto k xs) none
upto-more (suc m) n [] = upto-none (suc m + n) ∙ sym (upto-none n)
upto-more (suc m) n ((First, bit) ∷ xs) =
    let next : suc m + n ≡ suc (m + n) = omega arith in
    ap (λ k. upto k ((First, bit) ∷ xs)) next
    ∙ ap (λ ys. (First, bit) ∷ ys) (ap (λ k. upto k xs) (sym next) ∙ upto-more (suc m) n xs)
upto-more (suc m) n ((Second, bit) ∷ xs) =
    let next : suc m + n ≡ suc (m + n) = omega arith in
    ap (λ k. upto k ((Second, bit) ∷ xs)) next ∙ ap (λ ys. (Second, bit) ∷ ys) (upto-more m n xs)

-- they have so many bits of the second line
pub count-upto : (n : ℕ) (xs : List Arrival) → n ≤ length (own Second xs) → length (own Second (upto n xs)) ≡ n
count-upto zero xs inside = refl
count-upto (suc n) [] inside = absurd (omega (arith, inside))
count-upto (suc n) ((First, bit) ∷ xs) inside = count-upto (suc n) xs inside
count-upto (suc n) ((Second, bit) ∷ xs) inside = ap suc (count-upto n xs (omega (arith, inside)))

pub count-beyond : (n : ℕ) (xs : List Arrival) → n ≤ length (own Second xs) →
    length (own Second (beyond n xs)) ≡ length (own Second xs) - n
count-beyond n xs inside = omega (
  arith,
  count-upto n xs inside,
  ap length (own-append Second (upto n xs) (beyond n xs)),
  length-append (own Second (upto n xs)) (own Second (beyond n xs)),
  ap (λ ys. length (own Second ys)) (upto-beyond n xs),
)

-- and those of the first line that come before the last of them
pub firsts-upto : (n : ℕ) (xs : List Arrival) → n < length (own Second xs) →
    length (own First (upto (suc n) xs)) ≡ firsts_before n xs
firsts-upto n [] inside = absurd (omega (arith, inside))
firsts-upto n ((First, bit) ∷ xs) inside = ap suc (firsts-upto n xs inside)
firsts-upto zero ((Second, bit) ∷ xs) inside = refl
firsts-upto (suc n) ((Second, bit) ∷ xs) inside = firsts-upto n xs (omega (arith, inside))

-- the last of them is a bit of the second line
pub record EndsWithSecond (zs : List Arrival) : Type 0 where
  pub front : List Arrival
  pub bit : Bool
  pub whole : zs ≡ front ++ (Second, bit) ∷ []

pub ends-with : (n : ℕ) (xs : List Arrival) → n < length (own Second xs) → EndsWithSecond (upto (suc n) xs)
ends-with n [] inside = absurd (omega (arith, inside))
ends-with n ((First, bit) ∷ xs) inside =
    let rest = ends-with n xs inside in
    record { front = (First, bit) ∷ rest.front; bit = rest.bit; whole = ap (λ ys. (First, bit) ∷ ys) rest.whole }
ends-with zero ((Second, bit) ∷ xs) inside = record { front = []; bit = bit; whole = refl }
ends-with (suc n) ((Second, bit) ∷ xs) inside =
    let rest = ends-with n xs (omega (arith, inside)) in
    record { front = (Second, bit) ∷ rest.front; bit = rest.bit; whole = ap (λ ys. (Second, bit) ∷ ys) rest.whole }

-- bits of the second line behind other arrivals
pub before-behind : (i : ℕ) (xs zs : List Arrival) →
    firsts_before (length (own Second xs) + i) (xs ++ zs) ≡ length (own First xs) + firsts_before i zs
before-behind i [] zs =
    let none : 0 + i ≡ i = omega arith in
    ap (λ k. firsts_before k zs) none ∙ omega arith
before-behind i ((First, bit) ∷ xs) zs = ap suc (before-behind i xs zs) ∙ omega arith
before-behind i ((Second, bit) ∷ xs) zs =
    let next : suc (length (own Second xs)) + i ≡ suc (length (own Second xs) + i) = omega arith in
    ap (λ k. firsts_before k ((Second, bit) ∷ (xs ++ zs))) next ∙ before-behind i xs zs

-- bit `i` of a stretch from bit `m` on
pub before-stretch : (m n i : ℕ) (xs : List Arrival) → m ≤ length (own Second xs) →
    i < length (own Second (upto n (beyond m xs))) →
    firsts_before (m + i) xs ≡ length (own First (upto m xs)) + firsts_before i (upto n (beyond m xs))
before-stretch m n i xs inside near =
    let front = upto m xs in
    let zs = beyond m xs in
    let count : m + i ≡ length (own Second front) + i = omega (arith, count-upto m xs inside) in
    ap (λ ys. firsts_before (m + i) ys) (sym (upto-beyond m xs))
    ∙ (ap (λ k. firsts_before k (front ++ zs)) count
    ∙ (before-behind i front zs
    ∙ ap (λ k. length (own First front) + k)
    (ap (λ ys. firsts_before i ys) (sym (upto-beyond n zs)) ∙ before-append i (upto n zs) (beyond n zs) near)))

-- items after one was set
pub get-same : (xs : List ℕ) (i v : ℕ) → i < length xs → slice_get (slice_set xs i v) i ≡ Some v
get-same xs i v inside =
    slice_get-get_or (slice_set xs i v) i 0 (omega (arith, length-set xs i v, inside))
    ∙ ap Some (get_or-set_same xs i v 0 inside)

pub get-other : (xs : List ℕ) (i k v x : ℕ) → (k ≡ i → ⊥) → slice_get xs k ≡ Some x →
    slice_get (slice_set xs i v) k ≡ Some x
get-other xs i k v x other is =
    slice_get-get_or (slice_set xs i v) k 0 (omega (arith, length-set xs i v, slice_get_within xs k x is))
    ∙ ap Some (get_or-set_other xs i k v 0 other ∙ get_or_from_slice_get xs k x 0 is)

-- an item beside one that was set
pub get-beside : (xs : List ℕ) (i k v : ℕ) → (k ≡ i → ⊥) → slice_get (slice_set xs i v) k ≡ slice_get xs k
get-beside xs i k v other = elim (cases_lt k (length xs)) [
  | inl inside ↦
      (let is = slice_get-get_or xs k 0 inside in get-other xs i k v (get_or xs k 0) other is ∙ sym is)
  | inr beyond ↦
      slice_get_past (slice_set xs i v) k (omega (arith, length-set xs i v, beyond)) ∙ sym (slice_get_past xs k beyond)
]

-- one arrival of two rows of octets
pub arrivals-one : (bits lines : List ℕ) (at : ℕ) →
    arrivals_from bits lines at 1 ≡ arrival_of (bit_at bits at, bit_at lines at) ∷ []
arrivals-one bits lines at =
    arrivals-first bits lines at 0
    ∙ ap (λ (ys : List Arrival). arrival_of (bit_at bits at, bit_at lines at) ∷ ys) (arrivals-none bits lines (at + 1))

-- none are parted at first
pub parts-none : (p : Parted) → [] ≡ p.first → [] ≡ p.second → length p.before ≡ 512 → Parts [] p
parts-none p first second long = record {
  few = omega arith;
  long = long;
  first = sym first;
  second = sym second;
  before = λ k inside. absurd (omega (arith, inside));
}

-- an arrival more is parted
pub parts-first : (xs : List Arrival) (p : Parted) (x : Arrival) (b : List Bool) → x.0 ≡ First → length xs < 512 →
    Parts xs p → b ≡ p.first ++ x.1 ∷ [] → Parts (xs ++ x ∷ []) (record p { first = b })
parts-first xs p (Second, bit) b is room parts at = absurd (cc)
parts-first xs p (First, bit) b is room parts at =
    let more : List Arrival = (First, bit) ∷ [] in
    let same : own Second (xs ++ more) ≡ own Second xs = own-append Second xs more ∙ append-nil (own Second xs) in
    record {
      few = omega (arith, room, length-append xs more);
      long = parts.long;
      first = at ∙ (ap (λ c. c ++ bit ∷ []) parts.first ∙ sym (own-append First xs more));
      second = parts.second ∙ sym same;
      before = λ k inside.
          let here : k < length (own Second xs) = rw same at inside in
          parts.before k here ∙ ap Some (sym (before-append k xs more here));
    }

pub parts-second : (xs : List Arrival) (p : Parted) (x : Arrival) (b : List Bool) (at count : ℕ) → x.0 ≡ Second →
    length xs < 512 → Parts xs p → at ≡ length p.second → count ≡ length p.first → b ≡ p.second ++ x.1 ∷ [] →
    Parts (xs ++ x ∷ []) (record p { second = b; before = slice_set p.before at count })
parts-second xs p (First, bit) b at count is room parts at_is count_is grown = absurd (cc)
parts-second xs p (Second, bit) b at count is room parts at_is count_is grown =
    let more : List Arrival = (Second, bit) ∷ [] in
    let n = length (own Second xs) in
    let same : own First (xs ++ more) ≡ own First xs = own-append First xs more ∙ append-nil (own First xs) in
    let here : at ≡ n = at_is ∙ ap length parts.second in
    let now : count ≡ length (own First xs) = count_is ∙ ap length parts.first in
    let near : at < length p.before = omega (arith, here, own-count xs, room, parts.long) in
    record {
      few = omega (arith, room, length-append xs more);
      long = length-set p.before at count ∙ parts.long;
      first = parts.first ∙ sym same;
      second = grown ∙ (ap (λ c. c ++ bit ∷ []) parts.second ∙ sym (own-append Second xs more));
      before = λ k inside. elim (cases_lt k n) [
        | inl before ↦
            get-other p.before at k count _ (λ is. omega (arith, is, here, before)) (parts.before k before)
            ∙ ap Some (sym (before-append k xs more before))
        | inr last ↦
            (let is : k ≡ n = omega (
              arith,
              last,
              inside,
              ap length (own-append Second xs more),
              length-append (own Second xs) (bit ∷ []),
            ) in
            ap (slice_get (slice_set p.before at count)) (is ∙ sym here)
            ∙ (get-same p.before at count near
            ∙ ap Some (now ∙ (sym (before-now xs bit) ∙ ap (λ j. firsts_before j (xs ++ more)) (sym is)))))
      ];
    }
