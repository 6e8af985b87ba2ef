-- Numbers in decimal by tables.
use Rattle.std.proofs.Common.{arith, ◌≡◌, refl, sym, ◌∙◌, ap, ◌+◌, ◌*◌, ◌/◌, ◌%◌, ◌<◌, ◌≤◌, ◌^◌, ◌++◌, ◌∷◌, [], ℕ, List}
use Rattle.std.proofs.Common.{take, map, get_or, decimal, drop, length, length-append}
use Rattle.arrayvec.specs.ArrayVec.{ArrayVec}
use Rattle.bus_text.specs.Advances.{AdvancesText}
use Rattle.std.proofs.lemmas.List.{take_at, drop_at}
use borrow.Rule.Slice.PartMut.{put_mid}
use Rattle.std.specs.List.{range_with_len}
use Rattle.std.proofs.lemmas.List.FromFn.{get_or-map-range_with_len}
use Rattle.itoa.proofs.Decimal.{pair, decimal_pair, decimal_four}
use Rattle.std.proofs.lemmas.Fmt.{decimal_digit}
use Rattle.bus_text.specs.declared.places.TheConstants.{PAIRS}

-- what a text is once a part of it was written over
pub mid-written : (front part after : List ℕ) (new text : List ℕ) (a k : ℕ) → text ≡ front ++ (part ++ after) →
    length front ≡ a
    → length part ≡ k → put_mid a k text new ≡ front ++ (new ++ after)
mid-written front part after new text a k is begin long =
    let before : take a (front ++ (part ++ after)) ≡ front = take_at front (part ++ after) a begin in
    let behind : drop k (drop a (front ++ (part ++ after))) ≡ after =
    ap (drop k) (drop_at front (part ++ after) a begin) ∙ drop_at part after k long in
    ap (λ l. take a l ++ (new ++ drop k (drop a l))) is ∙ ap (λ l. l ++ (new ++ drop k (drop a (front ++
    (part ++ after))))) before
    ∙ ap (λ l. front ++ (new ++ l)) behind

-- a number was appended, of which these are the digits
pub adds-digits : (old new : ArrayVec ℕ) (n : ℕ) (digits : List ℕ) → new.items ≡ old.items ++ digits → decimal n
    ≡ digits
    → length digits ≤ 3 → AdvancesText old (decimal n) 3 new
adds-digits old new n digits put is few = record {
  bytes = put ∙ ap (λ l. old.items ++ l) (sym is);
  len = omega (arith, ap length put, length-append old.items digits, few);
}

-- the digits of an octet that has three
pub three_digits : (o : ℕ) → 100 ≤ o → o < 256
    → decimal o ≡ (48 + o / 100) ∷ (48 + o / 10 % 10) ∷ (48 + o % 10) ∷ []
three_digits o hundred small =
    let tens : o % 100 / 10 ≡ o / 10 % 10 = omega (arith, small) in
    let ones : o % 100 % 10 ≡ o % 10 = omega (arith, small) in
    decimal_pair o hundred (omega (arith, small))
    ∙ ap (λ first. first ++ pair (o % 100)) (decimal_digit (o / 100) (omega (arith, small)))
    ∙ ap (λ t. (48 + o / 100) ∷ (48 + t) ∷ (48 + o % 100 % 10) ∷ []) tens
    ∙ ap (λ t. (48 + o / 100) ∷ (48 + o / 10 % 10) ∷ (48 + t) ∷ []) ones

pairs_are : PAIRS ≡ map pair (range_with_len 0 100)
pairs_are = refl

pub pair_at : (p : ℕ) → p < 100 → get_or PAIRS p [] ≡ pair p
pair_at p small =
    ap (λ pairs. get_or pairs p []) pairs_are ∙ get_or-map-range_with_len pair 0 100 p p [] small (omega arith)

-- a place: what its front is, and its last four digits
pub front_and_four : (front n : ℕ) → 0 < front → n < 10000 → 10000 * front + n < 2 ^ 64
    → decimal front ++ (pair (n / 100) ++ pair (n % 100)) ≡ decimal (10000 * front + n)
front_and_four front n some small fits =
    let before : (10000 * front + n) / 10000 ≡ front = omega (arith, small) in
    let four : (10000 * front + n) % 10000 ≡ n = omega (arith, small) in
    sym (rw before at (rw four at (decimal_four (10000 * front + n) (omega (arith, some)) fits)))
