-- The fault of an entry's bits is a row that holds, and bits that are read have none.
use Rattle.std.proofs.Common.{◌≡◌, ◌≢◌, ℕ, ◌+◌, ◌*◌, ◌<◌, ◌≤◌, ◌==◌, ◌||◌, List, [], ◌∷◌, nat_lt, ◌⊎◌, inl, inr, codes}
use Rattle.std.proofs.Common.{option_and_then, refl, sym, ◌∙◌, ap, arith, Result, Ok, Err, Option, Some, None, Bool}
use Rattle.std.proofs.Common.{true, false, if◌then◌else◌, ◌↔◌, subst, Contains}
use Rattle.std.proofs.lemmas.Bool.Decides.{nat_tests}
use Rattle.toml.specs.Data.{Data, array, Items, item, no_items, get, as_array}
use Rattle.bus_dictionary.specs.declared.fault.DictFault.{DictFault}
use Rattle.bus_dictionary.specs.declared.fault.DictFault.TheVariants.{BadBit}
use Rattle.bus_dictionary.specs.DictFault.{◌>>=◌, need}
use Rattle.bus_dictionary.specs.BitName.{NamedBit, number_at, name_at, has_place, put_bit, entry_bit, entry_bits}
use Rattle.bus_dictionary.specs.BitName.{entry_bits_from}
use Rattle.bus_dictionary.specs.Says.{IsItem, here, later, HasNumber, HasName, HasBit, bit}
use Rattle.bus_dictionary.specs.FaultTable.{IsBitRow, bad_place, bad_bit_name, same_place}
use Rattle.bus_dictionary.proofs.BitNameLemmas.{then_ok, need_ok, unless_ok}
use Rattle.bus_dictionary.proofs.SaysLemmas.{number_says, says_number, no_number, number_not, name_says, no_name}
use Rattle.bus_dictionary.proofs.SaysLemmas.{name_not}
use Rattle.bus_dictionary.proofs.SaysUniqueLemmas.{front_or, in_front, in_back, none_in, same_number, same_name}

-- the place of a bit, where it is there and within the octets after the type, which are `size`
abbrev pub place_at : ℕ → Data → Option ℕ
place_at size b = number_at (8 * size) (codes "at") b

-- the rows of the bits from bit k on, as they are met
pub data IsBitFault (size k : ℕ) (bits : Items) : Type 0 where
  no_place : (n : ℕ) (b : Data) → IsItem k bits n b → place_at size b ≡ None → IsBitFault size k bits
  no_bit_name : (n : ℕ) (b : Data) → IsItem k bits n b → name_at b ≡ None → IsBitFault size k bits
  place_again : (m n at : ℕ) (a b : Data) → m < n → IsItem k bits m a → IsItem k bits n b → place_at size a ≡ Some at →
      place_at size b ≡ Some at → IsBitFault size k bits

bit_row : (size : ℕ) (ms : Items) → IsBitFault size 1 ms → IsBitRow size ms
bit_row size ms (no_place n b is none) = bad_place n b is (number_not (8 * size) (codes "at") b none)
bit_row size ms (no_bit_name n b is none) = bad_bit_name n b is (name_not b none)
bit_row size ms (place_again m n at a b less is1 is2 a1 a2) =
    same_place m n at a b less is1 is2 (number_says (8 * size) (codes "at") a at a1)
    (number_says (8 * size) (codes "at") b at a2)

row_bit : (size : ℕ) (ms : Items) → IsBitRow size ms → IsBitFault size 1 ms
row_bit size ms (bad_place n b is lacks) = no_place n b is (no_number (8 * size) (codes "at") b lacks)
row_bit size ms (bad_bit_name n b is lacks) = no_bit_name n b is (no_name b lacks)
row_bit size ms (same_place m n at a b less is1 is2 a1 a2) =
    place_again m n at a b less is1 is2 (says_number (8 * size) (codes "at") a at a1)
    (says_number (8 * size) (codes "at") b at a2)

-- a failure is that of the step, or of what comes after it
pub then_err : {A B : Type 0} (step : Result A DictFault) (next : A → Result B DictFault) (f : DictFault) →
    (step >>= next) ≡ Err f → (step ≡ Err f) ⊎ ((x : A) × (step ≡ Ok x) × (next x ≡ Err f))
then_err (Ok x) next f h = inr (x, refl, h)
then_err (Err e) next f h = let same : e ≡ f = cc in inl (ap Err same)

pub need_err : {A : Type 0} (o : Option A) (e f : DictFault) → need o e ≡ Err f → (o ≡ None) × (e ≡ f)
need_err None e f h = (refl, cc)
need_err (Some x) e f h = cc

pub unless_err : {A : Type 0} (t : Bool) (e f : DictFault) (x : A) → (if t then Err e else Ok x) ≡ Err f →
    (t ≡ true) × (e ≡ f)
unless_err true e f x h = (refl, cc)
unless_err false e f x h = cc

-- items count from the first
pub after : (k : ℕ) (ds : Items) (n : ℕ) (e : Data) → IsItem k ds n e → k ≤ n
after k _ _ _ (here _ d ds) = omega arith
after k _ n _ (later _ _ c d ds is) = let more = after (k + 1) ds n d is in omega arith

pub none_here : (k n : ℕ) (e : Data) → IsItem k no_items n e → ⊥
none_here k n e is = elim is [ ]

-- an item is the first, or one after it
pub behind : (k n : ℕ) (d : Data) (ds : Items) (e : Data) → IsItem k (item d ds) n e →
    ((n ≡ k) × (e ≡ d)) ⊎ IsItem (k + 1) ds n e
behind k _ d ds _ (here _ _ _) = inl (refl, refl)
behind k n d ds e (later _ _ _ _ _ more) = inr more

or_swap : (a b c : Bool) → (a || (b || c)) ≡ (b || (a || c))
or_swap true true c = refl
or_swap true false c = refl
or_swap false b c = refl

has_put : (at : ℕ) (new : NamedBit) (bits : List NamedBit) →
    has_place at (put_bit new bits) ≡ ((new.at == at) || has_place at bits)
has_put at new [] = refl
has_put at new (b ∷ bits) =
    elim (nat_lt new.at b.at) as (λ t. has_place at (if t then new ∷ b ∷ bits else b ∷ put_bit new bits)
    ≡ ((new.at == at) || ((b.at == at) || has_place at bits))) [
      | true ↦ refl
      | false ↦ ap (λ x. (b.at == at) || x) (has_put at new bits)
          ∙ or_swap (b.at == at) (new.at == at) (has_place at bits)
    ]

one_of : (a b : ℕ) (r : Bool) → ((a == b) || r) ≡ true → (r ≡ true) ⊎ (a ≡ b)
one_of a b true h = inl refl
one_of a b false h = inr (grind (arith, nat_tests))

kept_of : (x r : Bool) → r ≡ true → (x || r) ≡ true
kept_of true r h = refl
kept_of false r h = h

new_of : (a b : ℕ) (r : Bool) → a ≡ b → ((a == b) || r) ≡ true
new_of a b r h = grind (arith, nat_tests)

-- a bit with a place of those before
abbrev IsTaken : ℕ → ℕ → List NamedBit → Items → Type 0
IsTaken size k before ds = (n : ℕ) × (at : ℕ) × (b : Data) × IsItem k ds n b × (place_at size b ≡ Some at)
    × (has_place at before ≡ true)

bit_err : (n size k : ℕ) (before : List NamedBit) (d : Data) (ds : Items) (f : DictFault) →
    entry_bit n size before d ≡ Err f
    → (BadBit n ≡ f) × (IsBitFault size k (item d ds) ⊎ IsTaken size k before (item d ds))
unfolding entry_bit
bit_err n size k before d ds f h =
    let this = here k d ds in
    elim (then_err (need (place_at size d) (BadBit n)) _ f h) [
      | inl a ↦ let (none, is) = need_err (place_at size d) (BadBit n) f a in (is, inl (no_place k d this none))
      | inr (at, is_at, h1) ↦ elim (then_err (need (name_at d) (BadBit n)) _ f h1) [
        | inl a ↦ let (none, is) = need_err (name_at d) (BadBit n) f a in (is, inl (no_bit_name k d this none))
        | inr (name, is_named, h2) ↦
            let (taken, is) = unless_err (has_place at before) (BadBit n) f _ h2 in
            (is, inr (k, at, d, this, need_ok _ (BadBit n) at is_at, taken))
      ]
    ]

bit_place : (n size : ℕ) (before : List NamedBit) (d : Data) (b : NamedBit) → entry_bit n size before d ≡ Ok b →
    (place_at size d ≡ Some b.at) × (has_place b.at before ≡ false)
unfolding entry_bit
bit_place n size before d b h =
    let (at, is_at, h1) = then_ok (need (place_at size d) (BadBit n)) _ b h in
    let (name, is_named, h2) = then_ok (need (name_at d) (BadBit n)) _ b h1 in
    let (free, is) = unless_ok (has_place at before) (BadBit n) _ b h2 in
    let same : at ≡ b.at = ap (λ (x : NamedBit). x.at) is in
    (need_ok _ (BadBit n) at is_at ∙ ap (λ (x : ℕ). Some x) same, ap (λ (x : ℕ). has_place x before) (sym same) ∙ free)

lift_bit : (size k : ℕ) (c : Data) (ds : Items) → IsBitFault size (k + 1) ds → IsBitFault size k (item c ds)
lift_bit size k c ds (no_place n b is none) = no_place n b (later k n c b ds is) none
lift_bit size k c ds (no_bit_name n b is none) = no_bit_name n b (later k n c b ds is) none
lift_bit size k c ds (place_again m n at a b less is1 is2 a1 a2) =
    place_again m n at a b less (later k m c a ds is1) (later k n c b ds is2) a1 a2

bits_err : (n size k : ℕ) (before : List NamedBit) (ds : Items) (f : DictFault)
    → entry_bits_from n size before ds ≡ Err f
    → (BadBit n ≡ f) × (IsBitFault size k ds ⊎ IsTaken size k before ds)
unfolding entry_bits_from
bits_err n size k before no_items f h = cc
bits_err n size k before (item d ds) f h =
    elim (then_err (entry_bit n size before d) _ f h) [
      | inl a ↦ bit_err n size k before d ds f a
      | inr (x, is, h1) ↦
          let (is_f, fault) = bits_err n size (k + 1) (put_bit x before) ds f h1 in (
            is_f,
            elim fault [
              | inl row ↦ inl (lift_bit size k d ds row)
              | inr (m, at, b, is_b, is_at, taken) ↦ elim
                  (one_of x.at at (has_place at before) (sym (has_put at x before) ∙ taken)) [
                    | inl old ↦ inr (m, at, b, later k m d b ds is_b, is_at, old)
                    | inr same ↦
                        let less = after (k + 1) ds m b is_b in
                        inl (place_again k m at d b (omega arith) (here k d ds) (later k m d b ds is_b)
                        ((bit_place n size before d x is).0 ∙ ap (λ (y : ℕ). Some y) same) is_at)
                  ]
            ],
          )
    ]

none_taken : (size : ℕ) (ds : Items) → IsBitFault size 1 ds ⊎ IsTaken size 1 [] ds → IsBitFault size 1 ds
none_taken size ds (inl row) = row
none_taken size ds (inr (n, at, b, is, placed, taken)) = cc

array_of : (o : Option Data) (ms : Items) → option_and_then as_array o ≡ Some ms → o ≡ Some (array ms)
array_of None ms h = cc
array_of (Some (array xs)) ms h = let same : xs ≡ ms = cc in ap (λ (x : Items). Some (array x)) same
array_of (Some _) ms h = cc

not_array : (b : Data) → ((ms : Items) → b ≢ array ms) → as_array b ≡ None
not_array (array ms) lacks = absurd (lacks ms refl)
not_array _ lacks = refl

-- why the bits of an entry are not read
pub bits_in_err : (n size : ℕ) (o : Option Data) (f : DictFault) → entry_bits n size o ≡ Err f
    → (BadBit n ≡ f)
    × (((b : Data) × (o ≡ Some b) × ((ms : Items) → b ≢ array ms)) ⊎
    ((ms : Items) × (o ≡ Some (array ms)) × IsBitRow size ms))
bits_in_err n size None f h = cc
bits_in_err n size (Some d) f h =
    elim (then_err (need (as_array d) (BadBit n)) _ f h) [
      | inl a ↦ let (none, is) =
          need_err (as_array d) (BadBit n) f a in (is, inl (d, refl, λ ms same. let some = ap as_array same in cc))
      | inr (ds, is_array, h1) ↦
          let (is, fault) = bits_err n size 1 [] ds f h1 in (
            is,
            inr (
              ds,
              array_of (Some d) ds (need_ok _ (BadBit n) ds is_array),
              bit_row size ds (none_taken size ds fault),
            ),
          )
    ]

-- each bit of an entry was read
bit_read : (n size k : ℕ) (before : List NamedBit) (ds : Items) (bits : List NamedBit) (m : ℕ) (b : Data) →
    entry_bits_from n size before ds ≡ Ok bits → IsItem k ds m b
    → (old : List NamedBit) × (x : NamedBit) × (entry_bit n size old b ≡ Ok x)
unfolding entry_bits_from
bit_read n size _ before _ bits _ _ h (here k d ds) = let (x, is, h1) =
    then_ok (entry_bit n size before d) _ bits h in (before, x, is)
bit_read n size _ before _ bits _ _ h (later k m c d ds more) =
    let (x, is, h1) = then_ok (entry_bit n size before c) _ bits h in
    bit_read n size (k + 1) (put_bit x before) ds bits m
    d h1 more

-- none has a place of those before
bit_new : (n size k at : ℕ) (before : List NamedBit) (ds : Items) (bits : List NamedBit) (m : ℕ) (b : Data) →
    entry_bits_from n size before ds ≡ Ok bits → has_place at before ≡ true
    → IsItem k ds m b → place_at size b ≡ Some at → ⊥
unfolding entry_bits_from
bit_new n size _ at before _ bits _ _ h taken (here k d ds) placed =
    let (x, is, h1) = then_ok (entry_bit n size before d) _ bits h in
    let (there, free) = bit_place n size before d x is in
    let same : x.at ≡ at = let some = sym there ∙ placed in cc in
    let kept = ap (λ (y : ℕ). has_place y before) same in
    cc
bit_new n size _ at before _ bits _ _ h taken (later k m c d ds more) placed =
    let (x, is, h1) = then_ok (entry_bit n size before c) _ bits h in
    bit_new n size (k + 1) at (put_bit x before) ds bits m d h1
    (has_put at x before ∙ kept_of (x.at == at) (has_place at before) taken) more placed

place_twice : (n size k at : ℕ) (before : List NamedBit) (ds : Items) (bits : List NamedBit) (i : ℕ) (a : Data) (j : ℕ)
    (b : Data) → entry_bits_from n size before ds ≡ Ok bits
    → IsItem k ds i a → place_at size a ≡ Some at → i < j → IsItem k ds j b → place_at size b ≡ Some at → ⊥
unfolding entry_bits_from
place_twice n size k at before no_items bits i a j b h is_a placed less is_b placed_b = none_here k i a is_a
place_twice n size k at before (item d ds) bits i a j b h is_a placed less is_b placed_b =
    let (x, is, h1) = then_ok (entry_bit n size before d) _ bits h in
    elim (behind k j d ds b is_b) [
      | inl first ↦ elim (behind k i d ds a is_a) [
        | inl same ↦ omega arith
        | inr more ↦ let least = after (k + 1) ds i a more in omega arith
      ]
      | inr more_b ↦ elim (behind k i d ds a is_a) [
        | inl same ↦
            let some = sym (bit_place n size before d x is).0 ∙ ap (place_at size) (sym same.1) ∙ placed in
            let is_at : x.at ≡ at = cc in
            bit_new n size (k + 1) at (put_bit x before) ds bits j b h1
            (has_put at x before ∙ new_of x.at at (has_place at before) is_at) more_b placed_b
        | inr more_a ↦ place_twice n size (k + 1) at (put_bit x before) ds bits i a j b h1 more_a placed less more_b
            placed_b
      ]
    ]

bits_good : (n size k : ℕ) (before : List NamedBit) (ds : Items) (bits : List NamedBit) →
    entry_bits_from n size before ds ≡ Ok bits → IsBitFault size k ds → ⊥
unfolding entry_bit
bits_good n size k before ds bits h (no_place m b is none) =
    let (old, x, read) = bit_read n size k before ds bits m b h is in
    let (at, is_at, h1) = then_ok (need (place_at size b) (BadBit n)) _ x read in
    let some = need_ok _ (BadBit n) at is_at in cc
bits_good n size k before ds bits h (no_bit_name m b is none) =
    let (old, x, read) = bit_read n size k before ds bits m b h is in
    let (at, is_at, h1) = then_ok (need (place_at size b) (BadBit n)) _ x read in
    let (name, is_named, h2) = then_ok (need (name_at b) (BadBit n)) _ x h1 in
    let some = need_ok _ (BadBit n) name is_named in cc
bits_good n size k before ds bits h (place_again i j at a b less is_a is_b placed_a placed_b) =
    place_twice n size k at before ds bits i a j b h is_a placed_a less is_b placed_b

-- bits that were read are an array, and nothing is wrong with it
pub bits_in_array : (n size : ℕ) (o : Option Data) (bits : List NamedBit) (b : Data) → entry_bits n size o ≡ Ok bits →
    o ≡ Some b → ((ms : Items) → b ≢ array ms) → ⊥
bits_in_array n size None bits b h is lacks = cc
bits_in_array n size (Some d) bits b h is lacks =
    let (ds, is_array, h1) = then_ok (need (as_array d) (BadBit n)) _ bits h in
    let some = need_ok _ (BadBit n) ds is_array in
    let none = not_array b lacks in
    let same : d ≡ b = cc in
    let kept = ap as_array same in cc

pub bits_in_good : (n size : ℕ) (o : Option Data) (bits : List NamedBit) (ds : Items) → entry_bits n size o ≡ Ok bits →
    o ≡ Some (array ds) → IsBitRow size ds → ⊥
bits_in_good n size None bits ds h is fault = cc
bits_in_good n size (Some d) bits ds h is fault =
    let (all, is_array, h1) = then_ok (need (as_array d) (BadBit n)) _ bits h in
    let same : all ≡ ds = let both = sym (need_ok _ (BadBit n) all is_array) ∙ ap (option_and_then as_array) is in cc in
    bits_good n size 1 [] ds bits (ap (entry_bits_from n size []) (sym same) ∙ h1) (row_bit size ds fault)

-- a bit that was put is there, and those before it stay
put_cases : (new : NamedBit) (bits : List NamedBit) (b : NamedBit) → Contains (put_bit new bits) b →
    (new ≡ b) ⊎ Contains bits b
put_cases new [] b there = front_or new [] b there
put_cases new (x ∷ bits) b there =
    elim (nat_lt new.at x.at) as (λ t. Contains (if t then new ∷ x ∷ bits else x ∷ put_bit new bits) b →
    (new ≡ b) ⊎ Contains (x ∷ bits) b) [
      | true ↦ λ put. front_or new (x ∷ bits) b put
      | false ↦ λ put. elim (front_or x (put_bit new bits) b put) [
        | inl is ↦ inr (subst (Contains (x ∷ bits)) is (in_front x bits))
        | inr more ↦ elim (put_cases new bits b more) [
          | inl is ↦ inl is
          | inr old ↦ inr (in_back x bits b old)
        ]
      ]
    ] there

put_new : (new : NamedBit) (bits : List NamedBit) → Contains (put_bit new bits) new
put_new new [] = in_front new []
put_new new (x ∷ bits) =
    elim (nat_lt new.at x.at) as (λ t. Contains (if t then new ∷ x ∷ bits else x ∷ put_bit new bits) new) [
      | true ↦ in_front new (x ∷ bits)
      | false ↦ in_back x (put_bit new bits) new (put_new new bits)
    ]

put_old : (new : NamedBit) (bits : List NamedBit) (b : NamedBit) → Contains bits b → Contains (put_bit new bits) b
put_old new [] b there = absurd (none_in b there)
put_old new (x ∷ bits) b there =
    elim (nat_lt new.at x.at) as (λ t. Contains (if t then new ∷ x ∷ bits else x ∷ put_bit new bits) b) [
      | true ↦ in_back new (x ∷ bits) b there
      | false ↦ elim (front_or x bits b there) [
        | inl is ↦ subst (Contains (x ∷ put_bit new bits)) is (in_front x (put_bit new bits))
        | inr more ↦ in_back x (put_bit new bits) b (put_old new bits b more)
      ]
    ]

abbrev IsNamed : ℕ → Data → NamedBit → Type 0
IsNamed size m b = HasNumber (8 * size) (codes "at") m b.at × HasName m b.name

bit_says : (n size : ℕ) (before : List NamedBit) (d : Data) (b : NamedBit) → entry_bit n size before d ≡ Ok b →
    IsNamed size d b
unfolding entry_bit
bit_says n size before d b h =
    let (at, is_at, h1) = then_ok (need (place_at size d) (BadBit n)) _ b h in
    let (name, is_named, h2) = then_ok (need (name_at d) (BadBit n)) _ b h1 in
    let (free, is) = unless_ok (has_place at before) (BadBit n) _ b h2 in
    subst (λ (x : NamedBit). IsNamed size d x) is (
      number_says (8 * size) (codes "at") d at (need_ok _ (BadBit n) at is_at),
      name_says d name (need_ok _ (BadBit n) name is_named),
    )

one_bit : (at : ℕ) (s : List ℕ) (c : NamedBit) → at ≡ c.at → s ≡ c.name → record { at = at; name = s } ≡ c
one_bit at s c h1 h2 = rw (h1, h2) refl

same_bit : (size : ℕ) (d : Data) (b c : NamedBit) → IsNamed size d b → IsNamed size d c → b ≡ c
same_bit size d b c f g =
    let at : b.at ≡ c.at = same_number (8 * size) (codes "at") d b.at c.at f.0 g.0 in
    let name : b.name ≡ c.name = same_name d b.name c.name f.1 g.1 in
    one_bit b.at b.name c at name

abbrev IsAmong : ℕ → ℕ → Items → NamedBit → Type 0
IsAmong size k ds b = (m : ℕ) × (e : Data) × IsItem k ds m e × IsNamed size e b

from_bits : (n size k : ℕ) (before : List NamedBit) (ds : Items) (bits : List NamedBit) (b : NamedBit) →
    entry_bits_from n size before ds ≡ Ok bits → Contains bits b
    → Contains before b ⊎ IsAmong size k ds b
unfolding entry_bits_from
from_bits n size k before no_items bits b h there = let same : before ≡ bits = cc in inl (rw same there)
from_bits n size k before (item d ds) bits b h there =
    let (x, is, h1) = then_ok (entry_bit n size before d) _ bits h in
    elim (from_bits n size (k + 1) (put_bit x before) ds bits b h1 there) [
      | inl put ↦ elim (put_cases x before b put) [
        | inl same ↦ inr (
          k,
          d,
          here k d ds,
          subst (λ (y : NamedBit). IsNamed size d y) same (bit_says n size before d x is),
        )
        | inr old ↦ inl old
      ]
      | inr (m, e, is_e, named) ↦ inr (m, e, later k m d e ds is_e, named)
    ]

kept_bit : (n size : ℕ) (before : List NamedBit) (ds : Items) (bits : List NamedBit) (b : NamedBit) →
    entry_bits_from n size before ds ≡ Ok bits → Contains before b → Contains bits b
unfolding entry_bits_from
kept_bit n size before no_items bits b h there = let same : before ≡ bits = cc in rw (← same) there
kept_bit n size before (item d ds) bits b h there =
    let (x, is, h1) = then_ok (entry_bit n size before d) _ bits h in kept_bit n size (put_bit x before) ds bits b h1
    (put_old x before b there)

to_bits : (n size k : ℕ) (before : List NamedBit) (ds : Items) (bits : List NamedBit) (b : NamedBit) (m : ℕ)
    (e : Data) → entry_bits_from n size before ds ≡ Ok bits
    → IsItem k ds m e → IsNamed size e b → Contains bits b
unfolding entry_bits_from
to_bits n size _ before _ bits b _ _ h (here k d ds) named =
    let (x, is, h1) = then_ok (entry_bit n size before d) _ bits h in
    let same = same_bit size d x b (bit_says n size before d x is) named in
    subst (Contains bits) same (kept_bit n size (put_bit x before) ds bits x h1 (put_new x before))
to_bits n size _ before _ bits b _ _ h (later k m c d ds more) named =
    let (x, is, h1) = then_ok (entry_bit n size before c) _ bits h in
    to_bits n size (k + 1) (put_bit x before) ds bits b m
    d h1 more named

among : (size : ℕ) (d : Data) (ms : Items) (b : NamedBit) → get (codes "bits") d ≡ Some (array ms) →
    Contains [] b ⊎ IsAmong size 1 ms b → HasBit size d b
among size d ms b is (inl front) = absurd (none_in b front)
among size d ms b is (inr (n, m, is_m, named)) = bit n m ms is is_m named.0 named.1

has_none : (size : ℕ) (d : Data) (b : NamedBit) → get (codes "bits") d ≡ None → HasBit size d b → ⊥
has_none size d b none (bit n m ms is is_m at name) = cc

has_some : (n size : ℕ) (d : Data) (ms : Items) (bits : List NamedBit) (b : NamedBit) →
    get (codes "bits") d ≡ Some (array ms) → entry_bits_from n size [] ms ≡ Ok bits → HasBit size d b → Contains bits b
has_some n size d ms bits b is read (bit k m given is_given is_m at name) =
    let same : given ≡ ms = let twice = sym is_given ∙ is in cc in
    to_bits n size 1 [] ms bits b k m read (subst (λ (x : Items). IsItem 1 x k m) same is_m) (at, name)

-- the bits of an entry are those that its table names
pub bits_said : (n size : ℕ) (d : Data) (o : Option Data) (bits : List NamedBit) (b : NamedBit) →
    get (codes "bits") d ≡ o → entry_bits n size o ≡ Ok bits → Contains bits b ↔ HasBit size d b
bits_said n size d None bits b is h =
    let same : [] ≡ bits = cc in (
      λ there. absurd (none_in b (subst (λ (x : List NamedBit). Contains x b) (sym same) there)),
      λ has. absurd (has_none size d b is has),
    )
bits_said n size d (Some a) bits b is h =
    let (ms, is_array, h1) = then_ok (need (as_array a) (BadBit n)) _ bits h in
    let there = is ∙ array_of (Some a) ms (need_ok _ (BadBit n) ms is_array) in (
      λ has. among size d ms b there (from_bits n size 1 [] ms bits b h1 has),
      λ has. has_some n size d ms bits b there h1 has,
    )
