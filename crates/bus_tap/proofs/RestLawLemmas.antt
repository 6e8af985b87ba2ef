-- Laws of rest: what brings it, how long it stays, and what it leaves alone.
use Rattle.std.proofs.Common.{◌≡◌, ℕ, ◌+◌, ◌<◌, ◌≤◌, ◌==◌, ◌&&◌, not, ltb, leb, Bool, true, false}
use Rattle.std.proofs.Common.{List, [], ◌∷◌, ◌++◌, refl, sym, ap, ◌∙◌, arith, append-nil, append_assoc, inl, inr}
use Rattle.std.specs.List.{list_all}
use Rattle.std.proofs.lemmas.Bool.{cases_lt}
use Rattle.std.proofs.lemmas.Bool.Decides.{nat_tests}
use Rattle.bus_bits.proofs.OneMoreLemmas.{one-by-one}
use Rattle.bus_line.specs.Run.{ones_after}
use Rattle.bus_line.specs.declared.line.Line.TheVariants.{First, Second}
use Rattle.bus_tap.specs.Arrival.{Arrival, own}
use Rattle.bus_tap.specs.Laws.{RestNeedsSilence, RestStays, SilenceBringsRest}
use Rattle.bus_tap.specs.Rested.{rests, silence, comes_to_rest, fill, rested}
use Rattle.bus_tap.proofs.ArrivalLemmas.{own-append}
use Rattle.bus_tap.proofs.RestLemmas.{rested-more, rests-ones, ones-more, ones-filled, first-same, silence-first}
use Rattle.bus_tap.proofs.RestLemmas.{silence-second, comes-second, has-bits, waits}

-- how many 1s are at the end of the second line
abbrev run : List Arrival → ℕ
run xs = ones_after 15 (own Second xs)

-- whether a bit of the first line brings rest
comes-is : (most : ℕ) (xs : List Arrival) (bit : Bool) → comes_to_rest most (xs ++ (First, bit) ∷ [])
    ≡ (ltb 0 most && ((silence (xs ++ (First, bit) ∷ []) == most) && not (leb 15 (run xs))))
comes-is most xs bit =
    let is_rest = λ (x : Bool). ltb 0 most && ((silence (xs ++ (First, bit) ∷ []) == most) && not x) in
    ap (λ b. is_rest (rests b)) (first-same xs bit) ∙ ap is_rest (rests-ones (own Second xs))

comes-none : (most : ℕ) (xs : List Arrival) (bit : Bool) → (run xs < 15 → silence (xs ++ (First, bit) ∷ []) < most) →
    comes_to_rest most (xs ++ (First, bit) ∷ []) ≡ false
comes-none most xs bit below =
    comes-is most xs bit ∙ none (silence (xs ++ (First, bit) ∷ [])) (run xs) below
  where
    none : (n ones : ℕ) → (ones < 15 → n < most) → (ltb 0 most && ((n == most) && not (leb 15 ones))) ≡ false
    none n ones below = elim (cases_lt ones 15) [
      | inl fewer ↦ (let less = below fewer in grind (arith, nat_tests))
      | inr all ↦ grind (arith, nat_tests)
    ]

-- nothing is put in with an arrival, and then with some more
one-and-more : (most : ℕ) (xs : List Arrival) (y : Arrival) (ys : List Arrival) →
    comes_to_rest most (rested most xs ++ y ∷ []) ≡ false →
    rested most ((xs ++ y ∷ []) ++ ys) ≡ rested most (xs ++ y ∷ []) ++ ys →
    rested most (xs ++ (y ∷ ys)) ≡ rested most xs ++ (y ∷ ys)
one-and-more most xs y ys none more =
    ap (rested most) (sym (append_assoc xs (y ∷ []) ys))
    ∙ (more
    ∙ (ap (λ (zs : List Arrival). zs ++ ys) (rested-more most xs y false none)
    ∙ append_assoc (rested most xs) (y ∷ []) ys))

nothing-more : (most : ℕ) (xs : List Arrival) → rested most (xs ++ []) ≡ rested most xs ++ []
nothing-more most xs = ap (rested most) (append-nil xs) ∙ sym (append-nil (rested most xs))

-- a line at rest stays there
stays : (most : ℕ) (xs ys : List Arrival) → 15 ≤ run (rested most xs) →
    list_all (λ bit. bit) (own Second ys) ≡ true → rested most (xs ++ ys) ≡ rested most xs ++ ys
stays most xs [] full all = nothing-more most xs
stays most xs ((First, bit) ∷ ys) full all =
    let x : Arrival = (First, bit) in
    let none = comes-none most (rested most xs) bit (λ fewer. absurd (omega (arith, full, fewer))) in
    one-and-more most xs x ys none (stays most (xs ++ x ∷ []) ys
    (rw (rested-more most xs x false none, first-same (rested most xs) bit) full) all)
stays most xs ((Second, true) ∷ ys) full all =
    let x : Arrival = (Second, true) in
    let none = comes-second most (rested most xs) true in
    let one = ap (ones_after 15) (own-append Second (rested most xs) (x ∷ []))
    ∙ ones-more 15 (own Second (rested most xs)) in
    one-and-more most xs x ys none (stays most (xs ++ x ∷ []) ys
    (rw (rested-more most xs x false none) (omega (arith, one, full))) all)
stays most xs ((Second, false) ∷ ys) full all = absurd (cc)

pub rest-stays : RestStays
rest-stays most xs ys at_rest all =
    stays most xs ys (enough (run (rested most xs)) (sym (rests-ones (own Second (rested most xs))) ∙ at_rest)) all
  where
    enough : (n : ℕ) → leb 15 n ≡ true → 15 ≤ n
    enough n is = grind (arith, nat_tests, is)

-- without a silence nothing is put in
pub rest-needs : RestNeedsSilence
rest-needs most xs [] short = nothing-more most xs
rest-needs most xs ((First, bit) ∷ ys) short =
    let x : Arrival = (First, bit) in
    let front = rested most xs in
    let none = comes-none most front bit (λ fewer.
    let both = waits most xs fewer in
    omega (
      arith,
      silence-first front bit (has-bits (own Second front) fewer),
      both.0,
      silence-first xs bit both.1,
      short (x ∷ []) ys refl,
    )) in
    one-and-more most xs x ys none (rest-needs most (xs ++ x ∷ []) ys (λ zs ws cut.
    rw (append_assoc xs (x ∷ []) zs) (short (x ∷ zs) ws (ap (λ (vs : List Arrival). x ∷ vs) cut))))
rest-needs most xs ((Second, bit) ∷ ys) short =
    let x : Arrival = (Second, bit) in
    one-and-more most xs x ys (comes-second most (rested most xs) bit) (rest-needs most (xs ++ x ∷ []) ys (λ zs ws cut.
    rw (append_assoc xs (x ∷ []) zs) (short (x ∷ zs) ws (ap (λ (vs : List Arrival). x ∷ vs) cut))))

-- silence brings rest
module _ (most : ℕ) (some : 1 ≤ most) where
  abbrev Brings : List Arrival → Type 0
  Brings xs = most ≤ silence xs → 15 ≤ run (rested most xs)

  full-on : (ys : List Arrival) (bit is : Bool) → 15 ≤ run ys → 15 ≤ run (ys ++ ((First, bit) ∷ fill is))
  full-on ys bit true full = omega (arith, ones-filled 15 ys (First, bit) true)
  full-on ys bit false full = rw (first-same ys bit) full

  just-now : (n ones : ℕ) → n ≡ most → ones < 15 → (ltb 0 most && ((n == most) && not (leb 15 ones))) ≡ true
  just-now n ones here fewer = grind (arith, nat_tests, here, fewer, some)

  first : (xs : List Arrival) (bit : Bool) → Brings xs → Brings (xs ++ (First, bit) ∷ [])
  first xs bit before long =
      let x : Arrival = (First, bit) in
      let front = rested most xs in
      elim (cases_lt (run front) 15) [
        | inl fewer ↦
            (let both = waits most xs fewer in
            let next = silence-first xs bit both.1 in
            let on = silence-first front bit (has-bits (own Second front) fewer) in
            let here : silence xs + 1 ≡ most = elim (cases_lt (silence xs) most) [
              | inl less ↦ omega (arith, next, long, less)
              | inr already ↦ absurd (omega (arith, before already, fewer))
            ] in
            let comes = comes-is most front bit
            ∙ just-now (silence (front ++ x ∷ [])) (run front) (omega (arith, on, both.0, here)) fewer in
            rw (rested-more most xs x true comes) (omega (arith, ones-filled 15 front x true)))
        | inr full ↦
            (let is = comes_to_rest most (front ++ x ∷ []) in
            rw (rested-more most xs x is refl) (full-on front bit is full))
      ]

  brings : (xs : List Arrival) → Brings xs
  brings = one-by-one Brings (λ long. omega arith) more
    where
      more : (xs : List Arrival) (x : Arrival) → Brings xs → Brings (xs ++ x ∷ [])
      more xs (First, bit) before = first xs bit before
      more xs (Second, bit) before = λ long. absurd (omega (arith, silence-second xs bit, long, some))

pub silence-brings : SilenceBringsRest
silence-brings most xs some long =
    rests-ones (own Second (rested most xs)) ∙ enough (run (rested most xs)) (brings most some xs long)
  where
    enough : (n : ℕ) → 15 ≤ n → leb 15 n ≡ true
    enough n is = grind (arith, nat_tests, is)
