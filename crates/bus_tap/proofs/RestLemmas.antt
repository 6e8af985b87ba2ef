-- The rule of rest, with one arrival more.
use Rattle.std.proofs.Common.{◌≡◌, ℕ, zero, suc, ◌+◌, ◌-◌, ◌<◌, ◌≤◌, ◌==◌, ◌&&◌, not, min, ltb, leb, Bool, true, false}
use Rattle.std.proofs.Common.{List, [], ◌∷◌, ◌++◌, length, drop, refl, sym, ap, ◌∙◌, arith, append-nil}
use Rattle.std.proofs.Common.{length-append, append_assoc, if◌then◌else◌, inl, inr}
use Rattle.std.specs.List.{list_all}
use Rattle.std.proofs.lemmas.List.{drop-append-le, length-drop, nil_from_length}
use Rattle.std.proofs.lemmas.List.Folds.{list_all-append}
use Rattle.std.proofs.lemmas.List.Sums.{fold-append}
use Rattle.std.proofs.lemmas.Bool.{cases_lt}
use Rattle.std.proofs.lemmas.Bool.Decides.{nat_tests}
use Rattle.bus_bits.proofs.OneMoreLemmas.{one-by-one}
use Rattle.bus_line.specs.Run.{ones_after}
use Rattle.bus_line.specs.Spelling.{ones}
use Rattle.bus_line.specs.declared.line.Line.TheVariants.{First, Second}
use Rattle.bus_tap.specs.Arrival.{Arrival, own, firsts_before}
use Rattle.bus_tap.specs.Rested.{rests, silence, comes_to_rest, fill, with_rest, rested, RestState, IsRestAfter}
use Rattle.bus_tap.proofs.ArrivalLemmas.{own-append, before-append, before-now, before-within}

pub rested-more : (most : ℕ) (xs : List Arrival) (x : Arrival) (is : Bool) →
    comes_to_rest most (rested most xs ++ x ∷ []) ≡ is →
    rested most (xs ++ x ∷ []) ≡ rested most xs ++ (x ∷ fill is)
rested-more most xs x is same =
    let front = rested most xs in
    fold-append (λ (before : List Arrival) (x : Arrival). with_rest most (before ++ x ∷ [])) [] xs (x ∷ [])
    ∙ (ap (λ b. (front ++ x ∷ []) ++ fill b) same ∙ append_assoc front (x ∷ []) (fill is))

-- ones at the end
pub ones-more : (k : ℕ) (b : List Bool) → ones_after k (b ++ true ∷ []) ≡ suc (ones_after k b)
ones-more k [] = refl
ones-more k (true ∷ b) = ones-more (suc k) b
ones-more k (false ∷ b) = ones-more 0 b

pub ones-none : (k : ℕ) (b : List Bool) → ones_after k (b ++ false ∷ []) ≡ 0
ones-none k [] = refl
ones-none k (true ∷ b) = ones-none (suc k) b
ones-none k (false ∷ b) = ones-none 0 b

pub ones-append : (k : ℕ) (a b : List Bool) → ones_after k (a ++ b) ≡ ones_after (ones_after k a) b
ones-append k [] b = refl
ones-append k (true ∷ a) b = ones-append (suc k) a b
ones-append k (false ∷ a) b = ones-append 0 a b

-- the last k bits, of which those before the first are 1s
abbrev last : ℕ → List Bool → List Bool
last k b = drop (length b + (15 - k)) (ones 15 ++ b)

last-more : (k : ℕ) (b : List Bool) (bit : Bool) → suc k ≤ 15 → last (suc k) (b ++ bit ∷ []) ≡ last k b ++ bit ∷ []
last-more k b bit few =
    let from = length b + (15 - k) in
    let here : length (b ++ bit ∷ []) + (15 - suc k) ≡ from = omega (arith, length-append b (bit ∷ []), few) in
    rw (here, ← append_assoc (ones 15) b (bit ∷ []))
    (drop-append-le from (ones 15 ++ b) (bit ∷ []) (omega (arith, length-append (ones 15) b)))

last-none : (b : List Bool) → last 0 b ≡ []
last-none b =
    nil_from_length (last 0 b)
    (omega (arith, length-drop (length b + (15 - 0)) (ones 15 ++ b), length-append (ones 15) b))

dropped : (n : ℕ) (b : List Bool) → list_all (λ bit. bit) b ≡ true → list_all (λ bit. bit) (drop n b) ≡ true
dropped zero b all = all
dropped (suc n) [] all = refl
dropped (suc n) (true ∷ b) all = dropped n b all
dropped (suc n) (false ∷ b) all = absurd (cc)

-- they are 1s just where so many stand at the end
abbrev LastOnes : List Bool → Type 0
LastOnes b = (k : ℕ) → k ≤ 15 → list_all (λ bit. bit) (last k b) ≡ leb k (ones_after 15 b)

last-ones : (b : List Bool) → LastOnes b
last-ones =
    one-by-one LastOnes (λ k few. dropped (0 + (15 - k)) (ones 15 ++ []) refl ∙ sym (within k 15 few)) one-more
  where
    within : (k n : ℕ) → k ≤ n → leb k n ≡ true
    within k n few = grind (arith, nat_tests, few)

    more : (j : ℕ) (b : List Bool) (bit : Bool) → LastOnes b → suc j ≤ 15 →
        (list_all (λ bit. bit) (last j b) && (bit && true)) ≡ leb (suc j) (ones_after 15 (b ++ bit ∷ []))
    more j b true before few = rw (ones-more 15 b, before j (omega (arith, few))) (grind (arith, nat_tests))
    more j b false before few = rw (ones-none 15 b) (grind (arith, nat_tests))

    one-more : (b : List Bool) (bit : Bool) → LastOnes b → LastOnes (b ++ bit ∷ [])
    one-more b bit before zero few =
        ap (list_all (λ bit. bit)) (last-none (b ++ bit ∷ []))
        ∙ sym (within 0 (ones_after 15 (b ++ bit ∷ [])) (omega arith))
    one-more b bit before (suc j) few =
        ap (list_all (λ bit. bit)) (last-more j b bit few)
        ∙ (list_all-append (λ bit. bit) (last j b) (bit ∷ []) ∙ more j b bit before few)

pub rests-ones : (b : List Bool) → rests b ≡ leb 15 (ones_after 15 b)
rests-ones b =
    let here : length b + (15 - 15) ≡ length b = omega arith in
    rw here at (last-ones b 15 (omega arith))

-- silence
module _ (xs : List Arrival) (bit : Bool) where
  pub first-same : own Second (xs ++ (First, bit) ∷ []) ≡ own Second xs
  first-same = own-append Second xs ((First, bit) ∷ []) ∙ append-nil (own Second xs)

  first-count : length (own First (xs ++ (First, bit) ∷ [])) ≡ length (own First xs) + 1
  first-count = omega (
    arith,
    ap length (own-append First xs ((First, bit) ∷ [])),
    length-append (own First xs) (bit ∷ []),
  )

  pub silence-first : 1 ≤ length (own Second xs) → silence (xs ++ (First, bit) ∷ []) ≡ silence xs + 1
  silence-first some =
      let k = length (own Second xs) - 1 in
      omega (
        arith,
        first-count,
        ap (λ (b : List Bool). firsts_before (length b - 1) (xs ++ (First, bit) ∷ [])) first-same,
        before-append k xs ((First, bit) ∷ []) (omega (arith, some)),
        before-within k xs,
      )

  pub silence-second : silence (xs ++ (Second, bit) ∷ []) ≡ 0
  silence-second =
      let ys = xs ++ (Second, bit) ∷ [] in
      let count : length (own Second ys) - 1 ≡ length (own Second xs) = omega (
        arith,
        ap length (own-append Second xs ((Second, bit) ∷ [])),
        length-append (own Second xs) (bit ∷ []),
      ) in
      omega (
        arith,
        ap (λ k. firsts_before k ys) count,
        before-now xs bit,
        ap length (own-append First xs ((Second, bit) ∷ []) ∙ append-nil (own First xs)),
      )

-- whether the second line comes to rest with a bit of the first
same-test : (most silent next run ones : ℕ) → ones ≡ min 15 run → silent ≤ most →
    (run < 15 → (silent ≡ min most (next - 1)) × (1 ≤ next)) →
    (ltb 0 most && ((next == most) && not (leb 15 run))) ≡ (ltb silent most && ((silent + 1 == most) && ltb ones 15))
same-test most silent next run ones is within waits = elim (cases_lt run 15) [
  | inl fewer ↦ (let both = waits fewer in grind (arith, nat_tests))
  | inr all ↦ grind (arith, nat_tests)
]

pub has-bits : (b : List Bool) → ones_after 15 b < 15 → 1 ≤ length b
has-bits [] fewer = absurd (omega (arith, fewer))
has-bits (x ∷ b) fewer = omega arith

pub comes-second : (most : ℕ) (xs : List Arrival) (bit : Bool) → comes_to_rest most (xs ++ (Second, bit) ∷ []) ≡ false
comes-second most xs bit =
    let ys = xs ++ (Second, bit) ∷ [] in
    ap (λ n. ltb 0 most && ((n == most) && not (rests (own Second ys)))) (silence-second xs bit)
    ∙ none (not (rests (own Second ys)))
  where
    none : (x : Bool) → (ltb 0 most && ((0 == most) && x)) ≡ false
    none x = grind (arith, nat_tests)

-- what is put in are fifteen 1s
pub ones-filled : (k : ℕ) (ys : List Arrival) (x : Arrival) (is : Bool) →
    min 15 (ones_after k (own Second (ys ++ (x ∷ fill is))))
    ≡ (if is then 15 else min 15 (ones_after k (own Second (ys ++ x ∷ []))))
ones-filled k ys x false = refl
ones-filled k ys x true =
    let ones = own Second (fill true) in
    ap (λ (b : List Bool). min 15 (ones_after k b))
    (ap (own Second) (sym (append_assoc ys (x ∷ []) (fill true))) ∙ own-append Second (ys ++ x ∷ []) (fill true))
    ∙ (ap (min 15) (ones-append k (own Second (ys ++ x ∷ [])) ones)
    ∙ fifteen (ones_after k (own Second (ys ++ x ∷ []))))
  where
    fifteen : (n : ℕ) → min 15 (ones_after n (own Second (fill true))) ≡ 15
    fifteen n = omega arith

-- a line that waits for a bit is as silent with what was put in as without
abbrev pub Waits : ℕ → List Arrival → Type 0
Waits most xs = ones_after 15 (own Second (rested most xs)) < 15 →
    (silence (rested most xs) ≡ silence xs) × (1 ≤ length (own Second xs))

pub waits : (most : ℕ) (xs : List Arrival) → Waits most xs
waits most = one-by-one (Waits most) (λ fewer. absurd (omega (arith, fewer))) more
  where
    first : (xs : List Arrival) (bit is : Bool) → Waits most xs →
        ones_after 15 (own Second (rested most xs ++ ((First, bit) ∷ fill is))) < 15 →
        (silence (rested most xs ++ ((First, bit) ∷ fill is)) ≡ silence (xs ++ (First, bit) ∷ []))
        × (1 ≤ length (own Second (xs ++ (First, bit) ∷ [])))
    first xs bit true before fewer =
        absurd (omega (arith, fewer, ones-filled 15 (rested most xs) (First, bit) true))
    first xs bit false before fewer =
        let few : ones_after 15 (own Second (rested most xs)) < 15 = rw (first-same (rested most xs) bit) at fewer in
        let both = before few in (
          silence-first (rested most xs) bit (has-bits (own Second (rested most xs)) few)
              ∙ (ap (λ (n : ℕ). n + 1) both.0 ∙ sym (silence-first xs bit both.1)),
          rw (first-same xs bit) both.1,
        )

    more : (xs : List Arrival) (x : Arrival) → Waits most xs → Waits most (xs ++ x ∷ [])
    more xs (First, bit) before =
        let is = comes_to_rest most (rested most xs ++ (First, bit) ∷ []) in
        rw (rested-more most xs (First, bit) is refl) (first xs bit is before)
    more xs (Second, bit) before =
        rw (rested-more most xs (Second, bit) false (comes-second most (rested most xs) bit)) (λ fewer. (
          silence-second (rested most xs) bit ∙ sym (silence-second xs bit),
          omega (
            arith,
            ap length (own-append Second xs ((Second, bit) ∷ [])),
            length-append (own Second xs) (bit ∷ []),
          ),
        ))

pub comes-first : (r : RestState) (xs : List Arrival) (bit : Bool) → IsRestAfter r xs → r.silent ≤ r.most →
    comes_to_rest r.most (rested r.most xs ++ (First, bit) ∷ [])
    ≡ (ltb r.silent r.most && ((r.silent + 1 == r.most) && ltb r.ones 15))
comes-first r xs bit after within =
    let front = rested r.most xs in
    let ys = front ++ (First, bit) ∷ [] in
    let is_rest = λ (x : Bool). ltb 0 r.most && ((silence ys == r.most) && not x) in
    ap (λ b. is_rest (rests b)) (first-same front bit)
    ∙ (ap is_rest (rests-ones (own Second front))
    ∙ same-test r.most r.silent (silence ys) (ones_after 15 (own Second front)) r.ones after.ones within
    (λ fewer.
    let both = waits r.most xs fewer in
    let next = silence-first front bit (has-bits (own Second front) fewer) in
    (omega (arith, after.silent both.1, both.0, next), omega (arith, next))))

-- how long it is silent, with a bit of the first line
pub silent-first : (most silent : ℕ) (xs : List Arrival) (bit : Bool) →
    (1 ≤ length (own Second xs) → silent ≡ min most (silence xs)) →
    1 ≤ length (own Second (xs ++ (First, bit) ∷ [])) →
    min most (silent + 1) ≡ min most (silence (xs ++ (First, bit) ∷ []))
silent-first most silent xs bit is some =
    let had : 1 ≤ length (own Second xs) = rw (first-same xs bit) at some in
    omega (arith, silence-first xs bit had, is had)

pub after-first : (r : RestState) (xs : List Arrival) (bit : Bool) → IsRestAfter r xs → (is : Bool) →
    comes_to_rest r.most (rested r.most xs ++ (First, bit) ∷ []) ≡ is →
    IsRestAfter (record r { silent = min r.most (r.silent + 1); ones = if is then 15 else r.ones })
    (xs ++ (First, bit) ∷ [])
after-first r xs bit after is same =
    record {
      silent = silent-first r.most r.silent xs bit after.silent;
      ones = ap (λ (n : ℕ). if is then 15 else n)
          (after.ones ∙ ap (λ b. min 15 (ones_after 15 b)) (sym (first-same (rested r.most xs) bit)))
          ∙ (sym (ones-filled 15 (rested r.most xs) (First, bit) is)
          ∙ ap (λ (ys : List Arrival). min 15 (ones_after 15 (own Second ys)))
          (sym (rested-more r.most xs (First, bit) is same)));
    }

pub after-second : (r : RestState) (xs : List Arrival) (bit : Bool) → IsRestAfter r xs →
    IsRestAfter (record r { silent = 0; ones = if bit then min 15 (r.ones + 1) else 0 }) (xs ++ (Second, bit) ∷ [])
after-second r xs bit after = record {
  silent = λ some. omega (arith, silence-second xs bit);
  ones = run bit
      ∙ ap (λ b. min 15 (ones_after 15 b)) (sym (own-append Second (rested r.most xs) ((Second, bit) ∷ [])))
      ∙ ap (λ (ys : List Arrival). min 15 (ones_after 15 (own Second ys)))
      (sym (rested-more r.most xs (Second, bit) false (comes-second r.most (rested r.most xs) bit)));
}
  where
    run : (x : Bool) → (if x then min 15 (r.ones + 1) else 0)
        ≡ min 15 (ones_after 15 (own Second (rested r.most xs) ++ x ∷ []))
    run true = omega (arith, after.ones, ones-more 15 (own Second (rested r.most xs)))
    run false = omega (arith, ones-none 15 (own Second (rested r.most xs)))

-- the first line stays
pub rest-first : (most : ℕ) (xs : List Arrival) → own First (rested most xs) ≡ own First xs
rest-first most xs =
    one-by-one (λ ys. own First (rested most ys) ≡ own First ys) refl
    (λ ys y before.
    let is = comes_to_rest most (rested most ys ++ y ∷ []) in
    ap (own First) (rested-more most ys y is refl)
    ∙ (own-append First (rested most ys) (y ∷ fill is)
    ∙ (ap (λ b. b ++ own First (y ∷ fill is)) before
    ∙ (ap (λ b. own First ys ++ b) (own-append First (y ∷ []) (fill is) ∙ (ap (λ b. own First (y ∷ []) ++ b) (none is)
    ∙ append-nil (own First (y ∷ []))))
    ∙ sym (own-append First ys (y ∷ [])))))) xs
  where
    none : (is : Bool) → own First (fill is) ≡ []
    none true = refl
    none false = refl
