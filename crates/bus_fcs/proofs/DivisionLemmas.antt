-- The long division.
use Rattle.std.proofs.Common.{◌≡◌, ℕ, zero, suc, ◌+◌, ◌-◌, ◌≤◌, Bool, true, false, List, [], ◌∷◌, ◌++◌, length}
use Rattle.std.proofs.Common.{replicate, refl, sym, ap, ◌∙◌, arith, append_assoc, length-append}
use Rattle.std.proofs.lemmas.List.{append-nil, same_from_push}
use Rattle.bus_fcs.specs.Division.{add, step, divided, remainder}
use Rattle.bus_fcs.proofs.DivisionSumLemmas.{length-add, add_again, add_left_comm, add_assoc_of, add-append, add-parts}

-- what stands under the divisor's highest bit
abbrev rest15 : List Bool
rest15 =
    false ∷ false ∷ false ∷ true ∷ false ∷ false ∷ false ∷ false ∷ false ∷ false ∷ true ∷ false ∷ false ∷ false ∷ false
    ∷ []

abbrev pub rest : List Bool
rest = rest15 ++ true ∷ []

pub step-true : (d : List Bool) → step (true ∷ d) ≡ add rest d
unfolding step add
step-true d = refl

pub step-false : (d : List Bool) → step (false ∷ d) ≡ d
unfolding step
step-false d = refl

pub length-step : (b : Bool) (d : List Bool) → length (step (b ∷ d)) ≡ length d
length-step true d = ap length (step-true d) ∙ length-add rest d
length-step false d = ap length (step-false d)

-- a step of a sum
pub step-add : (x y : List Bool) → length x ≡ length y → step (add x y) ≡ add (step x) (step y)
unfolding add step
step-add [] [] same-length = refl
step-add [] (b ∷ y) same-length = absurd (omega arith)
step-add (a ∷ x) [] same-length = absurd (omega arith)
step-add (false ∷ x) (false ∷ y) same-length = refl
step-add (false ∷ x) (true ∷ y) same-length = add_left_comm rest x y
step-add (true ∷ x) (false ∷ y) same-length = sym (add_assoc_of rest x y (omega arith))
step-add (true ∷ x) (true ∷ y) same-length =
    sym (add_assoc_of rest x (add rest y) (omega (arith, length-add rest y)) ∙ ap (add rest) (add_left_comm x rest y)
    ∙ add_again rest (add x y))

pub same_length_step : (x y : List Bool) → length x ≡ length y → length (step x) ≡ length (step y)
same_length_step [] [] same-length = refl
same_length_step [] (b ∷ y) same-length = absurd (omega arith)
same_length_step (a ∷ x) [] same-length = absurd (omega arith)
same_length_step (a ∷ x) (b ∷ y) same-length = omega (arith, length-step a x, length-step b y)

pub divided-add : (n : ℕ) (x y : List Bool) → length x ≡ length y →
    divided n (add x y) ≡ add (divided n x) (divided n y)
unfolding divided
divided-add zero x y same-length = refl
divided-add (suc n) x y same-length =
    ap (divided n) (step-add x y same-length) ∙ divided-add n (step x) (step y) (same_length_step x y same-length)

-- the first law
pub remainder_add : (x y : List Bool) → length x ≡ length y → remainder (add x y) ≡ add (remainder x) (remainder y)
unfolding remainder add
remainder_add x y same-length =
    let long : List Bool → List Bool = λ z. replicate 16 false ++ z in
    rw (length-add x y, same-length) (divided-add (length y) (long x) (long y) (omega arith))

pub step-append : (b : Bool) (d e : List Bool) → 16 ≤ length d → step (b ∷ d ++ e) ≡ step (b ∷ d) ++ e
unfolding step add
step-append true d e long = add-append rest d e long
step-append false d e long = refl

pub divided-append : (n : ℕ) (d e : List Bool) → n + 16 ≤ length d → divided n (d ++ e) ≡ divided n d ++ e
unfolding divided
divided-append zero d e long = refl
divided-append (suc n) [] e long = absurd (omega arith)
divided-append (suc n) (b ∷ d) e long =
    rw (step-append b d e (omega arith)) (divided-append n (step (b ∷ d)) e (omega (arith, length-step b d)))

pub length-divided : (n : ℕ) (d : List Bool) → length (divided n d) ≡ length d - n
unfolding divided step
length-divided zero d = omega arith
length-divided (suc n) [] = length-divided n [] ∙ omega arith
length-divided (suc n) (b ∷ d) = length-divided n (step (b ∷ d)) ∙ omega (arith, length-step b d)

pub length-remainder : (d : List Bool) → length (remainder d) ≡ 16
unfolding remainder
length-remainder d = length-divided (length d) (replicate 16 false ++ d) ∙ omega arith

pub divided-sum : (m n : ℕ) (d : List Bool) → divided (m + n) d ≡ divided n (divided m d)
unfolding divided
divided-sum zero n d = let same : zero + n ≡ n = omega arith in rw same refl
divided-sum (suc m) n d = let next : suc m + n ≡ suc (m + n) = omega arith in rw next (divided-sum m n (step d))

-- a division goes on where it stopped
pub remainder-append : (d e : List Bool) → remainder (d ++ e) ≡ divided (length e) (remainder d ++ e)
unfolding remainder
remainder-append d e =
    let long : List Bool = replicate 16 false ++ d in
    rw (length-append d e) (divided-sum (length d) (length e) (long ++ e)
    ∙ ap (divided (length e)) (divided-append (length d) long e (omega arith)))

-- zeros before
remainder-false : (d : List Bool) → remainder (false ∷ d) ≡ remainder d
unfolding remainder divided step
remainder-false d = refl

pub remainder-zeros : (k : ℕ) (d : List Bool) → remainder (replicate k false ++ d) ≡ remainder d
remainder-zeros zero d = refl
remainder-zeros (suc k) d = remainder-false (replicate k false ++ d) ∙ remainder-zeros k d

-- sixteen bits are their own remainder
pub remainder_own : (w : List Bool) → length w ≡ 16 → remainder w ≡ w
unfolding remainder divided step
remainder_own w sixteen = rw sixteen refl

-- what a step makes zero was zero
pub step_zero : (w : List Bool) → length w ≡ 16 → step (w ++ false ∷ []) ≡ replicate 16 false → w ≡ replicate 16 false
unfolding step add
step_zero [] sixteen none = absurd (omega arith)
step_zero (false ∷ w) sixteen none =
    ap {B = List Bool} (λ (z : List Bool). false ∷ z) ((same_from_push w (replicate 15 false) false false none).0)
step_zero (true ∷ w) sixteen none =
    let ends : add rest15 w ++ true ∷ [] ≡ replicate 15 false ++ false ∷ [] =
    sym (add-parts rest15 (true ∷ []) w (false ∷ []) (omega arith)) ∙ none in
    let clash : true ≡ false = (same_from_push (add rest15 w) (replicate 15 false) true false ends).1 in
    cc

pub step_false : (w z : List Bool) → length w ≡ 16 → step (w ++ false ∷ z) ≡ step (w ++ false ∷ []) ++ z
step_false [] z sixteen = absurd (omega arith)
step_false (b ∷ w) z sixteen =
    let long : 16 ≤ length (w ++ false ∷ []) = omega (arith, length-append w (false ∷ [])) in
    ap (λ (x : List Bool). step (b ∷ x)) (sym (append_assoc w (false ∷ []) z)) ∙ step-append b (w ++ false ∷ []) z long

pub length-step_false : (w : List Bool) → length w ≡ 16 → length (step (w ++ false ∷ [])) ≡ 16
length-step_false [] sixteen = absurd (omega arith)
length-step_false (b ∷ w) sixteen = length-step b (w ++ false ∷ []) ∙ omega (arith, length-append w (false ∷ []))

-- what a shift makes zero was zero
pub divided_zero : (k : ℕ) (w : List Bool) → length w ≡ 16 → divided k (w ++ replicate k false) ≡ replicate 16 false →
    w ≡ replicate 16 false
unfolding divided
divided_zero zero w sixteen none = sym (append-nil w) ∙ none
divided_zero (suc k) w sixteen none =
    let shifted = ap (divided k) (step_false w (replicate k false) sixteen) in
    step_zero w sixteen (divided_zero k (step (w ++ false ∷ [])) (length-step_false w sixteen) (sym shifted ∙ none))
