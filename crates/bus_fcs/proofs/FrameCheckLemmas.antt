-- Both ends inverted at once, and good data as a test.
use Rattle.std.proofs.Common.{zero, suc, [], ◌∷◌, refl, ◌≡◌, ◌↔◌, ℕ, ◌+◌, ◌-◌, ◌≤◌, Bool, true, false, IsTrue, not}
use Rattle.std.proofs.Common.{List, ◌++◌, length, take, drop, replicate, sym, ap, ◌∙◌, arith, append_assoc}
use Rattle.std.proofs.Common.{length-append}
use Rattle.std.proofs.lemmas.List.{length-replicate, take-append-drop, drop-drop, length-take, length-drop}
use Rattle.bus_fcs.specs.Division.{add, remainder}
use Rattle.bus_fcs.specs.FrameCheck.{ends_inverted, Good, is_good}
use Rattle.bus_fcs.proofs.DivisionSumLemmas.{add-parts, add-zeros, add_sixteen_ones}
use Rattle.bus_fcs.proofs.DivisionLemmas.{length-remainder}
use Rattle.std.specs.List.{list_all}

abbrev ones : List Bool
ones = replicate 16 true

pub ends_mask : (d : List Bool) → 32 ≤ length d
    → ends_inverted d ≡ add (replicate 16 true ++ replicate (length d - 32) false ++ replicate 16 true) d
unfolding ends_inverted
ends_mask d long =
    let m = length d - 32 in
    let front = take 16 d in
    let middle = take m (drop 16 d) in
    let back = drop (length d - 16) d in
    let front-length : length front ≡ 16 = length-take 16 d ∙ omega arith in
    let middle-length : length middle ≡ m = length-take m (drop 16 d) ∙ omega (arith, length-drop 16 d) in
    let back-length : length back ≡ 16 = length-drop (length d - 16) d ∙ omega arith in
    let at : 16 + m ≡ length d - 16 = omega arith in
    let tail : drop m (drop 16 d) ≡ back = drop-drop m 16 d ∙ ap (λ (k : ℕ). drop k d) at in
    let whole : front ++ middle ++ back ≡ d =
    append_assoc front middle back ∙ ap (λ (z : List Bool). front ++ (middle ++ z)) (sym tail)
    ∙ ap (λ (z : List Bool). front ++ z) (take-append-drop m (drop 16 d)) ∙ take-append-drop 16 d in
    let mask-length : length (ones ++ replicate m false) ≡ length (front ++ middle) =
    omega (arith, length-append ones (replicate m false), length-replicate m false, length-append front middle) in
    let front-inverted = add_sixteen_ones front front-length in
    let back-inverted = add_sixteen_ones back back-length in
    sym (ap (add (ones ++ replicate m false ++ ones)) (sym whole)
    ∙ add-parts (ones ++ replicate m false) ones (front ++ middle) back mask-length
    ∙ (let parts = add-parts ones (replicate m false) front middle (sym front-length) in
    let kept = add-zeros m middle in cc))

-- good data, by a sum
pub good_sum : (d : List Bool) → 32 ≤ length d
    → Good d ↔ (remainder (add (replicate 16 true ++ replicate (length d - 32) false ++ replicate 16 true) d)
    ≡ replicate 16 false)
unfolding Good
good_sum d long = let same = ap remainder (ends_mask d long) in ((λ good. sym same ∙ good), (λ none. same ∙ none))

none_set : (n : ℕ) (d : List Bool) → length d ≡ n → list_all not d ≡ true → d ≡ replicate n false
none_set zero [] same-length clear = refl
none_set zero (b ∷ d) same-length clear = absurd (omega arith)
none_set (suc n) [] same-length clear = absurd (omega arith)
none_set (suc n) (true ∷ d) same-length clear = absurd (cc (clear))
none_set (suc n) (false ∷ d) same-length clear =
    ap {B = List Bool} (λ (z : List Bool). false ∷ z) (none_set n d (omega arith) clear)

zeros_clear : (n : ℕ) → list_all not (replicate n false) ≡ true
zeros_clear zero = refl
zeros_clear (suc n) = zeros_clear n

-- the test for good data computes the definition
pub good_computed : (d : List Bool) → (is_good d ≡ true) ↔ Good d
unfolding Good is_good
good_computed d = (
  (λ clear. none_set 16 (remainder (ends_inverted d)) (length-remainder (ends_inverted d)) clear),
  (λ good. ap (list_all not) good ∙ zeros_clear 16),
)

pub same_bool : (x y : Bool) → (x ≡ true → y ≡ true) → (y ≡ true → x ≡ true) → x ≡ y
same_bool true true there back = refl
same_bool true false there back = sym (there refl)
same_bool false true there back = back refl
same_bool false false there back = refl

-- a test that tells good data computes as the definition's test does
pub same_test : (x : Bool) (d : List Bool) → (IsTrue x ↔ Good d) → x ≡ is_good d
same_test x d tells =
    let good = good_computed d in
    same_bool x (is_good d) (λ is. good.1 (tells.0 is)) (λ computed. tells.1 (good.0 computed))
