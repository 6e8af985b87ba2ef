-- What each element of a list brings, with one element more.
use Rattle.std.proofs.Common.{◌≡◌, ℕ, zero, suc, ◌<◌, List, [], ◌∷◌, ◌++◌, length, take, drop, refl, sym, ap, ◌∙◌}
use Rattle.std.proofs.Common.{arith, append-nil, length-append}
use Rattle.std.specs.List.{flat_map}
use Rattle.std.proofs.lemmas.Grind.{flat_map-append}
use Rattle.std.proofs.lemmas.List.{drop-append-le, take-append-le, take_all, length-drop}
use Rattle.std.proofs.Math.Seq.{drop-append_seam}
use Rattle.bus_line.specs.Due.{places}

pub places-same : {Y : Type 0} (f g : ℕ → List Y) (n : ℕ) → ((i : ℕ) → i < n → f i ≡ g i) →
    flat_map f (places n) ≡ flat_map g (places n)
places-same f g zero same = refl
places-same f g (suc n) same =
    flat_map-append f (places n) (n ∷ [])
    ∙ (ap (λ ys. ys ++ flat_map f (n ∷ [])) (places-same f g n (λ i before. same i (omega (arith, before))))
    ∙ (ap (λ ys. flat_map g (places n) ++ (ys ++ [])) (same n (omega arith))
    ∙ sym (flat_map-append g (places n) (n ∷ []))))

-- what the last one brings comes last
pub places-more : {Y : Type 0} (f g : ℕ → List Y) (n : ℕ) → ((i : ℕ) → i < n → f i ≡ g i) →
    flat_map f (places (suc n)) ≡ flat_map g (places n) ++ f n
places-more f g n same =
    flat_map-append f (places n) (n ∷ [])
    ∙ (ap (λ ys. ys ++ (f n ++ [])) (places-same f g n same)
    ∙ ap (λ ys. flat_map g (places n) ++ ys) (append-nil (f n)))

pub length-more : {X : Type 0} (xs : List X) (x : X) → length (xs ++ x ∷ []) ≡ suc (length xs)
length-more xs x = omega (arith, length-append xs (x ∷ []))

pub each-more : {X Y : Type 0} (f g : ℕ → List Y) (xs : List X) (x : X) →
    ((i : ℕ) → i < length xs → f i ≡ g i) →
    flat_map f (places (length (xs ++ x ∷ []))) ≡ flat_map g (places (length xs)) ++ f (length xs)
each-more f g xs x same = ap (λ n. flat_map f (places n)) (length-more xs x) ∙ places-more f g (length xs) same

-- one element alone, and those up to it
pub alone-front : {X : Type 0} (xs ys : List X) (i : ℕ) → i < length xs →
    take 1 (drop i (xs ++ ys)) ≡ take 1 (drop i xs)
alone-front xs ys i inside = ap (take 1) (drop-append-le i xs ys (omega (arith, inside)))
    ∙ take-append-le 1 (drop i xs) ys (omega (arith, inside, length-drop i xs))

pub alone-last : {X : Type 0} (xs : List X) (x : X) → take 1 (drop (length xs) (xs ++ x ∷ [])) ≡ x ∷ []
alone-last xs x = ap (take 1) (drop-append_seam xs (x ∷ []))

pub upto-last : {X : Type 0} (xs : List X) (x : X) → take (suc (length xs)) (xs ++ x ∷ []) ≡ xs ++ x ∷ []
upto-last xs x = take_all (suc (length xs)) (xs ++ x ∷ []) (omega (arith, length-more xs x))
