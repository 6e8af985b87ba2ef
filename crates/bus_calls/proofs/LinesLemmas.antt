-- The lines of a text as more octets come, and by a walk over them.
use Rattle.std.proofs.Common.{◌≡◌, ℕ, zero, suc, ◌+◌, ◌<◌, ◌≤◌, ◌==◌, Bool, true, false, if◌then◌else◌, List, [], ◌∷◌}
use Rattle.std.proofs.Common.{◌++◌, length, get_or, take, drop, map, Option, Some, None, IfSome, refl, sym, ap, ◌∙◌}
use Rattle.std.proofs.Common.{arith}
use Rattle.std.specs.Prelude.{filter, slice_index}
use Rattle.std.specs.Option.{option_map}
use Rattle.std.specs.Path.{rfind_below, rsplit_once}
use Rattle.std.proofs.lemmas.List.{append_assoc, append-nil, map-append, length_push, get_or_append_left, get_or_push}
use Rattle.std.proofs.lemmas.List.{take_all, take-append-le, drop-append-le, drop_all}
use Rattle.std.proofs.lemmas.List.Elements.{filter-append}
use Rattle.bus_line.specs.Due.{places}
use Rattle.bus_calls.specs.Lines.{behind_last, open_line, ended_lines}

-- ---- one octet more

one-longer : (xs : List ℕ) (x : ℕ) → length (xs ++ x ∷ []) ≡ suc (length xs)
one-longer xs x = omega (arith, length_push xs x)

-- the last c below a place that the list has
rfind-append : (c : ℕ) (xs ys : List ℕ) (n : ℕ) → n ≤ length xs → rfind_below c (xs ++ ys) n ≡ rfind_below c xs n
rfind-append c xs ys zero within = refl
rfind-append c xs ys (suc n) within =
    let rest = rfind-append c xs ys n (omega arith) in
    let here = get_or_append_left xs ys 0 n (omega arith) in
    rw (here, rest) refl

rfind-within : (c : ℕ) (xs : List ℕ) (n : ℕ) → IfSome (rfind_below c xs n) (λ k. k < n)
rfind-within c xs zero = tt
rfind-within c xs (suc n) =
    elim (get_or xs n 0 == c) as (λ b. IfSome (if b then Some n else rfind_below c xs n) (λ k. k < suc n)) [
      | true ↦ omega arith
      | false ↦ wider (rfind_below c xs n) (rfind-within c xs n)
    ]
  where
    wider : (r : Option ℕ) → IfSome r (λ k. k < n) → IfSome r (λ k. k < suc n)
    wider None below = tt
    wider (Some k) below = omega arith

-- what stands after the place, if there is one
abbrev behind_place : List ℕ → Option ℕ → List ℕ
behind_place xs r = behind_last xs (option_map (λ i. (take i xs, drop (i + 1) xs)) r)

behind-push : (xs : List ℕ) (x : ℕ) (r : Option ℕ) → IfSome r (λ k. k < length xs) →
    behind_place (xs ++ x ∷ []) r ≡ behind_place xs r ++ x ∷ []
behind-push xs x None below = refl
behind-push xs x (Some k) below = drop-append-le (k + 1) xs (x ∷ []) (omega arith)

open-push : (xs : List ℕ) (x : ℕ) → open_line (xs ++ x ∷ []) ≡ (if x == 10 then [] else open_line xs ++ x ∷ [])
unfolding open_line rsplit_once
open-push xs x =
    rw (one-longer xs x, get_or_push xs x 0 (length xs) refl, rfind-append 10 xs (x ∷ []) (length xs) (omega arith))
    (cases (x == 10))
  where
    cases : (b : Bool) → behind_place (xs ++ x ∷ []) (if b then Some (length xs) else rfind_below 10 xs (length xs))
        ≡ (if b then [] else behind_place xs (rfind_below 10 xs (length xs)) ++ x ∷ [])
    cases true = drop_all (length xs + 1) (xs ++ x ∷ []) (omega (arith, length_push xs x))
    cases false = behind-push xs x (rfind_below 10 xs (length xs)) (rfind-within 10 xs (length xs))

-- the lines that an LF below the place ends
abbrev lines_below : List ℕ → ℕ → List (List ℕ)
lines_below xs n = map (λ i. open_line (take i xs)) (filter (λ i. slice_index xs i == 10) (places n))

lines-more : (xs : List ℕ) (n : ℕ) → lines_below xs (suc n)
    ≡ lines_below xs n ++ (if get_or xs n 0 == 10 then open_line (take n xs) ∷ [] else [])
lines-more xs n =
    ap (map (λ i. open_line (take i xs))) (filter-append (λ i. slice_index xs i == 10) (places n) (n ∷ []))
    ∙ (map-append (λ i. open_line (take i xs)) (filter (λ i. slice_index xs i == 10) (places n))
    (filter (λ i. slice_index xs i == 10) (n ∷ []))
    ∙ ap (λ ls. lines_below xs n ++ ls) (one (get_or xs n 0 == 10)))
  where
    one : (b : Bool) → map (λ i. open_line (take i xs)) (if b then n ∷ [] else [])
        ≡ (if b then open_line (take n xs) ∷ [] else [])
    one true = refl
    one false = refl

lines-append : (xs ys : List ℕ) (n : ℕ) → n ≤ length xs → lines_below (xs ++ ys) n ≡ lines_below xs n
lines-append xs ys zero within = refl
lines-append xs ys (suc n) within =
    let rest = lines-append xs ys n (omega arith) in
    let here = get_or_append_left xs ys 0 n (omega arith) in
    let front = take-append-le n xs ys (omega arith) in
    rw (lines-more (xs ++ ys) n, rest, here, front) (sym (lines-more xs n))

ended-push : (xs : List ℕ) (x : ℕ) → ended_lines (xs ++ x ∷ [])
    ≡ ended_lines xs ++ (if x == 10 then open_line xs ∷ [] else [])
unfolding ended_lines
ended-push xs x =
    let n = length xs in
    let front : take n (xs ++ x ∷ []) ≡ xs = take-append-le n xs (x ∷ []) (omega arith) ∙ take_all n xs (omega arith) in
    rw (one-longer xs x, lines-more (xs ++ x ∷ []) n, lines-append xs (x ∷ []) n (omega arith))
    (rw (get_or_push xs x 0 n refl, front) refl)

-- LF ends the open line
pub ended-by_lf : (xs : List ℕ) → ended_lines (xs ++ 10 ∷ []) ≡ ended_lines xs ++ open_line xs ∷ []
ended-by_lf xs = ended-push xs 10

pub open-by_lf : (xs : List ℕ) → open_line (xs ++ 10 ∷ []) ≡ []
open-by_lf xs = open-push xs 10

-- another octet does not
pub ended-by_other : (xs : List ℕ) (x : ℕ) → (x == 10) ≡ false → ended_lines (xs ++ x ∷ []) ≡ ended_lines xs
ended-by_other xs x other = rw (ended-push xs x, other) (append-nil (ended_lines xs))

pub open-by_other : (xs : List ℕ) (x : ℕ) → (x == 10) ≡ false → open_line (xs ++ x ∷ []) ≡ open_line xs ++ x ∷ []
open-by_other xs x other = rw (open-push xs x, other) refl

-- ---- a walk over the octets

-- the lines that LF ends, each without it, where `line` stands open before these octets
unfoldable pub ended_behind : List ℕ → List ℕ → List (List ℕ)
ended_behind line [] = []
ended_behind line (x ∷ xs) = if x == 10 then line ∷ ended_behind [] xs else ended_behind (line ++ x ∷ []) xs

-- the line that stands open after them
unfoldable pub open_behind : List ℕ → List ℕ → List ℕ
open_behind line [] = line
open_behind line (x ∷ xs) = if x == 10 then open_behind [] xs else open_behind (line ++ x ∷ []) xs

-- the walk over octets that follow others goes on from the line that stands open after those
pub ended-append : (xs ys : List ℕ) → ended_lines (xs ++ ys) ≡ ended_lines xs ++ ended_behind (open_line xs) ys
unfolding ended_behind
ended-append xs [] = ap ended_lines (append-nil xs) ∙ sym (append-nil (ended_lines xs))
ended-append xs (y ∷ ys) =
    rw (← append_assoc xs (y ∷ []) ys, ended-append (xs ++ y ∷ []) ys, ended-push xs y, open-push xs y)
    (append_assoc (ended_lines xs) (if y == 10 then open_line xs ∷ [] else [])
    (ended_behind (if y == 10 then [] else open_line xs ++ y ∷ []) ys)
    ∙ ap (λ ls. ended_lines xs ++ ls) (cases (y == 10)))
  where
    cases : (b : Bool) → (if b then open_line xs ∷ [] else [])
        ++ ended_behind (if b then [] else open_line xs ++ y ∷ []) ys
        ≡ (if b then open_line xs ∷ ended_behind [] ys else ended_behind (open_line xs ++ y ∷ []) ys)
    cases true = refl
    cases false = refl

pub open-append : (xs ys : List ℕ) → open_line (xs ++ ys) ≡ open_behind (open_line xs) ys
unfolding open_behind
open-append xs [] = ap open_line (append-nil xs)
open-append xs (y ∷ ys) =
    rw (← append_assoc xs (y ∷ []) ys, open-append (xs ++ y ∷ []) ys, open-push xs y) (cases (y == 10))
  where
    cases : (b : Bool) → open_behind (if b then [] else open_line xs ++ y ∷ []) ys
        ≡ (if b then open_behind [] ys else open_behind (open_line xs ++ y ∷ []) ys)
    cases true = refl
    cases false = refl
