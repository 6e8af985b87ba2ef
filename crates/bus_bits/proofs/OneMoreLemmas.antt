-- Lists with one item more.
use Rattle.std.proofs.Common.{List, [], ◌∷◌, ◌++◌, sym, subst, append-nil, append_assoc}

-- what holds of no items, and stays with one more, holds of all
module _ {X : Type 0} (P : List X → Type 0) (step : (xs : List X) (x : X) → P xs → P (xs ++ x ∷ [])) where
  from-front : (before after : List X) → P before → P (before ++ after)
  from-front before [] holds = subst P (sym (append-nil before)) holds
  from-front before (x ∷ after) holds =
      subst P (append_assoc before (x ∷ []) after) (from-front (before ++ x ∷ []) after (step before x holds))

pub one-by-one : {X : Type 0} (P : List X → Type 0) → P [] →
    ((xs : List X) (x : X) → P xs → P (xs ++ x ∷ [])) →
    (xs : List X) → P xs
one-by-one P none step xs = from-front P step [] xs none
