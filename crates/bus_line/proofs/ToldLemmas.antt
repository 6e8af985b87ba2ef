-- What a sink was told, and then more.
use Rattle.std.proofs.Common.{◌≡◌, List, [], ◌++◌, Option, None, Some, refl, sym, ap, append-nil, append_assoc}
use Rattle.bus_line.specs.Told.{told}

pub told-nil : {X : Type 0} (t : Option (List X)) → t ≡ told t []
told-nil None = refl
told-nil (Some xs) = ap Some (sym (append-nil xs))

pub told-more : {X : Type 0} (t : Option (List X)) (xs ys : List X) → told (told t xs) ys ≡ told t (xs ++ ys)
told-more None xs ys = refl
told-more (Some zs) xs ys = ap Some (append_assoc zs xs ys)
