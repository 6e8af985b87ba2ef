-- Lists one after the other.
use Rattle.std.proofs.Common.{◌≡◌, ℕ, ◌+◌, ◌-◌, ◌≤◌, Bool, List, [], ◌∷◌, ◌++◌, length, take, refl, ap, ◌∙◌, arith}
use Rattle.std.proofs.Math.Seq.{take-append-add}
use Rattle.std.specs.Prelude.{zip}

pub take_past : {A : Type 0} (m : ℕ) (d e : List A) → length d ≤ m → take m (d ++ e) ≡ d ++ take (m - length d) e
take_past m d e short =
    let sum : m ≡ length d + (m - length d) = omega arith in
    ap (λ (k : ℕ). take k (d ++ e)) sum ∙ take-append-add d e (m - length d)

-- pairs of two lists, and of two others after them
pub zip-append : (a b c d : List Bool) → length a ≡ length b → zip (a ++ c) (b ++ d) ≡ zip a b ++ zip c d
zip-append [] [] c d lengths = refl
zip-append [] (y ∷ b) c d lengths = absurd (omega (arith, lengths))
zip-append (x ∷ a) [] c d lengths = absurd (omega (arith, lengths))
zip-append (x ∷ a) (y ∷ b) c d lengths = rw (zip-append a b c d (omega (arith, lengths))) refl
