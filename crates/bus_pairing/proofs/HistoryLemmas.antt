-- A frame that is written where it is to lie.
use Rattle.std.proofs.Common.{◌≡◌, ℕ, zero, suc, ◌+◌, ◌-◌, List, [], ◌∷◌, ◌++◌, length, drop, slice_set}
use Rattle.std.proofs.Common.{sym, ap, ◌∙◌, arith}
use Rattle.std.proofs.lemmas.List.{length-append, drop-append-le}
use Rattle.std.proofs.Math.Seq.{set-append_seam}
use Rattle.std.proofs.Math.ListN.{drop_of_length-le}
use Rattle.circular_buffer.specs.Buffer.{keep_last}

module _ {X : Type 0} where
  split : (m : ℕ) (xs : List X) (y : X) →
      keep_last (suc m) (xs ++ y ∷ []) ≡ drop (length xs + 1 - suc m) xs ++ y ∷ []
  split m xs y =
      ap (λ k. drop (k - suc m) (xs ++ y ∷ [])) (length-append xs (y ∷ []))
      ∙ drop-append-le (length xs + 1 - suc m) xs (y ∷ []) (omega arith)

  pub appended : (n : ℕ) (xs : List X) (blank x : X) →
      slice_set (keep_last n (xs ++ blank ∷ [])) (length (keep_last n (xs ++ blank ∷ [])) - 1) x
      ≡ keep_last n (xs ++ x ∷ [])
  appended zero xs blank x =
      let none : (y : X) → keep_last 0 (xs ++ y ∷ []) ≡ [] = λ y. drop_of_length-le (xs ++ y ∷ []) (omega arith) in
      ap (λ zs. slice_set zs (length zs - 1) x) (none blank) ∙ sym (none x)
  appended (suc m) xs blank x =
      let ys = drop (length xs + 1 - suc m) xs in
      let last : length (ys ++ blank ∷ []) - 1 ≡ length ys = omega (arith, length-append ys (blank ∷ [])) in
      ap (λ zs. slice_set zs (length zs - 1) x) (split m xs blank)
      ∙ ap (λ k. slice_set (ys ++ blank ∷ []) k x) last
      ∙ set-append_seam ys blank [] x
      ∙ sym (split m xs x)
