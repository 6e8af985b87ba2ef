-- Cases of numbers and of tests.
use Rattle.std.proofs.Common.{◌≡◌, ℕ, ◌<◌, ◌≤◌, ◌⊎◌, inl, inr, Bool, true, false, nat_lt, Option, None, IsSome, refl}
use Rattle.std.proofs.Common.{subst, arith}
use Rattle.std.proofs.lemmas.Bool.Decides.{nat_tests}

pub lt_true : (a b : ℕ) → a < b → nat_lt a b ≡ true
lt_true a b less = grind (arith, nat_tests)

pub le_false : (a b : ℕ) → b ≤ a → nat_lt a b ≡ false
le_false a b at-most = grind (arith, nat_tests)

pub same : (b : Bool) → (b ≡ true) ⊎ (b ≡ false)
same true = inl refl
same false = inr refl

pub le_or_lt : (a b : ℕ) → (a ≤ b) ⊎ (b < a)
le_or_lt a b = grind arith

-- none is not some
pub no-some : {A : Type 0} (o : Option A) → o ≡ None → IsSome o → ⊥
no-some o is-none is-some = let none = subst IsSome is-none is-some in absurd (cc)
