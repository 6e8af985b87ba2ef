-- Results and their faults.
use Rattle.std.proofs.Common.{◌≡◌, Result, Ok, Err, Some, IfErr, IsErrAnd, sym, subst}

pub same : {A : Type 0} {x y : A} → Some x ≡ Some y → x ≡ y
same e = cc

-- what is true of a fault is true where it is the fault of a result
pub if_err : {T E : Type 0} (r : Result T E) (e : E) (P : E → Type 0) → P e → IsErrAnd r (λ f. f ≡ e) → IfErr r P
if_err (Ok x) e P p h = absurd h
if_err (Err f) e P p h = subst P (sym h) p
