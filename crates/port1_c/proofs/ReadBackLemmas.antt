-- What is read of idles after other calls.
use Rattle.std.proofs.Common.{◌≡◌, ℕ, zero, suc, ◌+◌, ◌<◌, List, [], ◌∷◌, ◌++◌, length, Option, None, Some, refl, sym}
use Rattle.std.proofs.Common.{ap, ◌∙◌, arith, length-append}
use Rattle.std.specs.Prelude.{All, if◌then◌else◌}
use Rattle.std.specs.List.{last_or}
use Rattle.std.proofs.lemmas.List.{append-nil, append_assoc}
use Rattle.std.proofs.lemmas.List.Elements.{All-append}
use Rattle.bus_line.specs.Report.{Report}
use Rattle.bus_line.specs.Line.{Call, Idle, added, line_behind}
use Rattle.bus_line.specs.Sent.{CanBeRead, LineIsReadBack, idle_at, is_idle_call, read_of, read_behind, sent}
use Rattle.port1_c.specs.Send.{IdlesAreReadBack, idles}

-- what is read of calls is what is read of the first, and then of the others
read-more : (place : ℕ) (before : Option Call) (calls more : List Call) →
    read_behind place before (calls ++ more) ≡ read_behind place before calls
    ++ read_behind (place + length (line_behind before calls)) (last_or before calls) more
read-more place before [] more = ap (λ (p : ℕ). read_behind p before more) (omega arith)
read-more place before (call ∷ calls) more =
    let p = place + length (added before call) in
    let at : p + length (line_behind (Some call) calls)
    ≡ place + length (added before call ++ line_behind (Some call) calls) =
    omega (arith, length-append (added before call) (line_behind (Some call) calls)) in
    ap (λ (rs : List Report). read_of place before call ++ rs)
    (read-more p (Some call) calls more
    ∙ ap (λ (q : ℕ). read_behind p (Some call) calls ++ read_behind q (last_or (Some call) calls) more) at)
    ∙ sym (append_assoc (read_of place before call) (read_behind p (Some call) calls)
    (read_behind (place + length (added before call ++ line_behind (Some call) calls)) (last_or (Some call) calls)
    more))

-- idles after an idle are read as nothing
read-none : (place n : ℕ) → read_behind place (Some Idle) (idles n) ≡ []
read-none place zero = refl
read-none place (suc n) = read-none (place + 15) n

read-idles : (place n : ℕ) (before : Option Call) → 0 < n →
    read_behind place before (idles n) ≡ (if is_idle_call before then [] else idle_at place ∷ [])
read-idles place zero before l = absurd (omega (arith, l))
read-idles place (suc n) before l =
    ap (λ (rs : List Report). read_of place before Idle ++ rs) (read-none (place + 15) n)
    ∙ append-nil (read_of place before Idle)

is-idle-row : (n : ℕ) (longest : ℕ) → All (CanBeRead longest) (idles n)
is-idle-row zero longest i d l = absurd (omega (arith, l))
is-idle-row (suc n) longest zero d l = tt
is-idle-row (suc n) longest (suc i) d l = is-idle-row n longest i d (omega (arith, l))

pub read-back : LineIsReadBack → IdlesAreReadBack
read-back law longest calls n can l =
    law longest (calls ++ idles n) (All-append (CanBeRead longest) calls (idles n) can (is-idle-row n longest))
    ∙ (read-more 0 None calls (idles n)
    ∙ (ap (λ (rs : List Report). sent calls ++ rs)
    (read-idles (0 + length (line_behind None calls)) n (last_or None calls) l)
    ∙ ap (λ (p : ℕ). sent calls ++ (if is_idle_call (last_or None calls) then [] else idle_at p ∷ [])) (omega arith)))
