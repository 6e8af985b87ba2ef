-- Packed captures, some octets more at a time.
use Rattle.std.proofs.Common.{◌≡◌, ℕ, ◌-◌, ◌<◌, ◌≤◌, ◌^◌, false, List, ◌++◌, length, take, drop}
use Rattle.std.proofs.Common.{Option, Result, Ok, Err, MatchResult, sym, ap, ◌∙◌, subst, append-nil, arith}
use Rattle.std.specs.Result.{IsErrAnd}
use Rattle.std.proofs.lemmas.Grind.{common_steps}
use Rattle.bus_formats.specs.Capture.{CaptureOf}
use Rattle.bus_calls.specs.Captures.{fed_by}
use Rattle.bus_calls.specs.Internal.Kinds.{KindView, KindLaws}
use Rattle.bus_calls.specs.Internal.Watching.{IsSame, WatchAfter, FeedAfter, FeedStopsWith}
use Rattle.bus_calls.specs.Internal.Sessions.{BodyAfter, Faulty, CaptureStopsWith, SourceStopsWith}
use Rattle.bus_calls.specs.declared.run.CaptureRun.{CaptureRun}
use Rattle.bus_text.specs.declared.fault.ToolFault.{ToolFault}
use Rattle.bus_text.specs.declared.fault.ToolFault.TheVariants as fault
use Rattle.bus_calls.proofs.CapturesLemmas.{halts-stops, low-origin}

-- no octets were read
pub none-read : {A R X B : Type 0} {t : KindView A R X B} {start now : Option (List ℕ)} {run : CaptureRun A} {body : B}
    (xs os : List ℕ) (n : ℕ) → n ≡ 0 → BodyAfter t start now body run (xs ++ take n os) →
    BodyAfter t start now body run xs
none-read {t = t} {start = start} {now = now} {run = run} {body = body} xs os n none followed =
    subst (BodyAfter t start now body run) (ap (λ (k : ℕ). xs ++ take k os) none ∙ append-nil xs) followed

-- a head is filled from the front of some octets
pub filled-head : (xs os : List ℕ) → (xs ++ take (16 - length xs) os) ++ drop (16 - length xs) os ≡ xs ++ os
filled-head xs os = grind (arith, common_steps)

pub filled-long : (xs os : List ℕ) → length xs < 16 → 16 - length xs ≤ length os →
    length (xs ++ take (16 - length xs) os) ≡ 16
filled-long xs os short enough = grind (arith, common_steps)

-- a head that was filled from some octets
pub head-filled : (items xs os h : List ℕ) (n : ℕ) → items ≡ xs → n ≡ length items → length xs < 16 →
    16 - n ≤ length os → h ≡ items ++ take (16 - n) os
    → (length h ≡ 16) × (h ++ drop (16 - n) os ≡ xs ++ os)
head-filled items xs os h n same count short enough is =
    let long : n ≡ length xs = count ∙ ap length same in
    let here : h ≡ xs ++ take (16 - length xs) os = is ∙ ap (λ (ys : List ℕ). ys ++ take (16 - n) os) same
    ∙ ap (λ (j : ℕ). xs ++ take (16 - j) os) long in (
      ap length here ∙ filled-long xs os short (omega (arith, long, enough)),
      ap (λ (ys : List ℕ). ys ++ drop (16 - n) os) here
          ∙ ap (λ (j : ℕ). (xs ++ take (16 - length xs) os) ++ drop (16 - j) os) long ∙ filled-head xs os,
    )

-- what was refused, where `map_err` answered an error
pub err-mapped : {T E D : Type 0} (P : T → Type 0) (Q : E → Type 0) (Gives : E → D → Type 0) (r : Result T E)
    (m : Result T D) (d : D)
    → m ≡ Err d → MatchResult r (λ x. m ≡ Ok x) (λ e. IsErrAnd m (Gives e)) → MatchResult r P Q →
    (e : E) × Gives e d × Q e
err-mapped P Q Gives (Ok x) m d is made matched = absurd (let never : ⊥ = cc in never)
err-mapped P Q Gives (Err e) m d is made matched = (e, subst (λ k. IsErrAnd k (Gives e)) is made, matched)

-- what was made, where it answered a value
pub ok-mapped : {T E D : Type 0} (P : T → Type 0) (Q : E → Type 0) (Gives : E → D → Type 0) (r : Result T E)
    (m : Result T D) (y : T)
    → m ≡ Ok y → MatchResult r (λ x. m ≡ Ok x) (λ e. IsErrAnd m (Gives e)) → MatchResult r P Q → P y
ok-mapped P Q Gives (Ok x) m y is made matched = let same : x ≡ y = cc in subst P same matched
ok-mapped P Q Gives (Err e) m y is made matched = absurd (subst (λ k. IsErrAnd k (Gives e)) is made)

module _ {A R X B : Type 0} (t : KindView A R X B) where
  -- a fault of a capture that is answered stops
  pub faulty-stops : (start now : Option (List ℕ)) (w : CaptureRun A) (c : CaptureOf X) (f : ToolFault) →
      Faulty t start now w c f → CaptureStopsWith t start now w c f
  faulty-stops start now w c (fault.Write sent) faulty = absurd faulty.answered
  faulty-stops start now w c f faulty = faulty

module _ {A R X B : Type 0} {t : KindView A R X B} (law : KindLaws t) where
  -- the symbols of octets were taken, or not
  pub octets-taken : {start before : Option (List ℕ)} {w v : CaptureRun A} {old : List X} {b : List R}
      (now : Option (List ℕ)) (xs : List ℕ) (body : B) (r : Result (Unit {0}) ToolFault)
      → t.watch.place w.analyser ≤ 2 ^ 60 → IsSame t w v → WatchAfter t start before w old
      → t.is_body body xs × ((t.form.packed xs).bits ≡ b)
      → MatchResult r (λ _. FeedAfter t start now v b) (λ f. FeedStopsWith t start now v b f)
      → MatchResult r (λ _. BodyAfter t start now body v xs) (λ f. SourceStopsWith t false start now v xs f)
  octets-taken {start} {before} {w} {v} now xs body (Ok u) places same followed given taken =
      record { read = given.0; bits = subst (FeedAfter t start now v) (sym given.1) taken }
  octets-taken {start} {before} {w} {v} now xs body (Err f) places same followed given taken =
      halts-stops t start now v (fed_by t.form (t.rest v.analyser) (t.form.packed xs)) f
      (low-origin law places same followed)
      (subst (λ (x : List R). FeedStopsWith t start now v x f) (sym given.1) taken)
