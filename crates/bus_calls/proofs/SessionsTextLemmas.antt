-- Text captures, some octets more at a time.
use Rattle.std.proofs.Common.{◌≡◌, ℕ, ◌+◌, ◌<◌, ◌≤◌, ◌^◌, List, ◌++◌, length, take, Option, None, sym, ap, ◌∙◌, subst}
use Rattle.std.proofs.Common.{arith, append-nil, true, Result, Ok, Err, MatchResult}
use Rattle.std.proofs.lemmas.Grind.{common_steps}
use Rattle.bus_calls.specs.Captures.{fed_by}
use Rattle.bus_calls.specs.Internal.Kinds.{KindView, KindLaws}
use Rattle.bus_calls.specs.Internal.Watching.{IsSame, WatchAfter, FeedAfter, FeedStopsWith}
use Rattle.bus_calls.specs.Internal.Sessions.{OctetsAfter, SourceStopsWith}
use Rattle.bus_calls.specs.declared.run.CaptureRun.{CaptureRun}
use Rattle.bus_text.specs.declared.fault.ToolFault.{ToolFault}
use Rattle.bus_calls.proofs.CapturesLemmas.{halts-stops, low-origin}

-- how many octets stand before it
pub octets-before : (xs os : List ℕ) (i : ℕ) → i < length os → length (xs ++ take i os) ≡ length xs + i
octets-before xs os i inside = grind (arith, common_steps)

-- where no octets were taken
pub none-taken : {A R X B : Type 0} {t : KindView A R X B} {start now : Option (List ℕ)} {w : CaptureRun A}
    (xs ys : List ℕ) (n : ℕ) → n ≡ 0 → OctetsAfter t start now w (xs ++ take n ys) → OctetsAfter t start now w xs
none-taken {t = t} {start = start} {now = now} {w = w} xs ys n none followed =
    subst (OctetsAfter t start now w) (ap (λ (k : ℕ). xs ++ take k ys) none ∙ append-nil xs) followed

module _ {A R X B : Type 0} {t : KindView A R X B} (law : KindLaws t) where
  -- the symbols of a text were taken, or not
  pub mark-taken : {start before : Option (List ℕ)} {w v : CaptureRun A} {old : List X} {b : List R}
      (now : Option (List ℕ)) (xs : List ℕ) (r : Result (Unit {0}) ToolFault)
      → t.watch.place w.analyser ≤ 2 ^ 60 → IsSame t w v → WatchAfter t start before w old
      → ((t.form.text xs).fault ≡ None) × ((t.form.text xs).bits ≡ b)
      → MatchResult r (λ _. FeedAfter t start now v b) (λ f. FeedStopsWith t start now v b f)
      → MatchResult r (λ _. OctetsAfter t start now v xs) (λ f. SourceStopsWith t true start now v xs f)
  mark-taken {start} {before} {w} {v} now xs (Ok u) places same followed given taken =
      record { clean = given.0; bits = subst (FeedAfter t start now v) (sym given.1) taken }
  mark-taken {start} {before} {w} {v} now xs (Err f) places same followed given taken =
      halts-stops t start now v (fed_by t.form (t.rest v.analyser) (t.form.text xs)) f
      (low-origin law places same followed)
      (subst (λ (x : List R). FeedStopsWith t start now v x f) (sym given.1) taken)
