-- A tap, with a run of samples more.
use Rattle.std.proofs.Common.{◌≡◌, ℕ, zero, suc, ◌+◌, ◌-◌, ◌≤◌, List, ◌∷◌, ◌++◌, map, replicate, refl, sym, ap}
use Rattle.std.proofs.Common.{◌∙◌, arith, subst, append_assoc, append-nil, Option}
use Rattle.std.proofs.lemmas.List.{map-append, replicate-append-replicate}
use Rattle.bus_tap.specs.Sampled.{Timed, timed}
use Rattle.bus_tap.specs.Tapped.{TapState, AdvancesTap, IsTapAfter, channels}
use Rattle.bus_sample.specs.Recording.{levels}
use Rattle.bus_sample.specs.Samples.{IsFrontOf}
use Rattle.bus_sample.specs.Internal.Runs.{RunAfter, HasMarked, timed_levels}
use Rattle.bus_sample.specs.declared.reader.SampleRun.{SampleRun}
use Rattle.bus_sample.specs.declared.options.SampleOptions.{SampleOptions}

map-same : (f : ℕ → ℕ) (n s : ℕ) → map f (replicate n s) ≡ replicate n (f s)
map-same f zero s = refl
map-same f (suc n) s = ap (λ xs. f s ∷ xs) (map-same f n s)

levels-run : (o : SampleOptions) (n s : ℕ) → levels o (replicate n s) ≡ replicate n (channels o.wires s)
levels-run o n s = map-same (channels o.wires) n s

-- with these samples
module _ (o : SampleOptions) (old new : TapState) (ss more : List ℕ) (xs : List Timed) (hold : old.hold ≡ o.hold)
    (advances : AdvancesTap old (levels o more) xs new) (after : IsTapAfter old (levels o ss)) where
  same-levels : levels o (ss ++ more) ≡ levels o ss ++ levels o more
  same-levels = map-append (channels o.wires) ss more

  tap-with : IsTapAfter new (levels o (ss ++ more))
  tap-with = subst (IsTapAfter new) (sym same-levels) (advances.after (levels o ss) after)

  pub arrivals-with : timed_levels o (ss ++ more) ≡ timed_levels o ss ++ xs
  arrivals-with =
      ap (timed o.hold) same-levels
      ∙ subst (λ h. timed h (levels o ss ++ levels o more) ≡ timed h (levels o ss) ++ xs) hold
      (advances.timed (levels o ss) after)

-- and the text that was put
pub taken-with : (start before now : Option (List ℕ)) (run new : SampleRun) (ss more : List ℕ) (xs : List Timed) →
    run.tap.hold ≡ run.options.hold → AdvancesTap run.tap (levels run.options more) xs new.tap →
    RunAfter start before run ss → new.options ≡ run.options →
    HasMarked start now new.marks run.options.rest (timed_levels run.options ss ++ xs) →
    RunAfter start now new (ss ++ more)
taken-with start before now run new ss more xs hold advances taken same marked =
    rw same (record {
      tap = tap-with run.options run.tap new.tap ss more xs hold advances taken.tap;
      marks = rw (arrivals-with run.options run.tap new.tap ss more xs hold advances taken.tap) marked;
    })

-- with samples that are the same
module _ (o : SampleOptions) (old new : TapState) (n s l : ℕ) (xs : List Timed) (is : l ≡ channels o.wires s)
    (advances : AdvancesTap old (replicate n l) xs new) where
  pub advances-run : AdvancesTap old (levels o (replicate n s)) xs new
  advances-run =
      subst (λ ls. AdvancesTap old ls xs new) (ap (replicate n) is ∙ sym (levels-run o n s)) advances

-- the first of a run
pub run-front : (ss : List ℕ) (m n s : ℕ) → n ≤ m → IsFrontOf (ss ++ replicate m s) (ss ++ replicate n s)
run-front ss m n s within =
    let all : m ≡ n + (m - n) = omega (arith, within) in (
      replicate (m - n) s,
      ap (λ k. ss ++ replicate k s) all ∙ (ap (λ xs. ss ++ xs) (sym (replicate-append-replicate n (m - n) s))
          ∙ sym (append_assoc ss (replicate n s) (replicate (m - n) s))),
    )

-- a run as far as it goes, and a part of the rest
pub run-none : (ss : List ℕ) (count s : ℕ) → ss ++ replicate (count - count) s ≡ ss
run-none ss count s =
    let none : count - count ≡ 0 = omega arith in
    rw none (append-nil ss)

pub run-on : (ss : List ℕ) (count left n s : ℕ) → left ≤ count → n ≤ left →
    ss ++ replicate (count - (left - n)) s ≡ (ss ++ replicate (count - left) s) ++ replicate n s
run-on ss count left n s within inside =
    let both : count - (left - n) ≡ (count - left) + n = omega (arith, within, inside) in
    ap (λ k. ss ++ replicate k s) both
    ∙ (ap (λ xs. ss ++ xs) (sym (replicate-append-replicate (count - left) n s))
    ∙ sym (append_assoc ss (replicate (count - left) s) (replicate n s)))

pub run-all : (ss : List ℕ) (count left s : ℕ) → left ≤ count →
    ss ++ replicate count s ≡ (ss ++ replicate (count - left) s) ++ replicate left s
run-all ss count left s within =
    let both : count ≡ (count - left) + left = omega (arith, within) in
    ap (λ k. ss ++ replicate k s) both
    ∙ (ap (λ xs. ss ++ xs) (sym (replicate-append-replicate (count - left) left s))
    ∙ sym (append_assoc ss (replicate (count - left) s) (replicate left s)))
