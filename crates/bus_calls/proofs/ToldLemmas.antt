-- Symbols at which all that is seen was told.
use Rattle.std.proofs.Common.{◌≡◌, ℕ, ◌+◌, ◌*◌, ◌<◌, ◌≤◌, ◌^◌, List, [], ◌++◌, length, Option, Some, None, Result, Ok}
use Rattle.std.proofs.Common.{Err, MatchResult, refl, sym, ap, ◌∙◌, subst, arith, length-append, append-nil}
use Rattle.std.proofs.Common.{append_assoc}
use Rattle.bus_watch.specs.Watch.{AdvancesWatchShown, seen_by}
use Rattle.bus_text.specs.Put.{TextStopsAt}
use Rattle.bus_text.specs.declared.fault.ToolFault.{ToolFault}
use Rattle.bus_text.specs.declared.fault.ToolFault.TheVariants as fault
use Rattle.bus_text.specs.declared.put.ShortWrite.{ShortWrite}
use Rattle.bus_calls.specs.Internal.Kinds.{KindView, KindLaws}
use Rattle.bus_calls.specs.Internal.Reporting.{IsOut, ReportsSeen}
use Rattle.bus_calls.specs.Internal.Watching.{WatchStopsWith, IsSound, WatchAfter, lines, printed, fed, FeedAfter}
use Rattle.bus_calls.specs.Internal.Watching.{FeedStopsWith}
use Rattle.bus_calls.specs.declared.run.CaptureRun.{CaptureRun}
use Rattle.bus_calls.specs.Internal.ReportingLaws.{few-within}
use Rattle.bus_calls.proofs.WatchingLemmas.{halted, halts-more, lines-more, watched, within-all}

module _ {A R X B : Type 0} (t : KindView A R X B) {w v : CaptureRun A} {xs : List X} {before after : Option (List ℕ)}
    (all : AdvancesWatchShown t.watch w.analyser xs v.analyser
    (λ ss. ReportsSeen (t.watch.dictionary w.analyser) (record w.reporter { cut = None }) before ss v.reporter after))
  where
    pub told-sound : t.watch.place w.analyser + length xs ≤ 2 ^ 60 → IsSound t w → IsSound t v
    told-sound room sound =
        let place = t.watch.place w.analyser in
        record {
          places = omega (arith, all.sees.place, room);
          counts = few-within (2 * place + length all.seen) (2 * t.watch.place v.analyser) v.reporter.summary
              (omega (arith, all.sees.place, all.few)) (all.told.few (2 * place) sound.counts);
          octets = let before = sound.octets in omega (arith, all.sees.place, all.few, all.told.octets, before);
        }

    -- the lines that were told
    out : (start : Option (List ℕ)) (b : List X) → WatchAfter t start before w b
        → IsOut start after v.reporter.page v.reporter.cut
        (lines t w b ++ printed w.reporter.printer (t.watch.dictionary w.analyser) all.seen)
    out start b followed = all.told.out start (lines t w b) followed.page

    pub told-watched : v.reporter.cut ≡ None → (start : Option (List ℕ)) (b : List X) → WatchAfter t start before w b →
        WatchAfter t start after v (b ++ xs)
    told-watched none start b followed =
        watched t start before after w v b xs all.seen all.told.printer followed all.sees
        (all.told.counted (seen_by t.watch w.analyser b) followed.counts none)
        (subst (λ cut. IsOut start after v.reporter.page cut
        (lines t w b ++ printed w.reporter.printer (t.watch.dictionary w.analyser) all.seen))
        none (out start b followed))

    -- the writer was cut off
    pub told-cut : KindLaws t → (cut : ShortWrite) → v.reporter.cut ≡ Some cut →
        t.watch.place w.analyser + length xs ≤ 2 ^ 60
        → (start : Option (List ℕ)) (b : List X) → WatchAfter t start before w b →
        WatchStopsWith t start after v (b ++ xs) (fault.Write cut.sent)
    told-cut law cut some room start b followed =
        let text = lines-more t w v b xs all.seen all.told.printer followed.is_after all.sees in
        let short =
        subst
        (λ o. IsOut start after v.reporter.page o
        (lines t w b ++ printed w.reporter.printer (t.watch.dictionary w.analyser) all.seen)) some
        (out start b followed) in
        let fits : t.watch.origin v.analyser + length (b ++ xs) ≤ 2 ^ 60 =
        omega (arith, all.sees.origin, law.placed w.analyser b followed.is_after, room, length-append b xs) in
        record {
          front = b ++ xs;
          more = [];
          all = within-all (t.watch.origin v.analyser) (b ++ xs) fits ∙ sym (append-nil (b ++ xs));
          cut = subst (λ (ys : List ℕ). TextStopsAt start after ys cut.sent) (sym text) short.0;
          short = subst (λ (ys : List ℕ). cut.sent < length ys) (sym text) short.1;
        }

    -- these are those of a scan that were taken: the writer was cut off at them, or the others have no place
    pub told-scanned : KindLaws t → (more : List X) (taken given : ℕ) (r : Result (Unit {0}) ToolFault) →
        ((cut : ShortWrite) → v.reporter.cut ≡ Some cut → r ≡ Err (fault.Write cut.sent)) →
        (v.reporter.cut ≡ None → MatchResult r (λ _. given ≤ taken) (λ f. (taken < given) × (f ≡ fault.PlaceLimit))) →
        (given ≤ taken → more ≡ []) → (taken < given → (0 < length more) × (2 ^ 60 ≤ t.watch.place v.analyser)) →
        t.watch.place w.analyser + length xs ≤ 2 ^ 60 → IsSound t w →
        (start : Option (List ℕ)) (b : List X) → WatchAfter t start before w b →
        MatchResult r (λ _. WatchAfter t start after v (b ++ (xs ++ more)))
        (λ f. WatchStopsWith t start after v (b ++ (xs ++ more)) f)
    told-scanned law more taken given r cut placed none some room sound start b followed =
        ended v.reporter.cut refl r cut placed
      where
        ended : (o : Option ShortWrite) → v.reporter.cut ≡ o → (r : Result (Unit {0}) ToolFault) →
            ((cut : ShortWrite) → v.reporter.cut ≡ Some cut → r ≡ Err (fault.Write cut.sent)) →
            (v.reporter.cut ≡ None → MatchResult r (λ _. given ≤ taken)
            (λ f. (taken < given) × (f ≡ fault.PlaceLimit))) →
            MatchResult r (λ _. WatchAfter t start after v (b ++ (xs ++ more)))
            (λ f. WatchStopsWith t start after v (b ++ (xs ++ more)) f)
        ended (Some cut) is r written placed =
            rw (written cut is) (subst (λ zs. WatchStopsWith t start after v zs (fault.Write cut.sent))
            (append_assoc b xs more)
            (halts-more t start after v (b ++ xs) more (fault.Write cut.sent)
            (told-cut law cut is room start b followed)))
        ended None is (Ok u) written placed =
            subst (λ zs. WatchAfter t start after v (b ++ zs))
            (sym (ap (λ zs. xs ++ zs) (none (placed is)) ∙ append-nil xs)) (told-watched is start b followed)
        ended None is (Err f) written placed =
            let left = some (placed is).0 in
            rw ((placed is).1) (subst (λ zs. WatchStopsWith t start after v zs fault.PlaceLimit)
            (append_assoc b xs more)
            (halted t law start after v v (b ++ xs) more refl left.0 left.1 (told-sound room sound)
            (told-watched is start b followed)))

-- what is taken is what is given
pub as-given : {A X B : Type 0} (t : KindView A X X B) (start now : Option (List ℕ)) (v : CaptureRun A) (b : List X)
    (r : Result (Unit {0}) ToolFault) → t.is_fed v.analyser b → fed t v b ≡ b →
    MatchResult r (λ _. WatchAfter t start now v b) (λ f. WatchStopsWith t start now v b f) →
    MatchResult r (λ _. FeedAfter t start now v b) (λ f. FeedStopsWith t start now v b f)
as-given t start now v b (Ok u) rule same taken =
    record { rule = rule; bits = subst (WatchAfter t start now v) (sym same) taken }
as-given t start now v b (Err f) rule same stopped =
    subst (λ zs. WatchStopsWith t start now v zs f) (sym same) stopped
