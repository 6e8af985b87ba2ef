-- What is known of the symbols that are followed, some more at a time.
use Rattle.std.proofs.Common.{◌≡◌, ℕ, zero, suc, ◌+◌, ◌-◌, ◌<◌, ◌≤◌, ◌^◌, List, [], ◌∷◌, ◌++◌, length, take, drop}
use Rattle.std.proofs.Common.{get_or, Option, Some, None, refl, sym, ap, ◌∙◌, subst}
use Rattle.std.proofs.Common.{arith, append_assoc, append-nil, length-append}
use Rattle.std.proofs.lemmas.Grind.{common_steps}
use Rattle.std.proofs.lemmas.List.{take_all, take-append-le}
use Rattle.bus_dictionary.specs.Entry.{FrameType}
use Rattle.bus_dictionary.specs.Dictionary.{longest_of}
use Rattle.bus_pairing.specs.Seen.{SeenReport, seen}
use Rattle.bus_pairing.specs.Talk.{pending}
use Rattle.bus_watch.specs.Watch.{AdvancesWatch, seen_by}
use Rattle.bus_text.specs.Listing.{ending_text}
use Rattle.bus_text.specs.Summary.{summary_of}
use Rattle.bus_text.specs.Pages.{Pages}
use Rattle.bus_calls.specs.Internal.Kinds.{KindView, KindLaws}
use Rattle.bus_calls.specs.Internal.Watching.{IsSound, WatchAfter, IsSame, WatchStopsWith, FeedStopsWith, printed}
use Rattle.bus_calls.specs.Internal.Watching.{ended, lines, last_lines, reports_by, within}
use Rattle.bus_text.specs.declared.printer.Printer.{Printer}
use Rattle.bus_calls.specs.declared.run.CaptureRun.{CaptureRun}
use Rattle.bus_text.specs.declared.fault.ToolFault.{ToolFault}
use Rattle.bus_text.specs.declared.fault.ToolFault.TheVariants as fault
use Rattle.bus_text.specs.declared.page.Page.{Page}
use Rattle.bus_text.proofs.PagesLemmas.{pages-more}
use Rattle.bus_calls.specs.Internal.ReportingLaws.{printed-append}

-- symbols that all have a place
pub within-all : {X : Type 0} (origin : ℕ) (b : List X) → origin + length b ≤ 2 ^ 60 → within origin b ≡ b
within-all origin b fits = take_all (2 ^ 60 - origin) b (omega (arith, fits))

-- some more, where the place has come to its end
pub within-front : {X : Type 0} (origin : ℕ) (b more : List X) → origin + length b ≡ 2 ^ 60 →
    within origin (b ++ more) ≡ b
within-front origin b more full =
    take-append-le (2 ^ 60 - origin) b more (omega (arith, full)) ∙ take_all (2 ^ 60 - origin) b (omega (arith, full))

-- the first of two lists, one after the other
pub take-split : {X : Type 0} (n : ℕ) (xs ys : List X) → take n (xs ++ ys) ≡ take n xs ++ take (n - length xs) ys
take-split zero xs ys = grind (arith, common_steps)
take-split (suc n) [] ys = grind (arith, common_steps)
take-split (suc n) (x ∷ xs) ys =
    let fewer : n - length xs ≡ suc n - length (x ∷ xs) = omega arith in
    ap (λ zs. x ∷ zs) (take-split n xs ys ∙ ap (λ (k : ℕ). take n xs ++ take k ys) fewer)

-- an item of a list, after those before it
pub item-middle : {X : Type 0} (b xs : List X) (i : ℕ) (x d : X) → i < length xs → x ≡ get_or xs i d →
    ((b ++ take i xs) ++ x ∷ []) ++ drop (i + 1) xs ≡ b ++ xs
item-middle b xs i x d inside is = grind (arith, common_steps)

pub item-next : {X : Type 0} (b xs : List X) (i : ℕ) (x d : X) → i < length xs → x ≡ get_or xs i d →
    (b ++ take i xs) ++ x ∷ [] ≡ b ++ take (i + 1) xs
item-next b xs i x d inside is = grind (arith, common_steps)

module _ {A R X B : Type 0} (t : KindView A R X B) where
  -- what is seen depends on dictionary and origin alone
  pub seen-same : (a c : A) (b : List X) → t.watch.dictionary c ≡ t.watch.dictionary a →
      t.watch.origin c ≡ t.watch.origin a → seen_by t.watch c b ≡ seen_by t.watch a b
  seen-same a c b dictionary origin =
      ap (λ (x : List FrameType). seen x (t.watch.reports (t.watch.origin c) (longest_of x) b)) dictionary
      ∙ ap (λ (n : ℕ). seen (t.watch.dictionary a) (t.watch.reports n (longest_of (t.watch.dictionary a)) b)) origin

  -- what is seen of more symbols
  pub seen-more : (a c : A) (b more : List X) (told : List SeenReport)
      → t.watch.is_after a b → AdvancesWatch t.watch a more told c
      → seen_by t.watch c (b ++ more) ≡ seen_by t.watch a b ++ told
  seen-more a c b more told after leads = seen-same a c (b ++ more) leads.dictionary leads.origin ∙ leads.seen b after

  -- the lines of more symbols
  pub lines-more : (w v : CaptureRun A) (b more : List X) (told : List SeenReport)
      → v.reporter.printer ≡ w.reporter.printer → t.watch.is_after w.analyser b →
      AdvancesWatch t.watch w.analyser more told v.analyser
      → lines t v (b ++ more) ≡ lines t w b ++ printed w.reporter.printer (t.watch.dictionary w.analyser) told
  lines-more w v b more told printer after leads =
      ap (λ x. printed x (t.watch.dictionary v.analyser) (seen_by t.watch v.analyser (b ++ more))) printer
      ∙ ap (λ (d : List FrameType). printed w.reporter.printer d (seen_by t.watch v.analyser (b ++ more)))
      leads.dictionary
      ∙ ap (printed w.reporter.printer (t.watch.dictionary w.analyser))
      (seen-more w.analyser v.analyser b more told after leads)
      ∙ printed-append w.reporter.printer (t.watch.dictionary w.analyser) (seen_by t.watch w.analyser b) told

  -- symbols that tell this were followed
  pub watched : (start now later : Option (List ℕ)) (w v : CaptureRun A) (b more : List X) (told : List SeenReport)
      → v.reporter.printer ≡ w.reporter.printer → WatchAfter t start now w b
      → AdvancesWatch t.watch w.analyser more told
      v.analyser
      → v.reporter.summary ≡ summary_of (seen_by t.watch w.analyser b ++ told)
      → Pages start later v.reporter.page.text v.reporter.page.written
      (lines t w b ++ printed w.reporter.printer (t.watch.dictionary w.analyser) told)
      → WatchAfter t start later v (b ++ more)
  watched start now later w v b more told printer followed leads counts page = record {
    is_after = leads.is_after b followed.is_after;
    counts = counts ∙ ap summary_of (sym (seen-more w.analyser v.analyser b more told followed.is_after leads));
    page = subst (Pages start later v.reporter.page.text v.reporter.page.written)
        (sym (lines-more w v b more told printer followed.is_after leads)) page;
  }

  -- symbols that have no place stop the following
  pub halted : KindLaws t → (start now : Option (List ℕ)) (w v : CaptureRun A) (b more : List X)
      → v ≡ w → 0 < length more → 2 ^ 60 ≤ t.watch.place w.analyser → IsSound t w → WatchAfter t start now w b →
      WatchStopsWith t start now v (b ++ more) fault.PlaceLimit
  halted law start now w v b more same some limit sound followed =
      let origin = t.watch.origin w.analyser in
      let place : t.watch.place w.analyser ≡ origin + length b = law.placed w.analyser b followed.is_after in
      let most : t.watch.place w.analyser ≤ 2 ^ 60 = sound.places in
      let end : origin + length b ≡ 2 ^ 60 = omega (arith, place, most, limit) in
      let over : 2 ^ 60 - origin < length (b ++ more) = omega (arith, end, some, length-append b more) in
      subst (λ (x : CaptureRun A). WatchStopsWith t start now x (b ++ more) fault.PlaceLimit) (sym same)
      (over, subst (WatchAfter t start now w) (sym (within-front origin b more end)) followed)

  -- what stopped, stops with more after it
  pub halts-more : (start now : Option (List ℕ)) (w : CaptureRun A) (b more : List X) (f : ToolFault)
      → WatchStopsWith t start now w b f → WatchStopsWith t start now w (b ++ more) f
  halts-more start now w b more fault.PlaceLimit stopped =
      let n = 2 ^ 60 - t.watch.origin w.analyser in
      let over : n < length b = stopped.0 in (
        omega (arith, over, length-append b more),
        subst (WatchAfter t start now w) (sym (take-append-le n b more (omega (arith, over)))) stopped.1,
      )
  halts-more start now w b more (fault.Write sent) stopped =
      let n = 2 ^ 60 - t.watch.origin w.analyser in
      record {
        front = stopped.front;
        more = stopped.more ++ take (n - length b) more;
        all = take-split n b more ∙ ap (λ (x : List X). x ++ take (n - length b) more) stopped.all
            ∙ append_assoc stopped.front stopped.more (take (n - length b) more);
        cut = stopped.cut;
        short = stopped.short;
      }
  halts-more start now w b more _ stopped = absurd stopped

  -- what the analyser takes stops as well
  pub feed-halts-more : KindLaws t → (start now : Option (List ℕ)) (w : CaptureRun A) (b more : List R) (f : ToolFault)
      → FeedStopsWith t start now w b f → FeedStopsWith t start now w (b ++ more) f
  feed-halts-more law start now w b more f stopped =
      let on = law.form.fed (t.rest w.analyser) b more in
      subst (λ (x : List X). WatchStopsWith t start now w x f) (sym on.is)
      (halts-more start now w (t.form.fed (t.rest w.analyser) b) on.taken f stopped)

  pub same-self : (w : CaptureRun A) → IsSame t w w
  same-self w = record { printer = refl; dictionary = refl; depth = refl; origin = refl; rest = refl }

  -- without a printer there are no lines of the end
  pub pages-unended : (start now : Option (List ℕ)) (w : CaptureRun A) (b : List X) (page later : Page)
      → w.reporter.printer ≡ None → later ≡ page
      → Pages start now page.text page.written (lines t w b) →
      Pages start now later.text later.written (lines t w b ++ last_lines t w b)
  pages-unended start now w b page later none same before =
      let waits = pending (t.watch.dictionary w.analyser) (reports_by t.watch w.analyser b) in
      subst (λ (x : Page). Pages start now x.text x.written (lines t w b ++ last_lines t w b)) (sym same)
      (subst (λ (z : List ℕ). Pages start now page.text page.written z)
      (sym (ap (λ x. lines t w b ++ ended x (t.form.ending (t.watch.origin w.analyser) b waits)) none
      ∙ append-nil (lines t w b))) before)

  -- the lines of the end were put on the page
  pub pages-ended : (start now : Option (List ℕ)) (w : CaptureRun A) (b : List X) (p : Printer) (page put later : Page)
      → w.reporter.printer ≡ Some p → later ≡ put
      → put.text.items ≡ page.text.items ++ ending_text p
      (t.form.ending (t.watch.origin w.analyser) b
      (pending (t.watch.dictionary w.analyser) (reports_by t.watch w.analyser b)))
      → put.written ≡ page.written
      → Pages start now page.text page.written (lines t w b) →
      Pages start now later.text later.written (lines t w b ++ last_lines t w b)
  pages-ended start now w b p page put later some same bytes written before =
      let waits = pending (t.watch.dictionary w.analyser) (reports_by t.watch w.analyser b) in
      let last : put.text.items ≡ page.text.items ++ last_lines t w b =
      bytes ∙ ap (λ x. page.text.items ++ ended x (t.form.ending (t.watch.origin w.analyser) b waits)) (sym some) in
      subst (λ (x : Page). Pages start now x.text x.written (lines t w b ++ last_lines t w b)) (sym same)
      (subst (λ (n : ℕ). Pages start now put.text n (lines t w b ++ last_lines t w b)) (sym written)
      (pages-more start now page.text put.text page.written (lines t w b) (last_lines t w b) last before))

-- what stays the same twice, stays the same
pub same-both : {A R X B : Type 0} {t : KindView A R X B} {u v w : CaptureRun A} → IsSame t u v → IsSame t v w →
    IsSame t u w
same-both first second = record {
  printer = second.printer ∙ first.printer;
  dictionary = second.dictionary ∙ first.dictionary;
  depth = second.depth ∙ first.depth;
  origin = second.origin ∙ first.origin;
  rest = second.rest ∙ first.rest;
}
