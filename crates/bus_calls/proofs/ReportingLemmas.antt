-- A writer that was cut off, and what is counted.
use Rattle.std.proofs.Common.{◌≡◌, ℕ, List, [], ◌∷◌, ◌++◌, Option, Some, None, true, false, refl, sym, ◌∙◌, arith}
use Rattle.std.proofs.Common.{length-append}
use Rattle.std.specs.Option.{is_some}
use Rattle.bus_text.specs.declared.put.ShortWrite.{ShortWrite}
use Rattle.bus_text.specs.declared.page.Page.{Page}
use Rattle.bus_pairing.specs.Seen.{SeenReport}
use Rattle.bus_pairing.specs.Shown.{found, found_on}
use Rattle.bus_pairing.specs.declared.seen_event.SeenEvent.{SeenEvent}
use Rattle.bus_line.specs.declared.line.Line.{Line}
use Rattle.bus_text.specs.Summary.{summary_of}
use Rattle.bus_text.proofs.PagesLemmas.{cuts-more}
use Rattle.bus_text.proofs.SummaryLemmas.{summary-more}
use Rattle.bus_calls.specs.Internal.Reporting.{IsOut}

-- the writer was not cut off
pub not-cut : (o : Option ShortWrite) → false ≡ is_some o → o ≡ None
not-cut None is = refl
not-cut (Some cut) is = absurd (cc)

-- a writer that was cut off reports no more
pub still-cut : (start now : Option (List ℕ)) (page : Page) (o : Option ShortWrite) (text more : List ℕ) →
    true ≡ is_some o → IsOut start now page o text → IsOut start now page o (text ++ more)
still-cut start now page None text more is out = absurd (cc)
still-cut start now page (Some cut) text more is out =
    (cuts-more start now text more cut.sent out.0, omega (arith, out.1, length-append text more))

pub not-both : (o : Option ShortWrite) (cut : ShortWrite) → o ≡ None → o ≡ Some cut → ⊥
not-both o cut none some = cc

pub not-none : (o : Option ShortWrite) → true ≡ is_some o → o ≡ None → ⊥
not-none None is none = cc
not-none (Some cut) is none = not-both (Some cut) cut none refl

-- a report counts the same whatever its line
pub counted-on : (before : List SeenReport) (line : Option Line) (octets : List ℕ) (f : SeenEvent) →
    summary_of (before ++ found octets f ∷ []) ≡ summary_of (before ++ found_on line octets f ∷ [])
counted-on before line octets f =
    summary-more before (found octets f) ∙ sym (summary-more before (found_on line octets f))
