-- What is known while reports are told one after another.
use Rattle.std.specs.Prelude.{◌≡◌, ℕ, ◌+◌, ◌*◌, ◌<◌, ◌≤◌, ◌^◌, List, ◌++◌, length, Option, Some, None}
use Rattle.arrayvec.specs.ArrayVec.{array_vec_len}
use Rattle.bus_dictionary.specs.Entry.{FrameType}
use Rattle.bus_pairing.specs.Seen.{SeenReport}
use Rattle.bus_text.specs.Counting.{IsFew}
use Rattle.bus_text.specs.Pages.{Pages}
use Rattle.bus_text.specs.Put.{TextStopsAt}
use Rattle.bus_text.specs.Summary.{summary_of}
use Rattle.bus_text.specs.declared.page.Page.{Page}
use Rattle.bus_text.specs.declared.put.ShortWrite.{ShortWrite}
use Rattle.bus_calls.specs.Internal.Watching.{printed}
use Rattle.bus_calls.specs.declared.reporter.Reporter.{Reporter}

-- the writer went from `start` to `now` by a text, the last part of which stands on the page, or it was cut off in it
abbrev pub IsOut : Option (List ℕ) → Option (List ℕ) → Page → Option ShortWrite → List ℕ → Type 0
IsOut start now page None text = Pages start now page.text page.written text
IsOut start now page (Some cut) text = TextStopsAt start now text cut.sent × (cut.sent < length text)

-- these reports, told with this dictionary, lead the reporter and what the writer wrote on
pub record ReportsSeen (d : List FrameType) (old : Reporter) (before : Option (List ℕ)) (seen : List SeenReport)
    (new : Reporter)
    (after : Option (List ℕ)) : Type 0 where
  pub printer : new.printer ≡ old.printer
  pub out : (start : Option (List ℕ)) (text : List ℕ) → IsOut start before old.page old.cut text
      → IsOut start after new.page new.cut (text ++ printed old.printer d seen)
  pub stays : (sent : ShortWrite) → old.cut ≡ Some sent → new.cut ≡ Some sent
  pub counted : (all : List SeenReport) → old.summary ≡ summary_of all → new.cut ≡ None
      → new.summary ≡ summary_of (all ++ seen)
  pub few : (most : ℕ) → IsFew most old.summary → IsFew (most + length seen) new.summary
  pub octets : new.page.written + array_vec_len new.page.text ≤ old.page.written + array_vec_len old.page.text + 1024
      * length seen

-- so many reports more can be told
abbrev pub HasReporterRoom : Reporter → ℕ → Type 0
HasReporterRoom t more =
    ((most : ℕ) × IsFew most t.summary × (most + more < 2 ^ 62))
    × (t.page.written + array_vec_len t.page.text + 1024 * more < 2 ^ 100)
