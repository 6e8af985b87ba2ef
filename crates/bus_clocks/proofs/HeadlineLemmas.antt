-- What a whole run over two clocks comes to.
use Rattle.std.proofs.Common.{◌≡◌, ◌+◌, ◌*◌, ◌≤◌, List, length, map, sym, ap, ◌∙◌}
use Rattle.bus_fcs.specs.Check.{CheckView}
use Rattle.bus_line.specs.Due.{reports}
use Rattle.bus_line.specs.Laws.{ReportsAre}
use Rattle.bus_line.specs.Ledger.{stored_open}
use Rattle.bus_dictionary.specs.Dictionary.{longest_of}
use Rattle.bus_line.specs.LineReport.{of_side}
use Rattle.bus_pairing.specs.History.{history}
use Rattle.bus_pairing.specs.Ledger.{total}
use Rattle.bus_pairing.specs.Seen.{report_in}
use Rattle.bus_line.specs.declared.line.Line.TheVariants.{First, Second}
use Rattle.bus_watch.specs.Laws.{SeenAreReports, joined}
use Rattle.bus_watch.specs.declared.pair.usage.PairUsage.{PairUsage}
use Rattle.bus_watch.proofs.FedLemmas.{same-seen}
use Rattle.bus_watch.proofs.HeadlineLemmas.{runs-alike}
use Rattle.bus_tap.specs.Arrival.{Arrival, own, arrived}
use Rattle.bus_clocks.specs.Clocks.{ClockState, IsAfterArrivals, two_clocks, arrival_reports}
use Rattle.bus_clocks.specs.Laws.{AnyCutOfArrivals, LinesApart}
use Rattle.bus_clocks.specs.Ledger.{IsClockLedger}
use Rattle.bus_clocks.specs.Headline.{WholeClockRun}

-- what the getters answer that a usage is made of
pub record Answers {C : Type 0} (view : CheckView C) (e : ClockState C) (u : PairUsage) : Type 0 where
  pub first_room : u.first_buffered ≤ longest_of e.conversation.dictionary + 2
  pub second_room : u.second_buffered ≤ longest_of e.conversation.dictionary + 2
  pub first_buffered : (xs : List Arrival) → IsAfterArrivals view e xs →
      u.first_buffered ≡ stored_open (longest_of e.conversation.dictionary) (own First xs)
  pub second_buffered : (xs : List Arrival) → IsAfterArrivals view e xs →
      u.second_buffered ≡ stored_open (longest_of e.conversation.dictionary) (own Second xs)
  pub kept : (xs : List Arrival) → IsAfterArrivals view e xs →
      u.history_len ≡ length (history e.conversation.depth (arrival_reports e xs))
  pub deep : u.history_len ≤ e.conversation.depth
  pub ledger : (xs : List Arrival) → IsAfterArrivals view e xs →
      IsClockLedger view.cost (longest_of e.conversation.dictionary) xs u.spent
  pub four : (xs : List Arrival) → IsAfterArrivals view e xs → total u.spent ≤ 4 * length xs
  pub three : view.cost ≡ 1 → (xs : List Arrival) → IsAfterArrivals view e xs → total u.spent ≤ 3 * length xs

pub whole-run : {C : Type 0} (view : CheckView C) (end : ClockState C) (u : PairUsage) → AnyCutOfArrivals view →
    ReportsAre → SeenAreReports → LinesApart → Answers view end u → WholeClockRun view end u
whole-run view end u cut are in-order apart answers = λ start pieces shown new runs.
    let alike = runs-alike (two_clocks view) start end pieces shown runs in
    let both = cut start end pieces shown new runs in
    let is_after = both.0 in
    let xs = joined pieces in
    let longest = longest_of end.conversation.dictionary in
    let origin = end.first.origin in
    let all_seen = both.1 ∙ sym (same-seen (two_clocks view) start end xs alike.dictionary alike.origin) in
    let all_reports = ap (map report_in) all_seen ∙ in-order end.conversation.dictionary (arrived origin longest xs) in
    let sides = apart origin longest xs in
    rw (← alike.dictionary, ← alike.depth, ← alike.origin)
    (record {
      shown = all_seen;
      first_framing =
          (reports longest (own First xs), are longest (own First xs), ap (of_side First) all_reports ∙ sides.0);
      second_framing =
          (reports longest (own Second xs), are longest (own Second xs), ap (of_side Second) all_reports ∙ sides.1);
      first_bound = answers.first_room;
      second_bound = answers.second_room;
      first_buffered = answers.first_buffered _ is_after;
      second_buffered = answers.second_buffered _ is_after;
      history = is_after.conversation.history;
      history_len = answers.kept _ is_after ∙ ap length (sym is_after.conversation.history);
      history_bound = answers.deep;
      ledger = answers.ledger _ is_after;
      four = answers.four _ is_after;
      three = λ one. answers.three one _ is_after;
    })
