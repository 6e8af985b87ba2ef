-- The steps of both lines, added up.
use Rattle.std.proofs.Common.{◌≡◌, ℕ, ◌+◌, ◌*◌, ◌≤◌, Bool, List, length, refl, ap, ◌∙◌, arith}
use Rattle.bus_bits.specs.declared.spent.Spent.{Spent}
use Rattle.bus_fcs.specs.Check.{CheckView}
use Rattle.bus_line.specs.Due.{reports}
use Rattle.bus_line.specs.Ledger.{octet_count, copied, stored, IsLedger as IsLineLedger}
use Rattle.bus_line.specs.Laws.{OneMore, StoredPaid, AssembledWithin}
use Rattle.bus_dictionary.specs.Dictionary.{longest_of}
use Rattle.bus_pairing.specs.Ledger.{steps, handled, total, sum_of_steps, IsAnalyserLedger}
use Rattle.bus_line.specs.declared.line.Line.TheVariants.{First, Second}
use Rattle.bus_pairing.proofs.LedgerLemmas.{cost-within}
use Rattle.bus_watch.specs.Laws.{StepsWithinFour, StepsWithinThree}
use Rattle.bus_tap.specs.Arrival.{Arrival, own}
use Rattle.bus_clocks.specs.Clocks.{ClockState, IsAfterArrivals}
use Rattle.bus_clocks.specs.Ledger.{IsClockLedger}
use Rattle.bus_tap.specs.Laws.{ArrivalsGrow}
use Rattle.bus_clocks.proofs.RoomLemmas.{own-count}
use Rattle.bus_clocks.proofs.SumLemmas.{sum-arrived}

abbrev steps_of : ℕ → List Bool → ℕ
steps_of longest b = handled (reports longest b)

line-ledger : (cost longest : ℕ) (b : List Bool) (d : Spent) → IsLineLedger cost longest b d →
    IsAnalyserLedger cost longest b (record d { copied = copied longest b; handled = handled (reports longest b) })
line-ledger cost longest b d ledger = record {
  bits = ledger.bits;
  settled = ledger.settled;
  filled = ledger.filled;
  paid = ledger.paid;
  kept = refl;
  reported = refl;
}

pub clock-ledger : {C : Type 0} (view : CheckView C) (a : ClockState C) (xs : List Arrival) (d e j : Spent) → OneMore →
    ArrivalsGrow →
    IsAfterArrivals view a xs → IsLineLedger view.cost a.first.longest (own First xs) d →
    IsLineLedger view.cost a.second.longest (own Second xs) e → j.copied ≡ a.conversation.copied →
    j.handled ≡ a.conversation.handled
    → IsClockLedger view.cost (longest_of a.conversation.dictionary) xs
    (record {
      shifted = d.shifted + e.shifted;
      assembled = d.assembled + e.assembled;
      folded = d.folded + e.folded;
      stored = d.stored + e.stored;
      copied = j.copied;
      handled = j.handled;
    })
clock-ledger view a xs d e j more grow reached first second copied_is handled_is =
    let longest = longest_of a.conversation.dictionary in
    let o = a.first.origin in
    let kept : j.copied ≡ copied longest (own First xs) + copied longest (own Second xs) =
    copied_is ∙ reached.conversation.copied ∙ sum-arrived octet_count (λ kind i k l m. refl) more grow o longest xs in
    let steps_are : j.handled ≡ steps_of longest (own First xs) + steps_of longest (own Second xs) =
    handled_is ∙ reached.conversation.handled ∙ sum-arrived steps (λ kind i k l m. refl) more grow o longest xs in
    record {
      first = record d { copied = copied longest (own First xs); handled = steps_of longest (own First xs) };
      second = record e { copied = copied longest (own Second xs); handled = steps_of longest (own Second xs) };
      first_is = line-ledger view.cost longest (own First xs) d (rw (← reached.longest) first);
      second_is = line-ledger view.cost longest (own Second xs) e (rw (← reached.longest_second) second);
      sum = rw (kept, steps_are) refl;
    }

plus-total : (s t : Spent) → total (sum_of_steps s t) ≡ total s + total t
plus-total s t = omega arith

pub clock-four : (cost longest : ℕ) (xs : List Arrival) (spent : Spent) → StepsWithinFour → cost ≤ 8 →
    IsClockLedger cost longest xs spent → total spent ≤ 4 * length xs
clock-four cost longest xs spent four cost_within ledger =
    omega (
      arith,
      ap total ledger.sum,
      plus-total ledger.first ledger.second,
      four cost longest (own First xs) ledger.first ledger.first_is cost_within,
      four cost longest (own Second xs) ledger.second ledger.second_is cost_within,
      own-count xs,
    )

pub clock-three : (longest : ℕ) (xs : List Arrival) (spent : Spent) → StepsWithinThree →
    IsClockLedger 1 longest xs spent → (spent.folded ≡ spent.stored) × (total spent ≤ 3 * length xs)
clock-three longest xs spent three ledger =
    let first = three longest (own First xs) ledger.first ledger.first_is in
    let second = three longest (own Second xs) ledger.second ledger.second_is in (
      rw (ledger.sum) (omega (arith, first.0, second.0)),
      omega (arith, ap total ledger.sum, plus-total ledger.first ledger.second, first.1, second.1, own-count xs),
    )

-- what a decoder counts is no more than its bits
counts-within : (cost longest : ℕ) (b : List Bool) (d : Spent) → StoredPaid → AssembledWithin → cost ≤ 8 →
    IsLineLedger cost longest b d
    → (d.shifted ≤ length b) × (d.assembled ≤ length b) × (d.folded ≤ length b) × (d.stored ≤ length b)
counts-within cost longest b d paid within cost_within ledger =
    let folded = cost-within cost (stored longest b) cost_within in (
      omega (arith, ledger.bits),
      omega (arith, ledger.settled, within b),
      omega (arith, ledger.paid, folded, paid longest b, within b),
      omega (arith, ledger.filled, paid longest b, within b),
    )

pub both-within : {C : Type 0} (view : CheckView C) (a : ClockState C) (xs : List Arrival) (d e : Spent) → StoredPaid →
    AssembledWithin → view.cost ≤ 8 → IsAfterArrivals view a xs →
    IsLineLedger view.cost a.first.longest (own First xs) d → IsLineLedger view.cost a.second.longest (own Second xs) e
    → (d.shifted + e.shifted ≤ a.first.place + a.second.place)
    × (d.assembled + e.assembled ≤ a.first.place + a.second.place)
    × (d.folded + e.folded ≤ a.first.place + a.second.place) × (d.stored + e.stored ≤ a.first.place + a.second.place)
both-within view a xs d e paid within cost_within reached first second =
    let one = counts-within view.cost a.first.longest (own First xs) d paid within cost_within first in
    let two = counts-within view.cost a.second.longest (own Second xs) e paid within cost_within second in
    let few : length (own First xs) + length (own Second xs) ≤ a.first.place + a.second.place =
    omega (arith, reached.first.has_taken.place, reached.second.has_taken.place) in (
      omega (arith, one.0, two.0, few),
      omega (arith, one.1, two.1, few),
      omega (arith, one.2, two.2, few),
      omega (arith, one.3, two.3, few),
    )
