-- The counters have room for one report more, after no more arrivals than two lines have.
use Rattle.std.proofs.Common.{◌≡◌, ℕ, ◌+◌, ◌≤◌, ◌^◌, List, [], ◌∷◌, ◌++◌, length, map, Option, Some}
use Rattle.std.proofs.Common.{None, refl, ap, arith, length-append}
use Rattle.std.specs.Option.{option_map, option_to_list}
use Rattle.bus_fcs.specs.Check.{CheckView}
use Rattle.bus_line.specs.Report.{Report, moved}
use Rattle.bus_line.specs.Due.{due_at}
use Rattle.bus_line.specs.Ledger.{octet_count}
use Rattle.bus_line.specs.Laws.{OneMore, FramesStored, StoredPaid, AssembledWithin}
use Rattle.bus_dictionary.specs.Dictionary.{longest_of}
use Rattle.bus_line.specs.LineReport.{line_report}
use Rattle.bus_pairing.specs.Conversation.{HasRoom}
use Rattle.bus_line.specs.declared.line.Line.{Line}
use Rattle.bus_line.specs.declared.line.Line.TheVariants.{First, Second}
use Rattle.bus_watch.proofs.AnalyserViewLemmas.{room-of}
use Rattle.bus_tap.specs.Arrival.{Arrival, own, at_places, decides, arrived}
use Rattle.bus_clocks.specs.Clocks.{ClockState, IsAfterArrivals, arrival_reports}
use Rattle.bus_tap.specs.Laws.{ArrivalsGrow}
use Rattle.bus_tap.proofs.ArrivedLemmas.{decides-first, decides-second}
use Rattle.bus_bits.proofs.OneMoreLemmas.{one-by-one}
use Rattle.bus_clocks.proofs.SumLemmas.{sum-arrived}

-- an arrival decides one report at most
few : (line : Line) (f : Report → Report) (o : Option Report) →
    length (map (line_report (Some line)) (option_to_list (option_map f o))) ≤ 1
few line f None = omega arith
few line f (Some r) = omega arith

pub decides-few : (origin longest : ℕ) (xs : List Arrival) (x : Arrival) → length (decides origin longest xs x) ≤ 1
decides-few origin longest xs (First, bit) =
    omega (
      arith,
      ap length (decides-first origin longest xs bit),
      few First (moved origin) (due_at longest (own First xs ++ bit ∷ []) (length (own First xs))),
    )
decides-few origin longest xs (Second, bit) =
    omega (
      arith,
      ap length (decides-second origin longest xs bit),
      few Second (λ r. moved origin (at_places (xs ++ (Second, bit) ∷ []) r))
          (due_at longest (own Second xs ++ bit ∷ []) (length (own Second xs))),
    )

pub arrived-few : ArrivalsGrow → (origin longest : ℕ) (xs : List Arrival) →
    length (arrived origin longest xs) ≤ length xs
arrived-few grow origin longest xs =
    one-by-one (λ ys. length (arrived origin longest ys) ≤ length ys) (omega arith)
    (λ ys y before. omega (
      arith,
      ap length (grow origin longest ys y),
      length-append (arrived origin longest ys) (decides origin longest ys y),
      decides-few origin longest ys y,
      length-append ys (y ∷ []),
      before,
    )) xs

pub own-count : (xs : List Arrival) → length xs ≡ length (own First xs) + length (own Second xs)
own-count [] = omega arith
own-count ((First, bit) ∷ xs) = omega (arith, own-count xs)
own-count ((Second, bit) ∷ xs) = omega (arith, own-count xs)

pub room-arrivals : {C : Type 0} (view : CheckView C) (a : ClockState C) (xs : List Arrival) → OneMore →
    ArrivalsGrow → FramesStored → StoredPaid → AssembledWithin → IsAfterArrivals view a xs →
    length (own First xs) ≤ 2 ^ 60 →
    length (own Second xs) ≤ 2 ^ 60 → HasRoom a.conversation
room-arrivals view a xs more grow frames paid within reached first second =
    let o = a.first.origin in
    let longest = longest_of a.conversation.dictionary in
    room-of a.conversation (arrival_reports a xs) reached.conversation
    (omega (
      arith,
      sum-arrived octet_count (λ kind i j k l. refl) more grow o longest xs,
      frames longest (own First xs),
      paid longest (own First xs),
      within (own First xs),
      frames longest (own Second xs),
      paid longest (own Second xs),
      within (own Second xs),
      first,
      second,
    ))
    (omega (arith, arrived-few grow o longest xs, own-count xs, first, second))
