-- Laws over the definitions.
use Rattle.std.specs.Prelude.{◌≡◌, ℕ, ◌+◌, ◌-◌, ◌*◌, ◌≤◌, ◌<◌, ◌⊎◌, All, AllPairs, Bool, List, [], ◌∷◌, ◌++◌, map}
use Rattle.std.specs.Prelude.{filter_map, length, sum_by, Some}
use Rattle.std.specs.List.{flat_map}
use Rattle.std.specs.Option.{option_to_list}
use Rattle.bus_bits.specs.declared.spent.Spent.{Spent}
use Rattle.bus_fcs.specs.Check.{CheckView}
use Rattle.bus_line.specs.Report.{Report, Frame, due}
use Rattle.bus_line.specs.Due.{placed, due_at}
use Rattle.bus_line.specs.Ledger.{octet_count}
use Rattle.bus_dictionary.specs.Entry.{FrameType}
use Rattle.bus_pairing.specs.Talk.{verdicts}
use Rattle.bus_line.specs.LineReport.{LineReport, of_line, firsts, seconds, merged, of_side}
use Rattle.bus_pairing.specs.Seen.{SeenReport, report_in, seen, seen_at, all_seen_at}
use Rattle.bus_pairing.specs.Ledger.{IsAnalyserLedger, IsPairLedger, total}
use Rattle.bus_watch.specs.Watch.{Watch, AdvancesWatch, seen_by}
use Rattle.bus_watch.specs.After.{one_line}
use Rattle.bus_watch.specs.Pairs.{two_lines}
use Rattle.bus_line.specs.declared.line.Line.TheVariants.{First, Second}

-- one bit more adds what is seen at it, if it decides a report
abbrev pub SeenGrows : Type 0
SeenGrows = (d : List FrameType) (longest origin : ℕ) (b : List Bool) (bit : Bool) →
    seen d (of_line (placed origin longest (b ++ bit ∷ []))) ≡ seen d (of_line (placed origin longest b))
    ++ option_to_list (seen_at d (of_line (placed origin longest (b ++ bit ∷ []))) (origin + length b))

-- one pair of bits more adds what is seen at it: at most what the first line decides and then what the second does
abbrev pub PairsGrow : Type 0
PairsGrow = (d : List FrameType) (longest origin : ℕ) (ps : List (Bool × Bool)) (p : Bool × Bool) →
    seen d (merged origin longest (ps ++ p ∷ [])) ≡ seen d (merged origin longest ps)
    ++ all_seen_at d (merged origin longest (ps ++ p ∷ [])) (origin + length ps)

-- of two reports the one that is due first comes first, and where both are due at one place, that of the first line
abbrev pub ComesBefore : LineReport → LineReport → Type 0
ComesBefore h k =
    (due h.report < due k.report) ⊎ ((due h.report ≡ due k.report) × (h.line ≡ Some First) × (k.line ≡ Some Second))

-- these are the reports of two lines and no others, in this order
pub record IsMerged (rs ss : List Report) (hs : List LineReport) : Type 0 where
  pub first : of_side First hs ≡ rs
  pub second : of_side Second hs ≡ ss
  pub no_other : All (λ (h : LineReport). (h.line ≡ Some First) ⊎ (h.line ≡ Some Second)) hs
  pub rising : AllPairs ComesBefore hs

-- as the merged reports are
abbrev pub MergedIsMerged : Type 0
MergedIsMerged =
    (longest origin : ℕ) (ps : List (Bool × Bool))
    → IsMerged (placed origin longest (firsts ps)) (placed origin longest (seconds ps)) (merged origin longest ps)

-- what is seen is the reports, and what follows from each
abbrev pub SeenAreReports : Type 0
SeenAreReports = (d : List FrameType) (hs : List LineReport) → map report_in (seen d hs) ≡ hs

-- what is seen decides just the verdicts of the talk, in their order
abbrev pub SeenDecides : Type 0
SeenDecides =
    (d : List FrameType) (hs : List LineReport) → filter_map (λ (s : SeenReport). s.verdict) (seen d hs) ≡ verdicts d hs

-- the steps of a check that costs 1 to 8 an octet are at most four a bit
abbrev pub StepsWithinFour : Type 0
StepsWithinFour =
    (cost longest : ℕ) (b : List Bool) (spent : Spent) → IsAnalyserLedger cost longest b spent → cost ≤ 8
    → total spent ≤ 4 * length b

-- of a check that costs 1, at most three
abbrev pub StepsWithinThree : Type 0
StepsWithinThree =
    (longest : ℕ) (b : List Bool) (spent : Spent) → IsAnalyserLedger 1 longest b spent
    → (spent.folded ≡ spent.stored) × (total spent ≤ 3 * length b)

-- lists, one after the other
abbrev pub joined : {X : Type 0} → List (List X) → List X
joined xss = flat_map (λ xs. xs) xss

-- calls one after the other: what each took, and what it answered or told its sink
pub data Runs {A X : Type 0} (w : Watch A X) : A → List (List X) → List (List SeenReport) → A → Type 0 where
  ended : (a : A) → Runs w a [] [] a
  called : (a c e : A) (xs : List X) (told : List SeenReport) (pieces : List (List X)) (tolds : List (List SeenReport))
      → AdvancesWatch w a xs told c → Runs w c pieces tolds e → Runs w a (xs ∷ pieces) (told ∷ tolds) e

-- however a list is cut into calls, what they tell, one after the other, is what is seen of the whole list, and the
-- analyser stands after it
abbrev pub IsAnyCut : {A X : Type 0} → Watch A X → Type 0
IsAnyCut {A} {X} w = (start end : A) (pieces : List (List X)) (tolds : List (List SeenReport))
    → w.is_after start [] → Runs w start pieces tolds end
    → w.is_after end (joined pieces) × (joined tolds ≡ seen_by w start (joined pieces))

-- of one line
abbrev pub AnyCut : {C : Type 0} → CheckView C → Type 0
AnyCut view = IsAnyCut (one_line view)

-- of two
abbrev pub AnyCutOfPairs : {C : Type 0} → CheckView C → Type 0
AnyCutOfPairs view = IsAnyCut (two_lines view)

-- the frame octets of what one bit more closes: those of the frame whose closing flag it ends, and none else
abbrev pub closed_octets : ℕ → List Bool → Bool → ℕ
closed_octets longest b bit = sum_by octet_count (option_to_list (due_at longest (b ++ bit ∷ []) (length b)))

-- one bit more costs at most seventeen steps, and one for each octet of the frame that it closes
abbrev pub BitCosts : Type 0
BitCosts = (cost longest : ℕ) (b : List Bool) (bit : Bool) (before after : Spent) → cost ≤ 8
    → IsAnalyserLedger cost longest b before → IsAnalyserLedger cost longest (b ++ bit ∷ []) after
    → total after ≤ total before + 17 + closed_octets longest b bit

-- and for each of these octets eight bits of the frame came before it
abbrev pub ClosedPaid : Type 0
ClosedPaid = (longest : ℕ) (b : List Bool) (bit : Bool) (r : Report) (os : List ℕ)
    → due_at longest (b ++ bit ∷ []) (length b) ≡ Some r → r.kind ≡ Frame os
    → (closed_octets longest b bit ≡ length os)
    × (8 * length os ≤ r.past - r.first) × (r.first ≤ r.past) × (r.past + 7 ≡ length b)

-- of two lines one pair more costs what its bits cost on either line
abbrev pub PairCosts : Type 0
PairCosts = (cost longest : ℕ) (ps : List (Bool × Bool)) (p : Bool × Bool) (before after : Spent) → cost ≤ 8
    → IsPairLedger cost longest ps before → IsPairLedger cost longest (ps ++ p ∷ []) after
    → total after ≤ total before + 34 + closed_octets longest (firsts ps) p.0 + closed_octets longest (seconds ps) p.1
