-- What one bit more costs.
use Rattle.std.proofs.Common.{◌≡◌, ℕ, ◌+◌, ◌-◌, ◌*◌, ◌≤◌, Bool, true, false, List, [], ◌∷◌, ◌++◌, length, Option, Some}
use Rattle.std.proofs.Common.{None, refl, sym, ap, ◌∙◌, arith, if◌then◌else◌, length-append, slice_range, length-take}
use Rattle.std.proofs.Common.{drop}
use Rattle.std.specs.List.{sum_by}
use Rattle.std.specs.Option.{option_to_list}
use Rattle.std.proofs.lemmas.List.Sums.{sum_by-append}
use Rattle.bus_bits.specs.Octet.{bits_of, bits_of_octets}
use Rattle.bus_line.specs.Report.{Report, Kind, Frame, Damaged, Overlong, Abort, Idle, due_by}
use Rattle.bus_line.specs.Due.{reports, due_at}
use Rattle.bus_line.specs.Ledger.{kind_octets, octet_count, stored, is_stored, is_settled}
use Rattle.bus_line.specs.Spelling.{IsSpelledBy, ends, short, five, ones}
use Rattle.bus_line.specs.Laws.{OneMore, SettlesOne, StoresOne, DueIsIt, FrameIsSpelled}
use Rattle.bus_pairing.specs.Ledger.{kind_steps, steps, total}
use Rattle.bus_line.specs.LineReport.{firsts, seconds}
use Rattle.bus_watch.proofs.MergedLemmas.{firsts-append, seconds-append}
use Rattle.bus_watch.specs.Laws.{BitCosts, PairCosts, ClosedPaid}

one-at-most : (x : Bool) → (if x then 1 else 0) ≤ 1
one-at-most true = omega arith
one-at-most false = omega arith

cost-one : (cost s : ℕ) (x : Bool) → cost ≤ 8 → cost * (s + (if x then 1 else 0)) ≤ cost * s + 8
cost-one cost s true cost_within = omega (arith, cost_within)
cost-one cost s false cost_within = omega (arith, cost_within)

six-at-most : (kind : Kind) → kind_steps kind ≤ 6
six-at-most (Frame octets) = omega arith
six-at-most (Damaged cause) = omega arith
six-at-most Overlong = omega arith
six-at-most Abort = omega arith
six-at-most Idle = omega arith

handled-one : (o : Option Report) → sum_by steps (option_to_list o) ≤ 6
handled-one None = omega arith
handled-one (Some r) = omega (arith, six-at-most r.kind)

pub bit-costs : OneMore → SettlesOne → StoresOne → BitCosts
bit-costs more settles stores cost longest b bit before after cost_within ledger longer =
    let o = due_at longest (b ++ bit ∷ []) (length b) in
    let x = is_stored longest (b ++ bit ∷ []) (length b - 8) in
    let y = is_settled (b ++ bit ∷ []) (length b - 8) in
    let grown = more longest b bit in
    let copies = ap (sum_by octet_count) grown ∙ sum_by-append octet_count (reports longest b) (option_to_list o) in
    let handles = ap (sum_by steps) grown ∙ sum_by-append steps (reports longest b) (option_to_list o) in
    let pays : cost * stored longest (b ++ bit ∷ []) ≤ cost * stored longest b + 8 =
    rw (stores longest b bit) (cost-one cost (stored longest b) x cost_within) in
    omega (
      arith,
      ledger.bits,
      ledger.settled,
      ledger.filled,
      ledger.paid,
      ledger.kept,
      ledger.reported,
      longer.bits,
      longer.settled,
      longer.filled,
      longer.paid,
      longer.kept,
      longer.reported,
      length-append b (bit ∷ []),
      settles b bit,
      stores longest b bit,
      one-at-most x,
      one-at-most y,
      pays,
      copies,
      handles,
      handled-one o,
    )

spelled-longer : (x y : List Bool) → IsSpelledBy x y → length x ≤ length y
spelled-longer _ _ (ends k short_run) = omega arith
spelled-longer _ _ (short k d r few rest) =
    omega (arith, length-append (ones k) (false ∷ d), length-append (ones k) (false ∷ r), spelled-longer d r rest)
spelled-longer _ _ (five d r rest) =
    omega (arith, length-append (ones 5) d, length-append (ones 5) (false ∷ r), spelled-longer d r rest)

eight-each : (os : List ℕ) → length (bits_of_octets os) ≡ 8 * length os
unfolding bits_of_octets bits_of
eight-each [] = refl
eight-each (o ∷ os) = omega (arith, eight-each os)

frame-due : (kind : Kind) (first past : ℕ) (os : List ℕ) → kind ≡ Frame os → due_by kind first past ≡ past + 7
frame-due kind first past os frame = rw frame refl

-- of two lines
pub pair-costs : BitCosts → PairCosts
pair-costs one cost longest ps p before after cost_within ledger longer =
    let first = one cost longest (firsts ps) p.0 ledger.first longer.first cost_within ledger.first_is
    (rw (← firsts-append ps (p ∷ [])) longer.first_is) in
    let second = one cost longest (seconds ps) p.1 ledger.second longer.second cost_within ledger.second_is
    (rw (← seconds-append ps (p ∷ [])) longer.second_is) in
    omega (arith, first, second, ap total ledger.sum, ap total longer.sum)

pub closed-paid : DueIsIt → FrameIsSpelled → ClosedPaid
closed-paid it spelled longest b bit r os due_is frame =
    let all = b ++ bit ∷ [] in
    let is = (it longest all (length b) r).1 due_is in
    let spelling = spelled longest all r os is.0 frame in
    let raw = slice_range all r.first r.past in
    let size : length raw ≤ r.past - r.first = omega (arith, length-take (r.past - r.first) (drop r.first all)) in
    let long : 8 * length os ≤ r.past - r.first =
    omega (arith, spelled-longer (bits_of_octets os) raw spelling.0, eight-each os, size) in (
      omega (arith, ap (λ o. sum_by octet_count (option_to_list o)) due_is, ap kind_octets frame),
      long,
      omega (arith, long, spelling.2),
      sym (frame-due r.kind r.first r.past os frame) ∙ is.1,
    )
