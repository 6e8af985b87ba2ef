-- The steps for each bit.
use Rattle.std.proofs.Common.{◌≡◌, ℕ, zero, suc, ◌+◌, ◌*◌, ◌<◌, ◌≤◌, Bool, List, [], ◌∷◌, length, refl, arith, get_or}
use Rattle.std.specs.List.{sum_by, Contains, AllPairs, All}
use Rattle.std.proofs.lemmas.List.Sums.{sum_by-append}
use Rattle.std.proofs.lemmas.List.Elements.{Contains-get_or}
use Rattle.bus_bits.specs.declared.spent.Spent.{Spent}
use Rattle.bus_line.specs.Report.{Report, Kind, Frame, Damaged, Overlong, Abort, Idle, IsReport, due}
use Rattle.bus_line.specs.Due.{reports}
use Rattle.bus_line.specs.Ledger.{stored}
use Rattle.bus_line.specs.Laws.{ReportsAre, DueWithin, FramesStored, StoredPaid, AssembledWithin}
use Rattle.bus_line.specs.OwnedBits.{owned_from, OwnsEight, FrameOwns, OwnApart}
use Rattle.bus_pairing.specs.Ledger.{kind_steps, steps, handled, total, IsAnalyserLedger}

-- eight times the steps of a report are at most three times its own bits
abbrev Pays : ℕ → Report → Type 0
Pays n r = (3 * owned_from r + 8 * steps r ≤ 3 * (due r + 1)) × (due r < n)

pays-kind : (longest : ℕ) (b : List Bool) (r : Report) (kind : Kind) → OwnsEight → FrameOwns → IsReport longest b r →
    r.kind ≡ kind → 3 * owned_from r + 8 * kind_steps kind ≤ 3 * (due r + 1)
pays-kind longest b r (Frame octets) eight forty is kind_is = omega (arith, forty longest b r octets is kind_is)
pays-kind longest b r (Damaged cause) eight forty is kind_is = omega (arith, eight longest b r is)
pays-kind longest b r Overlong eight forty is kind_is = omega (arith, eight longest b r is)
pays-kind longest b r Abort eight forty is kind_is = omega (arith, eight longest b r is)
pays-kind longest b r Idle eight forty is kind_is = omega (arith, eight longest b r is)

-- along reports that own their bits apart
chain : (n lo : ℕ) (rs : List Report) → All (Pays n) rs → AllPairs (λ r s. due r < owned_from s) rs →
    All (λ r. lo ≤ owned_from r) rs → lo ≤ n → 3 * lo + 8 * sum_by steps rs ≤ 3 * n
chain n lo [] pays apart above within = omega (arith, within)
chain n lo (r ∷ rs) pays apart above within =
    let paid = pays 0 r (omega arith) in
    let rest = chain n (due r + 1) rs (λ i d inside. pays (suc i) d (omega (arith, inside)))
    (λ i j d before inside. apart (suc i) (suc j) d (omega (arith, before)) (omega (arith, inside)))
    (λ i d inside. let after = apart 0 (suc i) d (omega arith) (omega (arith, inside)) in omega (arith, after))
    (omega (arith, paid.1)) in
    omega (arith, paid.0, rest, above 0 r (omega arith), sum_by-append steps (r ∷ []) rs)

-- reports are due at places of the list
abbrev pub DueBelow : Type 0
DueBelow = (longest : ℕ) (b : List Bool) (r : Report) → Contains (reports longest b) r → due r < length b

pub due-below : ReportsAre → DueWithin → DueBelow
due-below are within longest b r has = within longest b r (((are longest b).all r).1 has)

pub handled-paid : (longest : ℕ) (b : List Bool) → ReportsAre → DueBelow → OwnsEight → FrameOwns → OwnApart →
    8 * handled (reports longest b) ≤ 3 * length b
handled-paid longest b are below eight forty apart =
    let rs = reports longest b in
    let all = are longest b in
    let is : (i : ℕ) (d : Report) → i < length rs → IsReport longest b (get_or rs i d) =
    λ i d inside. (all.all (get_or rs i d)).1 (Contains-get_or rs i d inside) in
    let pays : All (Pays (length b)) rs =
    λ i d inside. (
      pays-kind longest b (get_or rs i d) _ eight forty (is i d inside) refl,
      below longest b (get_or rs i d) (Contains-get_or rs i d inside),
    ) in
    let own : AllPairs (λ r s. due r < owned_from s) rs =
    λ i j d before inside. apart longest b (get_or rs i d) (get_or rs j d) (is i d (omega (arith, before, inside)))
    (is j d inside) (all.rising i j d before inside) in
    omega (arith, chain (length b) 0 rs pays own (λ i d _. omega arith) (omega arith))

-- what a check costs is at most eight an octet
pub cost-within : (cost s : ℕ) → cost ≤ 8 → cost * s ≤ 8 * s
cost-within cost zero within = omega arith
cost-within cost (suc s) within = omega (arith, cost-within cost s within, within)

pub within-four : (cost longest : ℕ) (b : List Bool) (spent : Spent) → 8 * handled (reports longest b) ≤ 3 * length b →
    FramesStored → StoredPaid → AssembledWithin → IsAnalyserLedger cost longest b spent → cost ≤ 8
    → total spent ≤ 4 * length b
within-four cost longest b spent paces frames paid within ledger cost_within_eight =
    omega (
      arith,
      paces,
      frames longest b,
      paid longest b,
      within b,
      ledger.bits,
      ledger.settled,
      ledger.filled,
      ledger.paid,
      ledger.kept,
      ledger.reported,
      cost-within cost (stored longest b) cost_within_eight,
    )

pub within-three : (longest : ℕ) (b : List Bool) (spent : Spent) → 8 * handled (reports longest b) ≤ 3 * length b →
    FramesStored → StoredPaid → AssembledWithin → IsAnalyserLedger 1 longest b spent →
    (spent.folded ≡ spent.stored) × (total spent ≤ 3 * length b)
within-three longest b spent paces frames paid within ledger = (
  omega (arith, ledger.filled, ledger.paid),
  omega (
    arith,
    paces,
    frames longest b,
    paid longest b,
    within b,
    ledger.bits,
    ledger.settled,
    ledger.filled,
    ledger.paid,
    ledger.kept,
    ledger.reported,
  ),
)
