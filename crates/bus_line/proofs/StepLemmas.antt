-- One bit more of what a decoder tracks.
use Rattle.std.proofs.Common.{◌≡◌, ℕ, ◌+◌, ◌-◌, ◌*◌, ◌^◌, ◌≤◌, ◌<◌, Bool, true, false, not, List, [], ◌∷◌}
use Rattle.std.proofs.Common.{◌++◌, length, drop, get_or, Option, Some, None, refl, sym, ap, ◌∙◌, subst, arith}
use Rattle.std.proofs.Common.{◌≢◌, suc, if◌then◌else◌}
use Rattle.std.specs.List.{slice_range}
use Rattle.std.proofs.Math.Nat.{mul-zero}
use Rattle.std.specs.Prelude.{nat_le, drop}
use Rattle.std.proofs.lemmas.List.{length_push}
use Rattle.std.proofs.lemmas.Bool.{lt-leb, le-leb, and_from, and_left, and_right}
use Rattle.bus_bits.specs.Octet.{number}
use Rattle.bus_line.proofs.WordLemmas.{none_number}
use Rattle.bus_bits.specs.declared.spent.Spent.{Spent}
use Rattle.bus_fcs.specs.Check.{CheckView}
use Rattle.bus_line.specs.Run.{ones_at_end, data_so_far, ones_after}
use Rattle.bus_line.specs.Due.{Mark, NoMark, FlagAt, AbortAt, current, piece_report, first_of}
use Rattle.bus_line.specs.Ledger.{is_settled, belongs, is_inserted, assembled, stored}
use Rattle.bus_line.specs.LineState.{LineState, stored_of}
use Rattle.bus_line.specs.Words.{first_in, fresh_words, state}
use Rattle.bus_line.specs.declared.decoder_words.DecoderWords.{DecoderWords}
use Rattle.bus_line.specs.Internal.AdvancesTo.{closed_piece}
use Rattle.bus_line.specs.Internal.LineView.{settles_from}
use Rattle.bus_line.specs.Internal.Tracks.{settled_data, padded, Holds, HoldsFor, Counts, HasTaken, Tracks}
use Rattle.bus_line.proofs.RunLemmas.{data_after-more}
use Rattle.bus_line.proofs.MarkLemmas.{last_mark-flag}
use Rattle.bus_line.proofs.DueStreamLemmas.{flag-fits, Decides, at-flag, at-abort, at-idle, at-other}
use Rattle.bus_line.proofs.LedgerSettledLemmas.{assembled-more, stored-more}
use Rattle.bus_line.proofs.SpellingRawLemmas.{settles-now, inserted-raw}
use Rattle.bus_line.proofs.DueMoreLemmas.{range-append, range-none, range-step}
use Rattle.bus_line.specs.Report.{Abort, Idle}
use Rattle.bus_line.specs.Internal.EndedMark.{HasEnded}
use Rattle.bus_line.specs.declared.decoder.ended_mark.EndedMark.{EndedMark}
use Rattle.bus_line.specs.declared.decoder.ended_mark.EndedMark.TheVariants.{FlagMark, AbortMark, IdleMark, Other}

-- the flag of a place after it
pub first-Some : (origin first : ℕ) (mark : Mark) → first_of origin mark ≡ Some first →
    (p : ℕ) × (mark ≡ FlagAt p) × (origin + (p + 8) ≡ first)
first-Some origin first NoMark is = absurd (cc)
first-Some origin first (AbortAt a) is = absurd (cc)
first-Some origin first (FlagAt p) is = (p, refl, cc)

-- where no flag was last, nothing belongs
none-belongs : (origin i : ℕ) (mark : Mark) → first_of origin mark ≡ None → belongs mark i ≡ false
none-belongs origin i NoMark none = refl
none-belongs origin i (AbortAt a) none = refl
none-belongs origin i (FlagAt p) none = absurd (cc)

pub none-holds : {C : Type 0} (folded : C → List ℕ → Type 0) (d : LineState C) (b : List Bool) (origin : ℕ)
    (mark : Mark) → first_of origin mark ≡ None → HoldsFor folded d b mark
none-holds folded d b origin NoMark none = tt
none-holds folded d b origin (AbortAt a) none = tt
none-holds folded d b origin (FlagAt p) none = absurd (cc)

-- a bit whose place belongs to no flag settles nothing
pub none-settled : (b : List Bool) (bit : Bool) (origin : ℕ) → first_of origin (current b) ≡ None →
    is_settled (b ++ bit ∷ []) (length b - 8) ≡ false
none-settled b bit origin none = settles-now b bit
    ∙ and_right (nat_le 8 (length b)) _ (and_left _ _ (none-belongs origin (length b - 8) (current b) none))

-- a bit that comes too early after its flag does not either
pub early-settled : (b : List Bool) (bit : Bool) (p : ℕ) → current b ≡ FlagAt p → length b < p + 16 →
    is_settled (b ++ bit ∷ []) (length b - 8) ≡ false
early-settled b bit p mark soon =
    let within = flag-fits b p (last_mark-flag b (length b) p mark).flag in
    let early : nat_le (p + 8) (length b - 8) ≡ false = lt-leb (p + 8) (length b - 8) (omega (arith, within)) in
    settles-now b bit
    ∙ and_right (nat_le 8 (length b)) _ (and_left _ _ (ap (λ m. belongs m (length b - 8)) mark ∙ early))

pub inserted-settled : (b : List Bool) (bit : Bool) → is_inserted b (length b - 8) ≡ true →
    is_settled (b ++ bit ∷ []) (length b - 8) ≡ false
inserted-settled b bit inserted = settles-now b bit
    ∙ and_right (nat_le 8 (length b)) _ (and_right (belongs (current b) (length b - 8)) _ (ap not inserted))

pub data-settled : (b : List Bool) (bit : Bool) (p : ℕ) → current b ≡ FlagAt p → p + 16 ≤ length b →
    is_inserted b (length b - 8) ≡ false → is_settled (b ++ bit ∷ []) (length b - 8) ≡ true
data-settled b bit p mark late plain =
    settles-now b bit
    ∙ and_from _ _ (le-leb 8 (length b) (omega arith))
    (and_from _ _ (ap (λ m. belongs m (length b - 8)) mark ∙ le-leb (p + 8) (length b - 8) (omega arith))
    (rw plain refl))

-- what the ledger counts, where nothing settles
pub nothing-more : (longest : ℕ) (b : List Bool) (bit : Bool) → is_settled (b ++ bit ∷ []) (length b - 8) ≡ false →
    (assembled (b ++ bit ∷ []) ≡ assembled b) × (stored longest (b ++ bit ∷ []) ≡ stored longest b)
nothing-more longest b bit unsettled = (
  assembled-more b bit ∙ rw unsettled (omega arith),
  stored-more longest b bit ∙ rw unsettled (omega arith),
)

pub counts-kept : {C : Type 0} (cost : ℕ) (d : LineState C) (b : List Bool) (bit : Bool) →
    is_settled (b ++ bit ∷ []) (length b - 8) ≡ false → Counts cost d b → Counts cost d (b ++ bit ∷ [])
counts-kept cost d b bit unsettled counts =
    let same = nothing-more d.longest b bit unsettled in
    record {
      settled = counts.settled ∙ sym same.0;
      filled = counts.filled ∙ sym same.1;
      paid = counts.paid ∙ ap (λ n. cost * n) (sym same.1);
      copied = counts.copied;
      handled = counts.handled;
    }

-- the raw bits after the flag, one more
raw-more : (b : List Bool) (bit : Bool) (p : ℕ) → p + 16 ≤ length b →
    slice_range (b ++ bit ∷ []) (p + 8) (length (b ++ bit ∷ []) - 8)
    ≡ slice_range b (p + 8) (length b - 8) ++ get_or b (length b - 8) false ∷ []
raw-more b bit p late =
    let next : length (b ++ bit ∷ []) - 8 ≡ suc (length b - 8) = omega (arith, length_push b bit) in
    rw next (range-append b (bit ∷ []) (p + 8) (suc (length b - 8)) (omega arith)
    ∙ range-step b (p + 8) (length b - 8) (omega arith) (omega arith))

pub data-start : (b : List Bool) (p : ℕ) → length b ≤ p + 16 → settled_data b p ≡ []
data-start b p early = ap data_so_far (range-none b (p + 8) (length b - 8) (omega arith))

pub data-early : (b : List Bool) (bit : Bool) (p : ℕ) → length b < p + 16 →
    settled_data (b ++ bit ∷ []) p ≡ settled_data b p
data-early b bit p early =
    data-start (b ++ bit ∷ []) p (omega (arith, length_push b bit)) ∙ sym (data-start b p (omega arith))

-- the bit that is eight before the newest is data, unless it is an inserted 0
data-step : (b : List Bool) (bit : Bool) (p : ℕ) → current b ≡ FlagAt p → p + 16 ≤ length b →
    settled_data (b ++ bit ∷ []) p ≡ (if is_inserted b (length b - 8) then settled_data b p else
    settled_data b p ++ get_or b (length b - 8) false ∷ [])
data-step b bit p mark late =
    let i = length b - 8 in
    ap data_so_far (raw-more b bit p late) ∙ (data_after-more 0 (slice_range b (p + 8) i) (get_or b i false)
    ∙ rw (inserted-raw b p i mark (omega arith) (omega arith)) refl)

pub data-inserted : (b : List Bool) (bit : Bool) (p : ℕ) → current b ≡ FlagAt p → p + 16 ≤ length b →
    is_inserted b (length b - 8) ≡ true → settled_data (b ++ bit ∷ []) p ≡ settled_data b p
data-inserted b bit p mark late inserted = data-step b bit p mark late ∙ rw inserted refl

pub data-more : (b : List Bool) (bit : Bool) (p : ℕ) → current b ≡ FlagAt p → p + 16 ≤ length b →
    is_inserted b (length b - 8) ≡ false
    → settled_data (b ++ bit ∷ []) p ≡ settled_data b p ++ get_or b (length b - 8) false ∷ []
data-more b bit p mark late plain = data-step b bit p mark late ∙ rw plain refl

-- from there on a piece is open
pub settles-open : (at place : ℕ) (first : Option ℕ) → at ≡ settles_from first → place ≤ 2 ^ 60 → at < place →
    (f : ℕ) × (first ≡ Some f) × (f + 8 < place)
settles-open at place None settles fits past = absurd (omega (arith, settles, fits, past))
settles-open at place (Some f) settles fits past = (f, refl, omega (arith, settles, past))

pub moved-holds : {C : Type 0} (folded : C → List ℕ → Type 0) (d : LineState C) (b : List Bool) (place last_bits : ℕ)
    (spent : Spent) (mark : Mark) → HoldsFor folded d b mark →
    HoldsFor folded (record d { place = place; last_bits = last_bits; spent = spent }) b mark
moved-holds folded d b place last_bits spent NoMark held = held
moved-holds folded d b place last_bits spent (AbortAt a) held = held
moved-holds folded d b place last_bits spent (FlagAt p) held =
    record { count = held.count; partial = held.partial; held = held.held; checked = held.checked }

-- what no counter but `shifted` changed
pub moved-counts : {C : Type 0} {cost : ℕ} {d e : LineState C} {b : List Bool} → e.longest ≡ d.longest →
    e.data_bits ≡ d.data_bits → e.spent ≡ record d.spent { shifted = e.spent.shifted } → Counts cost d b →
    Counts cost e b
moved-counts {C} {cost} {d} {e} {b} longest same spent c = record {
  settled = ap (λ (s : Spent). s.assembled) spent ∙ c.settled;
  filled = ap (λ (s : Spent). s.stored) spent ∙ rw longest c.filled;
  paid = rw (longest, same, ap (λ (s : Spent). s.folded) spent) c.paid;
  copied = ap (λ (s : Spent). s.copied) spent ∙ c.copied;
  handled = ap (λ (s : Spent). s.handled) spent ∙ c.handled;
}

none_last_bits : number (drop (length {A = Bool} []) (padded [])) ≡ 0
unfolding number
none_last_bits = refl

-- before the first bit
pub fresh-tracks : {C : Type 0} (view : CheckView C) (longest origin : ℕ) (check : C) (octets : List ℕ) →
    Tracks view (state (fresh_words longest origin) check octets) [] NoMark
unfolding stored_of
fresh-tracks view longest origin check octets =
    let none : stored_of longest 0 ≡ 0 = omega arith in
    record {
      has_taken = record { place = omega arith; last_bits = sym none_last_bits };
      first = refl;
      piece = tt;
      counts = record {
        settled = refl;
        filled = rw none refl;
        paid = rw none (omega (arith, mul-zero view.cost));
        copied = refl;
        handled = refl;
      };
    }

pub stands-same : {C : Type 0} (d e : LineState C) (b : List Bool) → e.place ≡ d.place → e.origin ≡ d.origin →
    e.last_bits ≡ d.last_bits → HasTaken d b → HasTaken e b
stands-same d e b place origin last taken =
    record { place = place ∙ (taken.place ∙ rw origin refl); last_bits = last ∙ taken.last_bits }

-- ---- what the bit after six ones or fourteen decides

-- a bit after another run decides nothing, and leaves the last mark
pub decides-nothing : (longest : ℕ) (b : List Bool) (bit : Bool) → ones_at_end b ≢ 6 → ones_at_end b ≢ 14 →
    Decides longest b bit None (current b)
decides-nothing longest b bit six fourteen = at-other longest b bit (λ e k l. six k) (λ e. (six, fourteen))

-- what the bit decides, by what was found
pub closing : (longest : ℕ) (b : List Bool) (bit : Bool) → HasEnded bit (ones_at_end b) (length b) FlagMark
    → Decides longest b bit (closed_piece longest b bit) (FlagAt (length b - 7))
closing longest b true found = absurd (cc (found.0))
closing longest b false found = at-flag longest b found.1 found.2

pub seven : (longest : ℕ) (b : List Bool) (bit : Bool) → HasEnded bit (ones_at_end b) (length b) AbortMark
    → Decides longest b bit (piece_report (λ p. Abort) (current b) (length b - 6)) (AbortAt (length b - 6))
seven longest b false found = absurd (cc (found.0))
seven longest b true found = at-abort longest b found.1

pub fifteen : (longest : ℕ) (b : List Bool) (bit : Bool) → HasEnded bit (ones_at_end b) (length b) IdleMark
    → Decides longest b bit (Some (record { kind = Idle; first = length b - 14; past = length b + 1 })) (current b)
fifteen longest b false found = absurd (cc (found.0))
fifteen longest b true found = at-idle longest b found.1

pub other : (longest : ℕ) (b : List Bool) (bit : Bool) → HasEnded bit (ones_at_end b) (length b) Other →
    Decides longest b bit None (current b)
other longest b bit found = at-other longest b bit found.0 found.1

-- nothing is held of no data
pub holds-none : {C : Type 0} {folded : C → List ℕ → Type 0} {d : LineState C} → d.data_bits ≡ 0 → d.partial ≡ 0 →
    Holds folded d []
holds-none count partial = record {
  count = count;
  partial = partial ∙ sym none_number;
  held = λ full. absurd (omega (arith, full));
  checked = λ full. absurd (omega (arith, full));
}

-- a flag has come: nothing of its piece is there yet, and the piece before it is counted
pub tracks-flag : {C : Type 0} {view : CheckView C} (w v : DecoderWords) (check e : C) (octets os : List ℕ)
    {c : List Bool} {mark : Mark} {p : ℕ} → Tracks view (state w check octets) c mark → p + 8 ≡ length c
    → v ≡ record w {
      settles_at = v.settles_at;
      folded = w.folded + view.cost * stored_of w.longest w.data_bits;
      stored = w.stored + stored_of w.longest w.data_bits;
      assembled = w.assembled + w.data_bits;
      data_bits = 0;
      partial = 0;
    } → first_in v.settles_at ≡ Some w.place → Tracks view (state v e os) c (FlagAt p)
unfolding stored_of
tracks-flag {C} {view} w v check e octets os {c} {mark} {p} tracks end is begins =
    let empty : settled_data c p ≡ [] = data-start c p (omega (arith, end)) in
    let none : stored_of w.longest 0 ≡ 0 = omega arith in
    let counts = tracks.counts in
    rw is (record {
      has_taken = record { place = tracks.has_taken.place; last_bits = tracks.has_taken.last_bits };
      first = begins ∙ ap Some (tracks.has_taken.place ∙ ap (λ n. w.origin + n) (sym end));
      piece = rw empty (holds-none refl refl);
      counts = record {
        settled = omega (arith, counts.settled);
        filled = rw none (omega (arith, counts.filled));
        paid = rw none (omega (arith, mul-zero view.cost, counts.paid));
        copied = refl;
        handled = refl;
      };
    })

-- an abort has come: no piece is open
pub tracks-abort : {C : Type 0} {view : CheckView C} {d : LineState C} {c : List Bool} {mark : Mark} (a : ℕ)
    → Tracks view d c mark → Tracks view (record d { first = None }) c (AbortAt a)
tracks-abort a tracks = record {
  has_taken = record { place = tracks.has_taken.place; last_bits = tracks.has_taken.last_bits };
  first = refl;
  piece = tt;
  counts = moved-counts refl refl refl tracks.counts;
}

-- no run is longer than the list
run-within : (k : ℕ) (b : List Bool) → ones_after k b ≤ k + length b
run-within k [] = omega arith
run-within k (true ∷ b) = omega (arith, run-within (suc k) b)
run-within k (false ∷ b) = omega (arith, run-within 0 b)

pub ones_within : (b : List Bool) → ones_at_end b ≤ length b
ones_within b = omega (arith, run-within 0 b)

-- what was found in the last sixteen bits, by all of them
pub found-here : {C : Type 0} {d : LineState C} (b : List Bool) (bit : Bool) → HasTaken d (b ++ bit ∷ []) →
    (f : EndedMark)
    → ((b : List Bool) (bit : Bool) → d.last_bits ≡ number (drop (length (b ++ bit ∷ [])) (padded (b ++ bit ∷ []))) →
    d.place - 1 - d.origin ≡ length b → HasEnded bit (ones_at_end b) (d.place - 1 - d.origin) f)
    → HasEnded bit (ones_at_end b) (length b) f
found-here {C} {d} b bit taken f found =
    let count : d.place - 1 - d.origin ≡ length b = omega (arith, taken.place, length_push b bit) in
    subst (λ k. HasEnded bit (ones_at_end b) k f) count (found b bit taken.last_bits count)
