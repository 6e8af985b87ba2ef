-- What bits taken at once settle.
use Rattle.std.proofs.Common.{◌≡◌, ℕ, zero, suc, ◌+◌, ◌-◌, ◌*◌, ◌/◌, ◌%◌, ◌^◌, ◌≤◌, ◌<◌, ◌==◌, Bool, true, false, ◌&&◌}
use Rattle.std.proofs.Common.{cond, List, [], ◌∷◌, ◌++◌, length, take, get_or, Option, Some, None, refl, sym, ap, ◌∙◌}
use Rattle.std.proofs.Common.{subst, arith, if◌then◌else◌, inl, inr, length-append, min}
use Rattle.std.specs.Prelude.{nat_le}
use Rattle.std.proofs.Math.Nat.{mul-add}
use Rattle.std.proofs.lemmas.Nat.{shr-shr}
use Rattle.std.proofs.Math.Seq.{take-suc}
use Rattle.std.proofs.lemmas.List.{length_push, append_assoc, append-nil}
use Rattle.std.proofs.lemmas.Bool.{cases_Bool, cases_lt, false_from_ne_true, eqb-true}
use Rattle.std.proofs.lemmas.Bool.Decides.{nat_tests}
use Rattle.bus_bits.specs.Octet.{bits_of}
use Rattle.bus_fcs.specs.Check.{CheckView}
use Rattle.bus_line.specs.Due.{FlagAt, current, first_of}
use Rattle.bus_line.specs.Ledger.{is_settled, is_inserted, assembled, stored}
use Rattle.bus_line.specs.LineState.{LineState, stored_of}
use Rattle.bus_line.specs.Internal.LineView.{settles_from}
use Rattle.bus_line.specs.Internal.Tracks.{settled_data, HoldsFor, Counts, Tracks}
use Rattle.bus_line.specs.After.{After}
use Rattle.bus_line.specs.Internal.Settled.{AppendsBits, HasNoStop, IsWord, LagsBy, data_in_word, octets_more}
use Rattle.bus_line.proofs.LedgerSettledLemmas.{assembled-more, stored-more}
use Rattle.bus_line.proofs.LedgerRankLemmas.{stores-now, octet-step}
use Rattle.bus_line.proofs.WordLemmas.{length-front, word-inserted, word-bit, word-next}
use Rattle.bus_line.proofs.StepLemmas.{first-Some, none-holds, none-settled, early-settled, inserted-settled}
use Rattle.bus_line.proofs.StepLemmas.{data-settled, nothing-more, data-early, data-inserted, data-more, counts-kept}
use Rattle.bus_line.proofs.StepLemmas.{stands-same, moved-counts, moved-holds, decides-nothing}

-- ---- what bits settle

-- the data, the settled places and the stored octets that come with more bits, where the last flag stays
record Settles (longest p : ℕ) (b c gained : List Bool) : Type 0 where
  pub more : settled_data c p ≡ settled_data b p ++ gained
  pub settled : assembled c ≡ assembled b + length gained
  pub filled : stored longest c + min (length (settled_data b p) / 8) (longest + 2)
      ≡ stored longest b + min (length (settled_data c p) / 8) (longest + 2)

-- no bits settle nothing
settles-none : (longest p : ℕ) (b c : List Bool) → c ≡ b → Settles longest p b c []
settles-none longest p b c same =
    rw same (record { more = sym (append-nil (settled_data b p)); settled = omega arith; filled = refl })

-- and bits after bits
settles-both : (longest p : ℕ) (a b c x y : List Bool) → Settles longest p a b x → Settles longest p b c y →
    Settles longest p a c (x ++ y)
settles-both longest p a b c x y first next = record {
  more = next.more ∙ (ap (λ (z : List Bool). z ++ y) first.more ∙ append_assoc (settled_data a p) x y);
  settled = omega (arith, first.settled, next.settled, length-append x y);
  filled = omega (arith, first.filled, next.filled);
}

-- a bit that settles nothing
settles-nothing : (longest p : ℕ) (b : List Bool) (bit : Bool) → is_settled (b ++ bit ∷ []) (length b - 8) ≡ false →
    settled_data (b ++ bit ∷ []) p ≡ settled_data b p → Settles longest p b (b ++ bit ∷ []) []
settles-nothing longest p b bit unsettled same =
    let counted = nothing-more longest b bit unsettled in
    record {
      more = same ∙ sym (append-nil (settled_data b p));
      settled = omega (arith, counted.0);
      filled = omega (arith, counted.1, ap (λ (z : List Bool). min (length z / 8) (longest + 2)) same);
    }

-- a bit of data
settles-data : (longest p : ℕ) (b : List Bool) (bit : Bool) → current b ≡ FlagAt p → p + 16 ≤ length b →
    is_inserted b (length b - 8) ≡ false → Settles longest p b (b ++ bit ∷ []) (get_or b (length b - 8) false ∷ [])
settles-data longest p b bit mark late plain =
    let settled = data-settled b bit p mark late plain in
    let x = get_or b (length b - 8) false in
    let more = data-more b bit p mark late plain in
    let size : length (settled_data (b ++ bit ∷ []) p) ≡ length (settled_data b p) + 1 =
    ap length more ∙ length_push (settled_data b p) x in
    let filled : stored longest (b ++ bit ∷ []) ≡ stored longest b
    + (if (((length (settled_data b p) + 1) % 8 == 0) && nat_le (length (settled_data b p) + 1) (8 * (longest + 2)))
    then 1 else 0) =
    stored-more longest b bit ∙ ap (λ (y : Bool). stored longest b + (if y then 1 else 0))
    (stores-now longest b bit p mark late ∙ rw settled refl) in
    let octet = octet-step (length (settled_data b p)) (longest + 2) in
    record {
      more = more;
      settled = assembled-more b bit ∙ rw settled refl;
      filled = omega (arith, filled, octet, size);
    }

-- what a word shows of the bit that eight later ones have followed
abbrev late_at : ℕ → ℕ → List Bool
late_at w i = if w / 2 ^ (3 + i) % 64 == 31 then [] else (w / 2 ^ (8 + i) % 2 == 1) ∷ []

-- a test of a bit is that bit
bit-is : (n : ℕ) (y : Bool) → n ≡ cond y 1 0 → (n == 1) ≡ y
bit-is n true is = rw is refl
bit-is n false is = rw is refl

-- one bit more of the new ones
pub next-bit : (i : ℕ) (b bits : List Bool) → i < length bits →
    b ++ take (suc i) bits ≡ (b ++ take i bits) ++ get_or bits i false ∷ []
next-bit i b bits inside =
    ap (λ (z : List Bool). b ++ z) (take-suc bits i false inside)
    ∙ sym (append_assoc b (take i bits) (get_or bits i false ∷ []))

-- a bit that comes late enough
settles-late : (longest p w i : ℕ) (b bits : List Bool) (bit : Bool) → IsWord w b bits → i < length bits →
    current (b ++ take i bits) ≡ FlagAt p → p + 16 ≤ length b + i
    → Settles longest p (b ++ take i bits) ((b ++ take i bits) ++ bit ∷ []) (late_at w i)
settles-late longest p w i b bits bit word inside mark far =
    let u = b ++ take i bits in
    let size : length (b ++ take i bits) ≡ length b + i = length-front i b bits (omega (arith, inside)) in
    let here : is_inserted (b ++ take i bits) (length (b ++ take i bits) - 8)
    ≡ is_inserted (b ++ take i bits) (length b + i - 8) = ap (λ (j : ℕ). is_inserted u (j - 8)) size in
    let inserted-by = word-inserted w i b bits word inside (omega (arith, far)) in
    let late : p + 16 ≤ length (b ++ take i bits) = omega (arith, size, far) in
    elim (cases_Bool (w / 2 ^ (3 + i) % 64 == 31)) [
      | inl shown ↦
          let inserted : is_inserted u (length u - 8) ≡ true =
          here ∙ inserted-by.0 (eqb-true (w / 2 ^ (3 + i) % 64) 31 shown) in
          rw shown
          (settles-nothing longest p u bit (inserted-settled u bit inserted) (data-inserted u bit p mark late inserted))
      | inr shown ↦
          let inserted : is_inserted u (length u - 8) ≡ false =
          false_from_ne_true _ (λ is. absurd (let shows = inserted-by.1 (sym here ∙ is) in grind (arith, nat_tests))) in
          let same-bit : w / 2 ^ (8 + i) % 2 ≡ cond (get_or u (length u - 8) false) 1 0 =
          word-bit w i b bits word inside (omega (arith, far)) ∙ rw size refl in
          rw (shown, bit-is _ _ same-bit) (settles-data longest p u bit mark late inserted)
    ]

-- ---- bits without a stop

-- they leave the last mark
pub mark-no_stop : (b bits : List Bool) (n i : ℕ) → HasNoStop b bits n → i ≤ n → i ≤ length bits →
    current (b ++ take i bits) ≡ current b
mark-no_stop b bits n zero no_stop within inside = ap current (append-nil b)
mark-no_stop b bits n (suc i) no_stop within inside =
    let here = no_stop i (omega (arith, within)) in
    ap current (next-bit i b bits (omega (arith, inside)))
    ∙ ((decides-nothing 3 (b ++ take i bits) (get_or bits i false) here.0 here.1).leaves
    ∙ mark-no_stop b bits n i no_stop (omega (arith, within)) (omega (arith, inside)))

-- where no flag was last they settle nothing, nor does the bit after them
counts-none : {C : Type 0} (cost origin n : ℕ) (d : LineState C) (b bits : List Bool) → HasNoStop b bits n →
    first_of origin (current b) ≡ None → Counts cost d b → (i : ℕ) → i ≤ n + 1 → i ≤ length bits →
    Counts cost d (b ++ take i bits)
counts-none cost origin n d b bits no_stop none counts zero within inside = rw (append-nil b) counts
counts-none cost origin n d b bits no_stop none counts (suc i) within inside =
    rw (next-bit i b bits (omega (arith, inside)))
    (counts-kept cost d (b ++ take i bits) (get_or bits i false)
    (none-settled (b ++ take i bits) (get_or bits i false) origin
    (ap (first_of origin) (mark-no_stop b bits n i no_stop (omega (arith, within)) (omega (arith, inside))) ∙ none))
    (counts-none cost origin n d b bits no_stop none counts i (omega (arith, within)) (omega (arith, inside))))

settled-shifted : (w skip i : ℕ) → skip ≤ i → late_at (w / 2 ^ skip) (i - skip) ≡ late_at w i
settled-shifted w skip i past =
    let five : skip + (3 + (i - skip)) ≡ 3 + i = omega (arith, past) in
    let bit : skip + (8 + (i - skip)) ≡ 8 + i = omega (arith, past) in
    rw (shr-shr w skip (3 + (i - skip)), five, shr-shr w skip (8 + (i - skip)), bit) refl

-- and else those that come late enough settle what the word shows
settles-no_stop : (longest p w n skip : ℕ) (b bits : List Bool) → current b ≡ FlagAt p → HasNoStop b bits n →
    IsWord w b bits → skip ≡ p + 16 - length b → (i : ℕ) → i ≤ n + 1 → i ≤ length bits
    → Settles longest p b (b ++ take i bits) (data_in_word (w / 2 ^ skip) (i - skip))
settles-no_stop longest p w n skip b bits mark no_stop word skipped zero within inside =
    let none : 0 - skip ≡ 0 = omega arith in
    rw none (settles-none longest p b (b ++ []) (append-nil b))
settles-no_stop longest p w n skip b bits mark no_stop word skipped (suc i) within inside =
    let u = b ++ take i bits in
    let x = get_or bits i false in
    let size : length (b ++ take i bits) ≡ length b + i = length-front i b bits (omega (arith, inside)) in
    let flag : current (b ++ take i bits) ≡ FlagAt p =
    mark-no_stop b bits n i no_stop (omega (arith, within)) (omega (arith, inside)) ∙ mark in
    let shown : List Bool = data_in_word (w / 2 ^ skip) (i - skip) in
    let before =
    settles-no_stop longest p w n skip b bits mark no_stop word skipped i (omega (arith, within))
    (omega (arith, inside)) in
    let next = next-bit i b bits (omega (arith, inside)) in
    elim (cases_lt i skip) [
      | inl soon ↦
          let early : length (b ++ take i bits) < p + 16 = omega (arith, size, skipped, soon) in
          let one = settles-nothing longest p u x (early-settled u x p flag early) (data-early u x p early) in
          let same : i - skip ≡ suc i - skip = omega (arith, soon) in
          let gained = append-nil shown ∙ ap (data_in_word (w / 2 ^ skip)) same in
          rw (next, ← gained) (settles-both longest p b u (u ++ x ∷ []) shown [] before one)
      | inr past ↦
          let far : p + 16 ≤ length b + i = omega (arith, skipped, past) in
          let one = settles-late longest p w i b bits x word (omega (arith, inside)) flag far in
          let same : suc (i - skip) ≡ suc i - skip = omega (arith, past) in
          let gained : shown ++ late_at w i ≡ data_in_word (w / 2 ^ skip) (suc i - skip) =
          rw (← settled-shifted w skip i past) (ap (data_in_word (w / 2 ^ skip)) same) in
          rw (next, ← gained) (settles-both longest p b u (u ++ x ∷ []) shown (late_at w i) before one)
    ]

-- ---- what the decoder tracks after them

-- data are appended, or none
tracks-settled : {C : Type 0} {view : CheckView C} {p : ℕ} {d e : LineState C} {b bits gained : List Bool}
    → LagsBy view d b bits → current b ≡ FlagAt p → Settles d.longest p b (b ++ bits) gained
    → AppendsBits view d gained e
    → Tracks view e (b ++ bits) (current b)
tracks-settled {C} {view} {p} {d} {e} {b} {bits} {gained} lags mark settles appends =
    let kept = appends.kept in
    let longest = ap (λ (x : LineState C). x.longest) kept in
    let origin = ap (λ (x : LineState C). x.origin) kept in
    let held = subst (HoldsFor view.folded d b) mark lags.piece in
    let n = octets_more d.longest d.data_bits (length gained) in
    let more : length (settled_data (b ++ bits) p) ≡ length (settled_data b p) + length gained =
    ap length settles.more ∙ length-append (settled_data b p) gained in
    let full : stored d.longest (b ++ bits) ≡ stored d.longest b
    + octets_more d.longest d.data_bits (length gained) = omega (arith, settles.filled, more, held.count) in
    record {
      has_taken = stands-same d e (b ++ bits) (ap (λ (x : LineState C). x.place) kept) origin
          (ap (λ (x : LineState C). x.last_bits) kept) lags.has_taken;
      first = ap (λ (x : LineState C). x.first) kept ∙ (lags.first ∙ ap (λ k. first_of k (current b)) (sym origin));
      piece = subst (HoldsFor view.folded e (b ++ bits)) (sym mark)
          (rw settles.more (appends.holds (settled_data b p) held));
      counts = rw longest (record {
        settled = appends.settled ∙ omega (arith, lags.counts.settled, settles.settled);
        filled = appends.filled ∙ (ap (λ (m : ℕ). m + n) lags.counts.filled ∙ sym full);
        paid = omega (
          arith,
          ap (λ (x : LineState C). x.spent.folded) kept,
          ap (λ (m : ℕ). view.cost * m) appends.waits,
          ap (λ (m : ℕ). view.cost * m) full,
          mul-add view.cost (stored_of d.longest d.data_bits) n,
          mul-add view.cost (stored d.longest b) n,
          lags.counts.paid,
        );
        copied = ap (λ (x : LineState C). x.spent.copied) kept ∙ lags.counts.copied;
        handled = ap (λ (x : LineState C). x.spent.handled) kept ∙ lags.counts.handled;
      });
    }

-- no data
pub appends-none : {C : Type 0} {view : CheckView C} (d : LineState C) → AppendsBits view d [] d
appends-none {C} {view} d = record {
  none = λ early. refl;
  holds = λ bits held. rw (append-nil bits) held;
  settled = omega arith;
  filled = omega arith;
  waits = omega arith;
  kept = refl;
}

-- the first of these bits are among the last sixteen, and not yet settled; only the last of them may decide anything
pub record Shifted {C : Type 0} (view : CheckView C) (d : LineState C) (w t : ℕ) (b bits : List Bool) : Type 0 where
  pub word : IsWord w b bits
  pub within : t ≤ length bits
  pub no_stop : HasNoStop b bits (t - 1)
  pub lags : LagsBy view d b (take t bits)

pub shifted-word : {C : Type 0} {view : CheckView C} (d : LineState C) (b bits : List Bool)
    (w t place last_bits shifted : ℕ) → After view d b → IsWord w b bits → t ≤ length bits → HasNoStop b bits (t - 1)
    → place ≡ d.place + t → last_bits ≡ w / 2 ^ t % 65536
    → Shifted view (record d { place = place; last_bits = last_bits; spent = record d.spent { shifted = shifted } })
    w t b bits
shifted-word {C} {view} d b bits w t place last_bits shifted stands word within no_stop at last = record {
  word = word;
  within = within;
  no_stop = no_stop;
  lags = record {
    has_taken = record {
      place = at ∙ omega (arith, stands.has_taken.place, length-front t b bits within);
      last_bits = last ∙ word-next w t b bits word within;
    };
    first = stands.first;
    piece =
        moved-holds view.folded d b place last_bits (record d.spent { shifted = shifted }) (current b) stands.piece;
    counts = moved-counts refl refl refl stands.counts;
  };
}

-- no flag was last, or all bits come too early after it
pub word-unsettled : {C : Type 0} {view : CheckView C} {w t : ℕ} {d : LineState C} {b bits : List Bool} (at : ℕ)
    (first : Option ℕ) → Shifted view d w t b bits → d.first ≡ first → at ≡ settles_from first → d.place ≤ at
    → Tracks view d (b ++ take t bits) (current b)
word-unsettled {C} {view} {w} {t} {d} {b} {bits} at None s opened settles-at early =
    let none : first_of d.origin (current b) ≡ None = sym s.lags.first ∙ opened in
    record {
      has_taken = s.lags.has_taken;
      first = s.lags.first;
      piece = none-holds view.folded d (b ++ take t bits) d.origin (current b) none;
      counts =
          counts-none view.cost d.origin (t - 1) d b bits s.no_stop none s.lags.counts t (omega arith) s.within;
    }
word-unsettled {C} {view} {w} {t} {d} {b} {bits} at (Some first) s opened settles-at early =
    let flag = first-Some d.origin first (current b) (sym s.lags.first ∙ opened) in
    let skip = flag.0 + 16 - length b in
    let settles = settles-no_stop d.longest flag.0 w (t - 1) skip b bits flag.1 s.no_stop s.word refl t (omega arith)
    s.within in
    let none-late : t - skip ≡ 0 =
    omega (arith, s.lags.has_taken.place, length-front t b bits s.within, flag.2, settles-at, early) in
    tracks-settled s.lags flag.1 (rw none-late at settles) (appends-none d)

-- from there on data are appended
pub word-settled : {C : Type 0} {view : CheckView C} {w t : ℕ} {d e : LineState C} {b bits : List Bool}
    (first late n x : ℕ) → Shifted view d w t b bits
    → d.first ≡ Some first → first + 8 < d.place → late ≡ min (d.place - (first + 8)) t
    → bits_of n x ≡ data_in_word (w / 2 ^ (t - late)) late → AppendsBits view d (bits_of n x) e
    → Tracks view e (b ++ take t bits) (current b)
word-settled {C} {view} {w} {t} {d} {e} {b} {bits} first late n x s opened far is-late value appends =
    let flag = first-Some d.origin first (current b) (sym s.lags.first ∙ opened) in
    let skip = flag.0 + 16 - length b in
    let front = length-front t b bits s.within in
    let place = s.lags.has_taken.place in
    let same-skip : t - late ≡ skip = omega (arith, place, front, flag.2, far, is-late) in
    let same-late : late ≡ t - skip = omega (arith, place, front, flag.2, far, is-late) in
    let same-data : bits_of n x ≡ data_in_word (w / 2 ^ skip) (t - skip) =
    value ∙ (ap (λ (j : ℕ). data_in_word (w / 2 ^ j) late) same-skip ∙ ap (data_in_word (w / 2 ^ skip)) same-late) in
    let settles = settles-no_stop d.longest flag.0 w (t - 1) skip b bits flag.1 s.no_stop s.word refl t (omega arith)
    s.within in
    tracks-settled s.lags flag.1 (rw same-data settles) appends
