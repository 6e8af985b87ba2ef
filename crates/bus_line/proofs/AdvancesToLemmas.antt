-- Bits of a piece, and the one after six ones.
use Rattle.std.proofs.Common.{◌≡◌, ◌≢◌, ℕ, ◌+◌, ◌-◌, ◌*◌, ◌/◌, ◌%◌, ◌^◌, ◌≤◌, ◌<◌, ◌++◌, List, [], ◌∷◌, Bool, arith}
use Rattle.std.proofs.Common.{false, true, not, Option, None, ap, refl, sym, subst, ◌∙◌, length, length-append, take}
use Rattle.std.proofs.Common.{get_or, suc}
use Rattle.std.specs.Prelude.{bit_or}
use Rattle.std.specs.Option.{option_map, option_to_list}
use Rattle.std.proofs.lemmas.Bool.{not-false}
use Rattle.std.proofs.lemmas.List.{append-nil, append_assoc, take_all, take_at, length_push}
use Rattle.bus_bits.specs.Bits.{bits_from}
use Rattle.bus_bits.specs.Octet.{bits_of}
use Rattle.bus_bits.proofs.OctetLemmas.{bits-front, length-bits}
use Rattle.bus_fcs.specs.Check.{CheckView}
use Rattle.bus_line.specs.Report.{Report}
use Rattle.bus_line.specs.Shown.{reported}
use Rattle.bus_line.specs.declared.event.Event.{Event}
use Rattle.bus_line.specs.Due.{current, placed}
use Rattle.bus_line.specs.After.{AdvancesWith, After, DecideNothing, Decides, due_of}
use Rattle.bus_line.specs.LineState.{LineState}
use Rattle.bus_line.specs.Internal.AdvancesTo.{ConsumesBits, DecidesLast, AdvancesTo, AdvancesToStop}
use Rattle.bus_line.specs.Internal.Settled.{HasNoStop, IsStop, IsWord}
use Rattle.bus_line.specs.Internal.Tracks.{HasTaken, Tracks}
use Rattle.bus_line.proofs.DueMoreLemmas.{placed-more}
use Rattle.bus_line.proofs.AdvanceLemmas.{no_stop-after, no_stop-before, no_stop-placed, tracks-last, word-joined}
use Rattle.bus_line.proofs.TimeFillLemmas.{last-bits-small, no-stop, word-behind, word-is, word_of}
use Rattle.bus_line.proofs.DecidesLemmas.{decide-more, decides-on, joins, last-bit}

-- ---- bits without a stop

-- of the lowest bits of a number, however many more there are
pub no_stop-front : (b : List Bool) (x n m k : ℕ) → HasNoStop b (bits_of n x) k → k ≤ n → k ≤ m → HasNoStop b
    (bits_of m x) k
no_stop-front b x n m k no_stop low lows = λ i below.
    let same : take i (bits_of m x) ≡ take i (bits_of n x) =
    bits-front i m x (omega (arith, below, lows)) ∙ sym (bits-front i n x (omega (arith, below, low))) in
    rw (same) (no_stop i below)

-- of 56 bits, before the first after six ones
pub no_stop-turn : {C : Type 0} (d : LineState C) (x m n : ℕ) (b : List Bool) → HasTaken d b →
    ((i : ℕ) → i < m → bit_or (d.last_bits / 256) (x * 256 % 18446744073709551616) / 2 ^ (2 + i) % 64 ≢ 63) →
    m ≤ 56 → m ≤ n → HasNoStop b (bits_of n x) m
no_stop-turn d x m n b taken none low lows =
    let w : ℕ = word_of d.last_bits x in
    let behind = word-behind d.last_bits x (last-bits-small d b taken) in
    let word = word-is d.last_bits x b taken.last_bits in
    let within : m ≤ length (bits_of 56 x) = omega (arith, low, length-bits 56 x) in
    no_stop-front b x 56 n m (no_stop-before w m b (bits_of 56 x) word within (no-stop w _ m behind none)) low lows

module _ {C : Type 0} {view : CheckView C} {old new : LineState C} {bits : List Bool}
    (consumed : ConsumesBits view old bits new) where
  -- which all are settled
  pub ran-all : ((b : List Bool) → After view old b → HasNoStop b bits (length bits)) → Decides view old bits None new
  ran-all no_stop =
      let all : take (length bits) bits ≡ bits = take_all (length bits) bits (omega arith) in
      record {
        leads = record {
          after = λ b stands.
              let front : HasNoStop b bits (length bits - 1) = λ i before. no_stop b stands i (omega (arith, before)) in
              let settled = subst (λ (z : List Bool). Tracks view new (b ++ z) (current b)) (sym all)
              (consumed.tracks b stands front) in
              subst (λ (z : List Bool). After view new (b ++ z)) all
              (no_stop-after view (length bits) new b bits (no_stop b stands) (omega arith) settled);
          longest = consumed.longest;
          origin = consumed.origin;
          place = consumed.place;
        };
        says = λ b stands.
            ap (λ (z : List Bool). placed old.origin old.longest (b ++ z)) (sym all)
            ∙ (no_stop-placed old.origin old.longest (length bits) b bits (no_stop b stands) (length bits) (omega arith)
            (omega arith) ∙ sym (append-nil (placed old.origin old.longest b)));
      }

  -- and one after them
  pub ran-last : 1 ≤ length bits → ((b : List Bool) → After view old b → HasNoStop b bits (length bits - 1)) →
      AdvancesTo view old bits new
  ran-last some no_stop =
      let n : ℕ = length bits - 1 in
      let all : take (suc n) bits ≡ bits = take_all (suc n) bits (omega (arith, some)) in
      record {
        front = take n bits;
        last = get_or bits n false;
        all = last-bit bits some;
        longest = consumed.longest;
        origin = consumed.origin;
        place = consumed.place;
        tracks = λ b stands.
            let settled = consumed.tracks b stands (no_stop b stands) in
            tracks-last view n new b bits (no_stop b stands) (omega (arith, some))
            (subst (λ (z : List Bool). Tracks view new (b ++ z) (current b)) (sym all) settled);
        before = λ b stands.
            no_stop-placed old.origin old.longest n b bits (no_stop b stands) n (omega arith) (omega arith);
      }

  -- which all are settled, unless the last may decide a report
  pub ran-to : (is_stop : Bool) → 1 ≤ length bits →
      (is_stop ≡ false → (b : List Bool) → After view old b → HasNoStop b bits (length bits)) →
      ((b : List Bool) → After view old b → HasNoStop b bits (length bits - 1))
      → AdvancesToStop view old bits is_stop new
  ran-to true some all no_stop = ran-last some no_stop
  ran-to false some all no_stop = ran-all (all refl)

-- a stride takes bits up to the first after six ones, or 56 without a stop
pub strode : {C : Type 0} {view : CheckView C} {old new : LineState C} (x n : ℕ) (is_stop : Bool) → 1 ≤ n → n ≤ 56 →
    ((i : ℕ) → i + 1 < n → bit_or (old.last_bits / 256) (x * 256 % 18446744073709551616) / 2 ^ (2 + i) % 64 ≢ 63) →
    (is_stop ≡ false → (n ≡ 56) × ((i : ℕ) → i < 56 →
    bit_or (old.last_bits / 256) (x * 256 % 18446744073709551616) / 2 ^ (2 + i) % 64 ≢ 63)) →
    ConsumesBits view old (bits_of n x) new → AdvancesToStop view old (bits_of n x) is_stop new
strode {C} {view} {old} x n is_stop some few before none consumed =
    let long = length-bits n x in
    ran-to consumed is_stop (omega (arith, long, some))
    (λ going b stands.
    let quiet = none going in
    subst (HasNoStop b (bits_of n x)) (sym long)
    (no_stop-turn old x n n b stands.has_taken (λ i earlier. quiet.1 i (omega (arith, earlier, quiet.0))) few
    (omega arith)))
    (λ b stands.
    subst (λ (k : ℕ). HasNoStop b (bits_of n x) (k - 1)) (sym long)
    (no_stop-turn old x (n - 1) n b stands.has_taken (λ i earlier. before i (omega (arith, earlier)))
    (omega (arith, few)) (omega arith)))

-- a word's bits up to the first after six ones or fourteen, or all without a stop
pub worded : {C : Type 0} {view : CheckView C} {old new : LineState C} (x m n : ℕ) (is_stop : Bool) → 1 ≤ n → n ≤ m →
    m ≤ 48 → x < 2 ^ m →
    ((i : ℕ) → i + 1 < n → IsStop (bit_or old.last_bits (x * 65536 % 18446744073709551616)) i → ⊥) →
    (is_stop ≡ false → (n ≡ m) × ((i : ℕ) → i < m →
    IsStop (bit_or old.last_bits (x * 65536 % 18446744073709551616)) i → ⊥)) →
    ConsumesBits view old (bits_of n x) new → AdvancesToStop view old (bits_of n x) is_stop new
worded {C} {view} {old} x m n is_stop some within few small before none consumed =
    let long = length-bits n x in
    let all = length-bits m x in
    let word : (b : List Bool) → After view old b → IsWord _ b (bits_of m x) = λ b stands.
    word-joined old m x b stands.has_taken few small in
    ran-to consumed is_stop (omega (arith, long, some))
    (λ going b stands.
    let quiet = none going in
    subst (HasNoStop b (bits_of n x)) (sym long)
    (no_stop-front b x m n n (no_stop-before _ n b (bits_of m x) (word b stands) (omega (arith, all, within))
    (λ i earlier. quiet.1 i (omega (arith, earlier, quiet.0)))) within (omega arith)))
    (λ b stands.
    subst (λ (k : ℕ). HasNoStop b (bits_of n x) (k - 1)) (sym long)
    (no_stop-front b x m n (n - 1) (no_stop-before _ (n - 1) b (bits_of m x) (word b stands)
    (omega (arith, all, within)) (λ i earlier. before i (omega (arith, earlier)))) (omega (arith, within))
    (omega arith)))

-- ---- what the last of them decides

pub decided : {C : Type 0} {view : CheckView C} {old mid new : LineState C} {bits : List Bool}
    {event : Option Event} → AdvancesTo view old bits mid → DecidesLast view mid event new
    → AdvancesWith view old bits event new
decided {C} {view} {old} {mid} {new} {bits} {event} reached decision =
    let front = reached.front in
    let last = reached.last in
    let report = option_map (reported new.octets) event in
    let joined : (b : List Bool) → (b ++ front) ++ last ∷ [] ≡ b ++ bits =
    λ b. append_assoc b front (last ∷ []) ∙ ap (λ (z : List Bool). b ++ z) (sym reached.all) in
    let fewer : take (length bits - 1) bits ≡ front = ap (take (length bits - 1)) reached.all
    ∙ take_at front (last ∷ []) (length bits - 1) (omega (arith, ap length reached.all, length_push front last)) in
    record {
      decides = record {
        leads = record {
          after = λ b stands. rw (← joined b) (decision.after (b ++ front) last (reached.tracks b stands));
          longest = decision.longest ∙ reached.longest;
          origin = decision.origin ∙ reached.origin;
          place = decision.place ∙ reached.place;
        };
        says = λ b stands.
            let due = decision.answer (b ++ front) last (reached.tracks b stands) in
            let here : report ≡ due_of old ((b ++ front) ++ last ∷ []) (length (b ++ front)) =
            rw (← reached.longest, ← reached.origin) due in
            ap (placed old.origin old.longest) (sym (joined b))
            ∙ (placed-more old.origin old.longest (b ++ front) last report here
            ∙ ap (λ (z : List Report). z ++ option_to_list report) (reached.before b stands));
      };
      before = subst (DecideNothing view old) (sym fewer) reached.before;
    }

-- ---- after bits that decide nothing

runs-more : {C : Type 0} {view : CheckView C} {a c e : LineState C} {xs ys : List Bool}
    → Decides view a xs None c → AdvancesTo view c ys e → AdvancesTo view a (xs ++ ys) e
runs-more {C} {view} {a} {c} {e} {xs} {ys} quiet reached =
    let more : xs ++ ys ≡ (xs ++ reached.front) ++ reached.last ∷ [] =
    ap (λ (z : List Bool). xs ++ z) reached.all ∙ sym (append_assoc xs reached.front (reached.last ∷ [])) in
    record {
      front = xs ++ reached.front;
      last = reached.last;
      all = more;
      longest = reached.longest ∙ quiet.leads.longest;
      origin = reached.origin ∙ quiet.leads.origin;
      place = omega (arith, length-append xs ys, quiet.leads.place, reached.place);
      tracks = λ b stands.
          rw (← append_assoc b xs reached.front) (reached.tracks (b ++ xs) (quiet.leads.after b stands));
      before = decide-more quiet reached.before;
    }

pub runs-on : {C : Type 0} {view : CheckView C} (os : List ℕ) {from at : ℕ} {a c e : LineState C} → from ≤ at
    → Decides view a (bits_from os from (at - from)) None c → (n m : ℕ) → m ≡ at - from + n
    → AdvancesTo view c (bits_from os at n) e → AdvancesTo view a (bits_from os from m) e
runs-on os begun quiet n m count reached = rw (← joins os begun quiet n m count) (runs-more quiet reached)

pub stops-on : {C : Type 0} {view : CheckView C} (os : List ℕ) {from at : ℕ} {a c : LineState C} → from ≤ at
    → Decides view a (bits_from os from (at - from)) None c → (n m : ℕ) → m ≡ at - from + n → (is_stop : Bool)
    → (e : LineState C) → AdvancesToStop view c (bits_from os at n) is_stop e
    → AdvancesToStop view a (bits_from os from m) is_stop e
stops-on os begun quiet n m count true e reached = runs-on os begun quiet n m count reached
stops-on os begun quiet n m count false e reached = decides-on os begun quiet n m count reached

-- and what the last decides, where it is a stop
pub decided-on : {C : Type 0} {view : CheckView C} (os : List ℕ) {from at : ℕ} {a c mid new : LineState C}
    {event : Option Event} → from ≤ at → Decides view a (bits_from os from (at - from)) None c → (n m : ℕ)
    → m ≡ at - from + n → (is_stop : Bool) → not is_stop ≡ false → AdvancesToStop view c (bits_from os at n) is_stop mid
    → DecidesLast view mid event new → AdvancesWith view a (bits_from os from m) event new
decided-on {C} {view} os {from} {at} {a} {c} {mid} begun quiet n m count is_stop going reached decision =
    decided (runs-on os begun quiet n m count
    (subst (λ (stop : Bool). AdvancesToStop view c (bits_from os at n) stop mid)
    (not-false is_stop going) reached)) decision
