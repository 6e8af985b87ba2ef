-- Bits that decide nothing, and bits after them.
use Rattle.std.proofs.Common.{◌≡◌, ℕ, ◌+◌, ◌-◌, ◌≤◌, ◌++◌, List, [], ◌∷◌, map, Bool, false, Option, None, Some}
use Rattle.std.proofs.Common.{ap, refl, sym, subst, ◌∙◌, length, length-append, take, drop, get_or, arith}
use Rattle.std.specs.Option.{is_some, option_map, option_to_list}
use Rattle.std.proofs.lemmas.Bool.{true≢false}
use Rattle.std.proofs.lemmas.List.{append-nil, append_assoc, append_cancel_left, length-take, map-append}
use Rattle.std.proofs.lemmas.List.{take-append-drop, take_all, take_more, nil_from_length}
use Rattle.bus_bits.specs.Bits.{bits_from}
use Rattle.bus_bits.proofs.BitLemmas.{bits-more, length-from}
use Rattle.bus_fcs.specs.Check.{CheckView}
use Rattle.bus_line.specs.Report.{Report, moved}
use Rattle.bus_line.specs.Due.{due_at, placed, reports}
use Rattle.bus_line.specs.LineState.{LineState}
use Rattle.bus_line.specs.After.{Advances, After, DecideNothing, Decides}
use Rattle.bus_line.proofs.DueMoreLemmas.{placed-more, reports-append}

-- no bits
pub decides-none : {C : Type 0} {view : CheckView C} {d : LineState C} → Decides view d [] None d
decides-none {C} {view} {d} = record {
  leads = record {
    after = λ b stands. subst (After view d) (sym (append-nil b)) stands;
    longest = refl;
    origin = refl;
    place = omega arith;
  };
  says = λ b stands. ap (placed d.origin d.longest) (append-nil b) ∙ sym (append-nil (placed d.origin d.longest b));
}

module _ {C : Type 0} {view : CheckView C} {a c : LineState C} {xs : List Bool}
    (quiet : Decides view a xs None c) where
  silent : (b : List Bool) → After view a b → placed a.origin a.longest (b ++ xs) ≡ placed a.origin a.longest b
  silent b stands = quiet.says b stands ∙ append-nil (placed a.origin a.longest b)

  -- what stands after them, by the first decoder's place and longest frame
  behind : (ys : List Bool) (rs : List Report) (b : List Bool) →
      placed c.origin c.longest ((b ++ xs) ++ ys) ≡ placed c.origin c.longest (b ++ xs) ++ rs →
      placed a.origin a.longest (b ++ (xs ++ ys)) ≡ placed a.origin a.longest (b ++ xs) ++ rs
  behind ys rs b is =
      ap (placed a.origin a.longest) (sym (append_assoc b xs ys))
      ∙ rw (← quiet.leads.origin, ← quiet.leads.longest) is

  -- bits that decide a report, or nothing
  pub decides-more : {e : LineState C} {ys : List Bool} {r : Option Report} → Decides view c ys r e →
      Decides view a (xs ++ ys) r e
  decides-more {e} {ys} {r} more = record {
    leads = record {
      after = λ b stands. rw (← append_assoc b xs ys) (more.leads.after (b ++ xs) (quiet.leads.after b stands));
      longest = more.leads.longest ∙ quiet.leads.longest;
      origin = more.leads.origin ∙ quiet.leads.origin;
      place = omega (arith, length-append xs ys, quiet.leads.place, more.leads.place);
    };
    says = λ b stands. behind ys (option_to_list r) b (more.says (b ++ xs) (quiet.leads.after b stands))
        ∙ ap (λ (z : List Report). z ++ option_to_list r) (silent b stands);
  }

  -- more bits that decide nothing
  pub decide-more : {ys : List Bool} → DecideNothing view c ys → DecideNothing view a (xs ++ ys)
  decide-more {ys} more = λ b stands.
      behind ys [] b
      (more (b ++ xs) (quiet.leads.after b stands) ∙ sym (append-nil (placed c.origin c.longest (b ++ xs))))
      ∙ (append-nil (placed a.origin a.longest (b ++ xs)) ∙ silent b stands)

-- what is not there
pub is-none : {A : Type 0} (o : Option A) → is_some o ≡ false → o ≡ None
is-none None is = refl
is-none (Some x) is = absurd (true≢false is)

-- bits of octets from bit `from` on and before bit `at`, and bits after them
module _ {C : Type 0} {view : CheckView C} (os : List ℕ) {from at : ℕ} {a c : LineState C} (begun : from ≤ at)
    (quiet : Decides view a (bits_from os from (at - from)) None c) where
  pub joins : (n m : ℕ) → m ≡ at - from + n → bits_from os from (at - from) ++ bits_from os at n ≡ bits_from os from m
  joins n m count =
      let there : at ≡ from + (at - from) = omega (arith, begun) in
      ap (λ (j : ℕ). bits_from os from (at - from) ++ bits_from os j n) there
      ∙ (sym (bits-more os from (at - from) n) ∙ ap (bits_from os from) (sym count))

  pub decides-on : {e : LineState C} {r : Option Report} (n m : ℕ) → m ≡ at - from + n →
      Decides view c (bits_from os at n) r e → Decides view a (bits_from os from m) r e
  decides-on {e} {r} n m count told = rw (← joins n m count) (decides-more quiet told)

  pub place-on : c.place ≡ a.place + (at - from)
  place-on = quiet.leads.place ∙ ap (λ (n : ℕ). a.place + n) (length-from os from (at - from))

-- a front of bits that decide nothing decides nothing
placed-front : (origin longest : ℕ) (b c : List Bool) →
    placed origin longest (b ++ c) ≡ placed origin longest b ++ map (moved origin) (reports-append longest b c).0
placed-front origin longest b c = ap (map (moved origin)) (reports-append longest b c).1
    ∙ map-append (moved origin) (reports longest b) (reports-append longest b c).0

none-before : (origin longest : ℕ) (b xs ys : List Bool) →
    placed origin longest ((b ++ xs) ++ ys) ≡ placed origin longest b →
    placed origin longest (b ++ xs) ≡ placed origin longest b
none-before origin longest b xs ys is =
    let first = map (moved origin) (reports-append longest b xs).0 in
    let more = map (moved origin) (reports-append longest (b ++ xs) ys).0 in
    let one = placed-front origin longest b xs in
    let both : placed origin longest b ++ (first ++ more) ≡ placed origin longest b ++ [] =
    sym (append_assoc (placed origin longest b) first more)
    ∙ (ap (λ (z : List Report). z ++ more) (sym one)
    ∙ (sym (placed-front origin longest (b ++ xs) ys) ∙ (is ∙ sym (append-nil (placed origin longest b))))) in
    let none : length first + length more ≡ 0 = sym (length-append first more)
    ∙ ap length (append_cancel_left (placed origin longest b) (first ++ more) [] both) in
    one ∙ (ap (λ (z : List Report). placed origin longest b ++ z) (nil_from_length first (omega (arith, none)))
    ∙ append-nil (placed origin longest b))

-- bits that decide nothing, as bits of which the last decides nothing
pub advances-quiet : {C : Type 0} {view : CheckView C} {a c : LineState C} {bits : List Bool}
    → Decides view a bits None c → Advances view a bits None c
advances-quiet {C} {view} {a} {c} {bits} quiet = record {
  decides = quiet;
  before = λ b stands.
      let front = take (length bits - 1) bits in
      let last = drop (length bits - 1) bits in
      let all : (b ++ front) ++ last ≡ b ++ bits =
      append_assoc b front last ∙ ap (λ (z : List Bool). b ++ z) (take-append-drop (length bits - 1) bits) in
      none-before a.origin a.longest b front last
      (ap (placed a.origin a.longest) all ∙ silent quiet b stands);
}

-- what the last bit decides
same-option : {A : Type 0} (o p : Option A) → option_to_list o ≡ option_to_list p → o ≡ p
same-option None None same = refl
same-option None (Some y) same = absurd (omega (arith, ap length same))
same-option (Some x) None same = absurd (omega (arith, ap length same))
same-option (Some x) (Some y) same = cc

pub last-bit : (bits : List Bool) → 1 ≤ length bits
    → bits ≡ take (length bits - 1) bits ++ get_or bits (length bits - 1) false ∷ []
last-bit bits some =
    let all : length bits ≡ length bits - 1 + 1 = omega (arith, some) in
    sym (take_all (length bits - 1 + 1) bits (omega arith))
    ∙ take_more bits (length bits - 1) false (omega (arith, all))

-- of a bit alone
pub bit-due : {C : Type 0} {view : CheckView C} {a c : LineState C} {bit : Bool}
    {r : Option Report} → Decides view a (bit ∷ []) r c
    → (b : List Bool) → After view a b
    → r ≡ option_map (moved a.origin) (due_at a.longest (b ++ bit ∷ []) (length b))
bit-due {C} {view} {a} {c} {bit} {r} told b stands =
    let due = option_map (moved a.origin) (due_at a.longest (b ++ bit ∷ []) (length b)) in
    let before = placed a.origin a.longest b in
    same-option r due (append_cancel_left before (option_to_list r) (option_to_list due)
    (sym (told.says b stands) ∙ placed-more a.origin a.longest b bit due refl))

-- of several
pub last-due : {C : Type 0} {view : CheckView C} {a c : LineState C} {bits : List Bool}
    {r : Option Report} → 1 ≤ length bits → Advances view a bits r c
    → (b : List Bool) → After view a b
    → r ≡ option_map (moved a.origin) (due_at a.longest (b ++ bits) (length b + length bits - 1))
last-due {C} {view} {a} {c} {bits} {r} some advances b stands =
    let front = take (length bits - 1) bits in
    let last = get_or bits (length bits - 1) false in
    let before = placed a.origin a.longest b in
    let all : (b ++ front) ++ last ∷ [] ≡ b ++ bits =
    append_assoc b front (last ∷ []) ∙ ap (λ (z : List Bool). b ++ z) (sym (last-bit bits some)) in
    let due = option_map (moved a.origin) (due_at a.longest ((b ++ front) ++ last ∷ []) (length (b ++ front))) in
    let same : before ++ option_to_list r ≡ before ++ option_to_list due =
    sym (advances.decides.says b stands)
    ∙ ap (placed a.origin a.longest) (sym all)
    ∙ placed-more a.origin a.longest (b ++ front) last due refl
    ∙ ap (λ (z : List Report). z ++ option_to_list due) (advances.before b stands) in
    let place : length (b ++ front) ≡ length b + length bits - 1 =
    omega (arith, length-append b front, length-take (length bits - 1) bits, some) in
    same-option r due (append_cancel_left before (option_to_list r) (option_to_list due) same)
    ∙ ap (option_map (moved a.origin)) (ap (λ (z : List Bool). due_at a.longest z (length (b ++ front))) all
    ∙ ap (due_at a.longest (b ++ bits)) place)

-- no bits of octets
pub decides-from : {C : Type 0} {view : CheckView C} {d : LineState C} (os : List ℕ) (from n : ℕ) → n ≡ 0
    → Decides view d (bits_from os from n) None d
unfolding bits_from
decides-from os from n none = rw none decides-none
