-- What is kept of the places of the second line, with an arrival more.
use Rattle.std.proofs.Common.{◌≡◌, ℕ, ◌+◌, ◌-◌, ◌%◌, ◌<◌, ◌≤◌, Bool, true, false, if◌then◌else◌, List, [], ◌∷◌, ◌++◌}
use Rattle.std.proofs.Common.{length, Some, refl, sym, ap, ◌∙◌, subst, arith, append-nil, length-append, ◌⊎◌, inl, inr}
use Rattle.std.specs.Prelude.{Option, None, IfSome, option_map, slice_get}
use Rattle.std.proofs.lemmas.Bool.{cases_lt}
use Rattle.bus_bits.specs.Octet.{octets}
use Rattle.bus_line.specs.Mark.{IsFlag, IsAbort, IsMark, IsPiece}
use Rattle.bus_line.specs.Due.{begun}
use Rattle.bus_line.specs.Report.{Report, Kind, Frame, Damaged, Overlong, Idle, IsClass, readable, unstuffed, IsReport}
use Rattle.bus_line.specs.Report.{closed, aborted, idle, due}
use Rattle.bus_line.specs.declared.cause.Cause.TheVariants.{Short, Unaligned, Fcs}
use Rattle.bus_line.proofs.MarkLemmas.{flag-true, flag-is, abort-true, abort-is, is_flag-append, is_abort-append}
use Rattle.bus_line.proofs.DueLemmas.{class-due}
use Rattle.bus_line.proofs.DueStreamLemmas.{flag-fits, abort-fits, mark-fits, flag-not_abort}
use Rattle.bus_line.proofs.ReportLemmas.{begun-it, due-it}
use Rattle.bus_bits.specs.declared.span.Span.{Span}
use Rattle.bus_line.specs.declared.line.Line.TheVariants.{First, Second}
use Rattle.bus_tap.specs.Arrival.{Arrival, own, place_of}
use Rattle.bus_tap.specs.Places.{IsOpenSpan, IsPast, KeepsDecided, KeepsPlaces, Notes}
use Rattle.bus_tap.specs.Lines.{BeginsAt}
use Rattle.bus_tap.specs.declared.places.BitPlaces.{BitPlaces}
use Rattle.bus_tap.proofs.ArrivalLemmas.{own-append, before-append, before-now, before-within}

-- marks stay when bits are added, and flags that fit were there
mark-more : (b c : List Bool) (q : ℕ) → IsMark b q → IsMark (b ++ c) q
mark-more b c q (inl is-flag) =
    inl (flag-true (b ++ c) q (is_flag-append b c q (flag-fits b q is-flag) ∙ flag-is b q is-flag))
mark-more b c q (inr is-abort) =
    inr (abort-true (b ++ c) q (is_abort-append b c q (abort-fits b q is-abort) ∙ abort-is b q is-abort))

flag-less : (b c : List Bool) (p : ℕ) → p + 8 ≤ length b → IsFlag (b ++ c) p → IsFlag b p
flag-less b c p fits is-flag = flag-true b p (sym (is_flag-append b c p fits) ∙ flag-is (b ++ c) p is-flag)

-- a piece that has begun before the last bit had begun without it
pub begun-before : (b c : List Bool) (k : ℕ) → begun (b ++ c) ≡ Some k → k < length b → begun b ≡ Some k
begun-before b c k is inside =
    let has = (begun-it (b ++ c) k).1 is in
    (begun-it b k).0 (record {
      flag_at = has.flag_at;
      opening = flag-less b c has.flag_at (omega (arith, has.behind, inside)) has.opening;
      greatest = λ q mark. has.greatest q (mark-more b c q mark);
      behind = has.behind;
      some = inside;
    })

pub begun-within : (b : List Bool) (k : ℕ) → begun b ≡ Some k → k < length b
begun-within b k is = ((begun-it b k).1 is).some

-- what stands between two flags is no idle line
data-kind : (t u v w : Bool) (os : List ℕ) →
    (if t then Overlong else
    (if u then Damaged Short else (if v then Damaged Unaligned else (if w then Damaged Fcs else Frame os)))) ≡ Idle → ⊥
data-kind true u v w os is = absurd (cc)
data-kind false true v w os is = absurd (cc)
data-kind false false true w os is = absurd (cc)
data-kind false false false true os is = absurd (cc)
data-kind false false false false os is = absurd (cc)

class-kind : (longest : ℕ) (raw : List Bool) (kind : Kind) → IsClass longest raw kind → kind ≡ Idle → ⊥
class-kind longest raw _ (readable d spelled) is = data-kind _ _ _ _ (octets d) is
class-kind longest raw _ (unstuffed none) is = absurd (cc)

-- where a bit decides a report, it is an idle's of the last fifteen bits, or its piece was open before the bit, and
-- none begins with the bit
pub record WasOpen (b : List Bool) (bit : Bool) (r : Report) : Type 0 where
  pub kind : r.kind ≡ Idle → ⊥
  pub opened : begun b ≡ Some r.first
  pub none : begun (b ++ bit ∷ []) ≡ Some (length b) → ⊥

piece-open : (b : List Bool) (bit : Bool) (p m : ℕ) (kind : Kind) → (kind ≡ Idle → ⊥) → IsPiece (b ++ bit ∷ []) p m →
    m < length b → length b ≤ m + 7 → ((q : ℕ) → m ≤ q → IsMark b q → ⊥) →
    WasOpen b bit (record { kind = kind; first = p + 8; past = m })
piece-open b bit p m kind other piece inside near none = record {
  kind = other;
  opened = (begun-it b (p + 8)).0 (record {
    flag_at = p;
    opening = flag-less b (bit ∷ []) p (omega (arith, piece.some, inside)) piece.opening;
    greatest = λ q mark. elim (cases_lt p q) [
      | inl above ↦ absurd (none q (piece.next.least q above (mark-more b (bit ∷ []) q mark)) mark)
      | inr is ↦ is
    ];
    behind = refl;
    some = omega (arith, piece.some, inside);
  });
  none = λ is.
      let has = (begun-it (b ++ bit ∷ []) (length b)).1 is in
      omega (arith, has.greatest m piece.next.mark, has.behind, near);
}

pub was-open : (longest : ℕ) (b : List Bool) (bit : Bool) (r : Report) → IsReport longest (b ++ bit ∷ []) r →
    due r ≡ length b → ((r.kind ≡ Idle) × (length b ≤ r.first + 14)) ⊎ WasOpen b bit r
was-open longest b bit _ (closed p m kind piece end is-class) at =
    let due_is = class-due longest _ kind (p + 8) m is-class in
    inr (piece-open b bit p m kind (class-kind longest _ kind is-class) piece (omega (arith, due_is, at))
    (omega (arith, due_is, at))
    (λ q past mark. closing q past mark (omega (arith, due_is, at))))
  where
    closing : (q : ℕ) → m ≤ q → IsMark b q → length b ≡ m + 7 → ⊥
    closing q past (inl is-flag) count = omega (arith, past, count, flag-fits b q is-flag)
    closing q past (inr is-abort) count =
        let same : q ≡ m = omega (arith, past, count, abort-fits b q is-abort) in
        flag-not_abort (b ++ bit ∷ []) m end
        (subst (IsAbort (b ++ bit ∷ [])) same
        (abort-true (b ++ bit ∷ []) q (is_abort-append b (bit ∷ []) q (abort-fits b q is-abort)
        ∙ abort-is b q is-abort)))
was-open longest b bit _ (aborted p m piece end) at =
    inr (piece-open b bit p m Kind.Abort (λ is. absurd (cc)) piece (omega (arith, at)) (omega (arith, at))
    (λ q past mark. omega (arith, past, at, mark-fits b q mark)))
was-open longest b bit _ (idle a end) at = inl (refl, omega (arith, at))

-- a bit of the first line
pub places-first : (origin place : ℕ) (p : BitPlaces) (xs : List Arrival) (bit : Bool) → KeepsPlaces origin p xs →
    place ≡ origin + length (own First xs) →
    KeepsPlaces origin (record p { reached = place }) (xs ++ (First, bit) ∷ [])
places-first origin place p xs bit kept at =
    let more : List Arrival = (First, bit) ∷ [] in
    let same : own Second (xs ++ more) ≡ own Second xs = own-append Second xs more ∙ append-nil (own Second xs) in
    record {
      reached = omega (
        arith,
        at,
        ap length (own-append First xs more),
        length-append (own First xs) (bit ∷ []),
      );
      recent = λ k inside near.
          kept.recent k (rw same at inside) (rw same at near)
          ∙ ap (λ n. Some (origin + (n - 1))) (sym (before-append k xs more (rw same at inside)));
      opened = λ k is.
          let was = rw same at is in
          kept.opened k was
          ∙ ap (λ n. origin + (n - 1)) (sym (before-append k xs more (begun-within (own Second xs) k was)));
    }

now-place : (origin : ℕ) (p : BitPlaces) (xs : List Arrival) (bit : Bool) → KeepsPlaces origin p xs →
    p.reached ≡ origin + place_of (xs ++ (Second, bit) ∷ []) (length (own Second xs))
now-place origin p xs bit kept = kept.reached ∙ ap (λ n. origin + (n - 1)) (sym (before-now xs bit))

pub places-second : (origin : ℕ) (p q : BitPlaces) (xs : List Arrival) (bit opens : Bool) → KeepsPlaces origin p xs →
    Notes p q (length (own Second xs)) opens →
    BeginsAt opens (own Second xs) bit → KeepsPlaces origin q (xs ++ (Second, bit) ∷ [])
places-second origin p q xs bit opens kept notes opening =
    let more : List Arrival = (Second, bit) ∷ [] in
    let n = length (own Second xs) in
    let grown : own Second (xs ++ more) ≡ own Second xs ++ bit ∷ [] = own-append Second xs more in
    let same : own First (xs ++ more) ≡ own First xs = own-append First xs more ∙ append-nil (own First xs) in
    let count : length (own Second (xs ++ more)) ≡ n + 1 =
    omega (arith, ap length grown, length-append (own Second xs) (bit ∷ [])) in
    let stays : (k : ℕ) → k < n → origin + place_of xs k ≡ origin + place_of (xs ++ more) k =
    λ k inside. ap (λ m. origin + (m - 1)) (sym (before-append k xs more inside)) in
    record {
      reached = notes.reached ∙ kept.reached ∙ ap (λ (b : List Bool). origin + (length b - 1)) (sym same);
      recent = λ k inside near. elim (cases_lt k n) [
        | inl before ↦
            notes.others (k % 16) (λ is. omega (arith, is, before, near, count))
            ∙ (kept.recent k before (omega (arith, near, count)) ∙ ap Some (stays k before))
        | inr last ↦ (let is : k ≡ n = omega (arith, last, inside, count) in
            rw is (notes.here ∙ ap Some (now-place origin p xs bit kept)))
      ];
      opened = λ k is.
          let was : begun (own Second xs ++ bit ∷ []) ≡ Some k = rw grown at is in
          elim (cases_lt k n) [
            | inl before ↦ elim opening [
              | inl opened_now ↦
                  (let clash : k ≡ n = same-Some k n (sym was ∙ opened_now.1) in absurd (omega (arith, clash, before)))
              | inr other ↦
                  notes.opened ∙ (ap (λ b. if b then p.reached else p.opened) other.0
                  ∙ (kept.opened k (begun-before (own Second xs) (bit ∷ []) k was before) ∙ stays k before))
            ]
            | inr last ↦
                (let at : k ≡ n = omega (
                  arith,
                  last,
                  begun-within (own Second xs ++ bit ∷ []) k was,
                  length-append (own Second xs) (bit ∷ []),
                ) in
                elim opening [
                  | inl opened_now ↦
                      notes.opened ∙ (ap (λ b. if b then p.reached else p.opened) opened_now.0
                      ∙ rw at (now-place origin p xs bit kept))
                  | inr other ↦ absurd (other.1 (was ∙ ap Some at))
                ])
          ];
    }
  where
    same-Some : (x y : ℕ) → Some x ≡ Some y → x ≡ y
    same-Some x y is = cc

-- the place of the first bit of a piece stays up to the bit that decides its report
pub opened-place : (origin : ℕ) (p q : BitPlaces) (xs : List Arrival) (bit opens : Bool) → KeepsPlaces origin p xs →
    Notes p q (length (own Second xs)) opens → BeginsAt opens (own Second xs) bit → (r : Report) →
    WasOpen (own Second xs) bit r → q.opened ≡ origin + place_of (xs ++ (Second, bit) ∷ []) r.first
opened-place origin p q xs bit opens kept notes opening r was =
    elim opening [
      | inl opened_now ↦ absurd (was.none opened_now.1)
      | inr other ↦
          notes.opened
          ∙ (ap (λ b. if b then p.reached else p.opened) other.0
          ∙ (kept.opened r.first was.opened
          ∙ ap (λ m. origin + (m - 1)) (sym (before-append r.first xs ((Second, bit) ∷ [])
          (begun-within (own Second xs) r.first was.opened)))))
    ]

keeps-decided : (origin : ℕ) (p q : BitPlaces) (xs : List Arrival) (bit opens : Bool) → KeepsPlaces origin p xs →
    Notes p q (length (own Second xs)) opens → BeginsAt opens (own Second xs) bit → KeepsDecided origin q xs bit
keeps-decided origin p q xs bit opens kept notes opening longest r decided other =
    let report = (due-it longest (own Second xs ++ bit ∷ []) (length (own Second xs)) r).1 decided in
    elim (was-open longest (own Second xs) bit r report.0 report.1) [
      | inl idle_line ↦ absurd (other idle_line.0)
      | inr was ↦ opened-place origin p q xs bit opens kept notes opening r was
    ]

-- both, of a bit that was noted
pub keeps-noted : {p q : BitPlaces} {k : ℕ} {opens : Bool} → Notes p q k opens → (origin : ℕ) (xs : List Arrival)
    (bit : Bool) → KeepsPlaces origin p xs → k ≡ length (own Second xs) → BeginsAt opens (own Second xs) bit →
    KeepsPlaces origin q (xs ++ (Second, bit) ∷ [])
keeps-noted {p = p} {q = q} {opens = opens} notes origin xs bit kept at opening =
    places-second origin p q xs bit opens kept (subst (λ n. Notes p q n opens) at notes) opening

pub decided-noted : {p q : BitPlaces} {k : ℕ} {opens : Bool} → Notes p q k opens → (origin : ℕ) (xs : List Arrival)
    (bit : Bool) → KeepsPlaces origin p xs → k ≡ length (own Second xs) → BeginsAt opens (own Second xs) bit →
    KeepsDecided origin q xs bit
decided-noted {p = p} {q = q} {opens = opens} notes origin xs bit kept at opening =
    keeps-decided origin p q xs bit opens kept (subst (λ n. Notes p q n opens) at notes) opening

-- the open piece in places
pub open-span : (p : BitPlaces) (count : ℕ) (span : Span) → span.first ≡ p.opened → IsPast p (count - 1) span.past →
    IsOpenSpan p count span
open-span p count span first past origin xs kept at bound = cases (begun (own Second xs)) refl
  where
    k : ℕ
    k = length (own Second xs) - 1

    cases : (o : Option ℕ) → begun (own Second xs) ≡ o → IfSome
        (option_map (λ f. record { first = origin + place_of xs f; past = origin + (place_of xs k + 1) }) o)
        (λ s. span ≡ s)
    cases None is = tt
    cases (Some f) is =
        let some = begun-within (own Second xs) f is in
        let begins : span.first ≡ origin + place_of xs f = first ∙ kept.opened f is in
        let last : slice_get p.recent ((count - 1) % 16) ≡ Some (origin + place_of xs k) =
        ap (λ n. slice_get p.recent ((n - 1) % 16)) at ∙ kept.recent k (omega (arith, some)) (omega arith) in
        let ends : span.past ≡ origin + (place_of xs k + 1) =
        past _ last (omega (arith, before-within k xs, bound)) ∙ omega arith in
        rw (← begins, ← ends) refl
