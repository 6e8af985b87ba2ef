-- What lines ask for, as more octets come.
use Rattle.std.proofs.Common.{◌≡◌, ℕ, ◌+◌, ◌-◌, ◌<◌, ◌≤◌, ◌==◌, nat_lt, Bool, true, false, if◌then◌else◌, List, [], ◌∷◌}
use Rattle.std.proofs.Common.{◌++◌, length, take, Option, Some, None, refl, sym, ap, ◌∙◌, arith, append_assoc, add-zero}
use Rattle.std.proofs.Common.{zero-add, length-append}
use Rattle.std.proofs.lemmas.List.{append-nil}
use Rattle.std.proofs.lemmas.Grind.{common_steps}
use Rattle.std.proofs.lemmas.Bool.Decides.{nat_tests}
use Rattle.std.specs.Io.BufRead.{strip_last, ends_with_byte}
use Rattle.bus_line.specs.Line.{Call, gain}
use Rattle.bus_calls.specs.Lines.{ended_lines, open_line, last_line}
use Rattle.bus_calls.specs.Encode.{Asked, unless_fault, and_then, line_asked, line_call, text_line, asked_behind}
use Rattle.bus_calls.specs.Encode.{open_asked, asked_so_far, asked_in_all, bits_text, text_behind, encode_text}
use Rattle.bus_text.specs.declared.fault.ToolFault.{ToolFault}
use Rattle.bus_text.specs.declared.fault.ToolFault.TheVariants.{BadLine}
use Rattle.bus_calls.proofs.LinesLemmas.{ended_behind, open_behind, ended-append, open-append, ended-by_lf, open-by_lf}

-- ---- one thing asked for after another

abbrev pub nothing : Asked
nothing = record { calls = []; fault = None }

-- a line of this number is refused for its length or its form
abbrev pub bad : ℕ → Asked
bad before = record { calls = []; fault = Some (BadLine (text_line before)) }

then_nothing_at : (f : Option ToolFault) (cs : List Call) → unless_fault f cs nothing ≡ record { calls = cs; fault = f }
then_nothing_at None cs = rw append-nil refl
then_nothing_at (Some e) cs = refl

pub then-nothing : (a : Asked) → and_then a nothing ≡ a
then-nothing a = then_nothing_at a.fault a.calls

inner_assoc : (g : Option ToolFault) (cs bs : List Call) (c : Asked)
    → unless_fault g (cs ++ bs) c
    ≡ record { calls = cs ++ (unless_fault g bs c).calls; fault = (unless_fault g bs c).fault }
inner_assoc None cs bs c = rw append_assoc refl
inner_assoc (Some e) cs bs c = refl

outer_assoc : (f : Option ToolFault) (cs : List Call) (b c : Asked) →
    and_then (unless_fault f cs b) c ≡ unless_fault f cs (and_then b c)
outer_assoc None cs b c = inner_assoc b.fault cs b.calls c
outer_assoc (Some e) cs b c = refl

pub then-assoc : (a b c : Asked) → and_then (and_then a b) c ≡ and_then a (and_then b c)
then-assoc a b c = outer_assoc a.fault a.calls b c

first_clean_at : (f : Option ToolFault) (cs : List Call) (b : Asked) → (unless_fault f cs b).fault ≡ None → f ≡ None
first_clean_at None cs b clean = refl
first_clean_at (Some e) cs b clean = clean

-- no fault in both is none in the first
pub first_clean : (a b : Asked) → (and_then a b).fault ≡ None → a.fault ≡ None
first_clean a b clean = first_clean_at a.fault a.calls b clean

-- after no fault
pub then-clean : (a b : Asked) → a.fault ≡ None → and_then a b ≡ record { calls = a.calls ++ b.calls; fault = b.fault }
then-clean a b clean = rw clean refl

-- after a fault
pub then-fault : (a b : Asked) (e : ToolFault) → a.fault ≡ Some e → and_then a b ≡ a
then-fault a b e stopped =
    ap (λ f. unless_fault f a.calls b) stopped
    ∙ ap {B = Asked} (λ (f : Option ToolFault). record { calls = a.calls; fault = f }) (sym stopped)

-- ---- lines

pub asked-append : (n : ℕ) (ls ms : List (List ℕ)) → asked_behind n (ls ++ ms)
    ≡ and_then (asked_behind n ls) (asked_behind (n + length ls) ms)
unfolding asked_behind
asked-append n [] ms = ap (λ k. asked_behind k ms) (sym (add-zero n))
asked-append n (l ∷ ls) ms =
    let count : n + 1 + length ls ≡ n + length (l ∷ ls) = omega arith in
    rw (asked-append (n + 1) ls ms, count)
    (sym (then-assoc (line_asked n l) (asked_behind (n + 1) ls) (asked_behind (n + length (l ∷ ls)) ms)))

pub asked-one : (n : ℕ) (l : List ℕ) → asked_behind n (l ∷ []) ≡ line_asked n l
unfolding asked_behind
asked-one n l = then-nothing (line_asked n l)

-- one line more
pub asked-push : (ls : List (List ℕ)) (l : List ℕ) → asked_behind 0 (ls ++ l ∷ [])
    ≡ and_then (asked_behind 0 ls) (line_asked (length ls) l)
asked-push ls l = rw (asked-append 0 ls (l ∷ []), asked-one (0 + length ls) l, zero-add (length ls)) refl

-- ---- lines that are too long

abbrev pub is_long : List ℕ → Bool
is_long line = nat_lt 600 (length (strip_last 13 line))

strip_most : (l : List ℕ) → length (strip_last 13 l) ≤ length l
strip_most l = elim (ends_with_byte 13 l) as (λ b. length (if b then take (length l - 1) l else l) ≤ length l) [
  | true ↦ grind (arith, common_steps)
  | false ↦ omega arith
]

strip_least : (l : List ℕ) → length l ≤ length (strip_last 13 l) + 1
strip_least l = elim (ends_with_byte 13 l) as (λ b. length l ≤ length (if b then take (length l - 1) l else l) + 1) [
  | true ↦ grind (arith, common_steps)
  | false ↦ omega arith
]

pub long_is : (l : List ℕ) → 600 < length (strip_last 13 l) → is_long l ≡ true
long_is l long = test (length (strip_last 13 l)) long
  where
    test : (n : ℕ) → 600 < n → nat_lt 600 n ≡ true
    test n above = grind (arith, nat_tests)

pub short_is : (l : List ℕ) → length (strip_last 13 l) ≤ 600 → is_long l ≡ false
short_is l short = test (length (strip_last 13 l)) short
  where
    test : (n : ℕ) → n ≤ 600 → nat_lt 600 n ≡ false
    test n within = grind (arith, nat_tests)

is_above : (n : ℕ) → nat_lt 600 n ≡ true → 600 < n
is_above n above = grind (arith, nat_tests)

long-more : (l : List ℕ) (x : ℕ) → is_long l ≡ true → is_long (l ++ x ∷ []) ≡ true
long-more l x long =
    let here = is_above (length (strip_last 13 l)) long in
    long_is (l ++ x ∷ []) (omega (arith, here, strip_most l, strip_least (l ++ x ∷ []), length-append l (x ∷ [])))

long-asked : (n : ℕ) (l : List ℕ) → is_long l ≡ true → line_asked n l ≡ bad n
unfolding line_call
long-asked n l long = rw long refl

open-long : (n : ℕ) (l : List ℕ) → is_long l ≡ true → open_asked n l ≡ bad n
open-long n l long = rw long refl

-- what is asked for after a line that stands open
abbrev after_open : ℕ → List ℕ → List ℕ → Asked
after_open n line ys = and_then (asked_behind n (ended_behind line ys))
    (open_asked (n + length (ended_behind line ys)) (open_behind line ys))

-- a line that is too long stays so, however it goes on
long-stays : (n : ℕ) (line ys : List ℕ) → is_long line ≡ true → after_open n line ys ≡ bad n
unfolding asked_behind ended_behind open_behind
long-stays n line [] long = open-long (n + 0) line long ∙ ap bad (add-zero n)
long-stays n line (x ∷ ys) long =
    elim (x == 10) as
    (λ b. and_then (asked_behind n (if b then line ∷ ended_behind [] ys else ended_behind (line ++ x ∷ []) ys))
    (open_asked (n + length (if b then line ∷ ended_behind [] ys else ended_behind (line ++ x ∷ []) ys))
    (if b then open_behind [] ys else open_behind (line ++ x ∷ []) ys)) ≡ bad n) [
      | true ↦ ap (λ (a : Asked). and_then (and_then a (asked_behind (n + 1) (ended_behind [] ys)))
          (open_asked (n + length (line ∷ ended_behind [] ys)) (open_behind [] ys))) (long-asked n line long)
      | false ↦ long-stays n (line ++ x ∷ []) ys (long-more line x long)
    ]

-- ---- more octets

pub so_far-is : (xs : List ℕ) → asked_so_far xs
    ≡ and_then (asked_behind 0 (ended_lines xs)) (open_asked (length (ended_lines xs)) (open_line xs))
unfolding asked_so_far
so_far-is xs = refl

-- a line that is not too long asks for nothing while it stands open
pub so_far-short : (xs : List ℕ) → is_long (open_line xs) ≡ false → asked_so_far xs ≡ asked_behind 0 (ended_lines xs)
so_far-short xs short = rw (so_far-is xs, short) (then-nothing (asked_behind 0 (ended_lines xs)))

pub so_far-long : (xs : List ℕ) → is_long (open_line xs) ≡ true →
    asked_so_far xs ≡ and_then (asked_behind 0 (ended_lines xs)) (bad (length (ended_lines xs)))
so_far-long xs long = rw (so_far-is xs, long) refl

-- no fault so far is none in the lines that ended
pub ended_clean : (xs : List ℕ) → (asked_so_far xs).fault ≡ None → (asked_behind 0 (ended_lines xs)).fault ≡ None
ended_clean xs clean =
    first_clean (asked_behind 0 (ended_lines xs)) (open_asked (length (ended_lines xs)) (open_line xs))
    (rw so_far-is at clean)

-- and then the calls are theirs
pub ended_calls : (xs : List ℕ) → (asked_so_far xs).fault ≡ None →
    (asked_so_far xs).calls ≡ (asked_behind 0 (ended_lines xs)).calls
ended_calls xs clean =
    let ended = asked_behind 0 (ended_lines xs) in
    let last = open_asked (length (ended_lines xs)) (open_line xs) in
    ap (λ (a : Asked). a.calls) (so_far-is xs ∙ then-clean ended last (ended_clean xs clean)) ∙ append-nil ended.calls

-- LF after an open line
pub lf-asked : (xs : List ℕ) → asked_so_far (xs ++ 10 ∷ [])
    ≡ and_then (asked_behind 0 (ended_lines xs)) (line_asked (length (ended_lines xs)) (open_line xs))
lf-asked xs =
    let short : is_long (open_line (xs ++ 10 ∷ [])) ≡ false = ap is_long (open-by_lf xs) in
    so_far-short (xs ++ 10 ∷ []) short
    ∙ (ap (asked_behind 0) (ended-by_lf xs) ∙ asked-push (ended_lines xs) (open_line xs))

so_far-both : (xs ys : List ℕ) → asked_so_far (xs ++ ys)
    ≡ and_then (asked_behind 0 (ended_lines xs)) (after_open (length (ended_lines xs)) (open_line xs) ys)
so_far-both xs ys =
    let ended = ended_lines xs in
    let more = ended_behind (open_line xs) ys in
    let last = open_behind (open_line xs) ys in
    rw (so_far-is (xs ++ ys), ended-append xs ys, open-append xs ys, length-append ended more)
    (rw (asked-append 0 ended more, zero-add (length ended)) (then-assoc (asked_behind 0 ended)
    (asked_behind (length ended) more) (open_asked (length ended + length more) last)))

-- What the lines that ended and `more` ask for is more than what was asked for so far, and nothing new where the open
-- line is too long.
grows : (xs : List ℕ) (whole more : Asked) → whole ≡ and_then (asked_behind 0 (ended_lines xs)) more
    → (is_long (open_line xs) ≡ true → more ≡ bad (length (ended_lines xs)))
    → (c : Asked) × (whole ≡ and_then (asked_so_far xs) c)
grows xs whole more is stops = cases (is_long (open_line xs)) refl
  where
    cases : (b : Bool) → is_long (open_line xs) ≡ b → (c : Asked) × (whole ≡ and_then (asked_so_far xs) c)
    cases true long =
        let same : whole ≡ asked_so_far xs =
        is ∙ (ap (and_then (asked_behind 0 (ended_lines xs))) (stops long) ∙ sym (so_far-long xs long)) in
        (nothing, same ∙ sym (then-nothing (asked_so_far xs)))
    cases false short = (more, is ∙ ap (λ (a : Asked). and_then a more) (sym (so_far-short xs short)))

-- more octets ask for more, and for nothing new after a fault
pub so_far-grows : (xs ys : List ℕ) → (c : Asked) × (asked_so_far (xs ++ ys) ≡ and_then (asked_so_far xs) c)
so_far-grows xs ys =
    let n = length (ended_lines xs) in
    grows xs (asked_so_far (xs ++ ys)) (after_open n (open_line xs) ys) (so_far-both xs ys)
    (long-stays n (open_line xs) ys)

last-asked : (n : ℕ) (l : List ℕ) → asked_behind n (last_line l) ≡ line_asked n l
unfolding asked_behind line_call
last-asked n [] = refl
last-asked n (x ∷ l) = then-nothing (line_asked n (x ∷ l))

-- at the end of the input the open line is one
pub in_all-is : (xs : List ℕ) → asked_in_all xs
    ≡ and_then (asked_behind 0 (ended_lines xs)) (line_asked (length (ended_lines xs)) (open_line xs))
unfolding asked_in_all
in_all-is xs =
    let ended = ended_lines xs in
    rw (asked-append 0 ended (last_line (open_line xs)), zero-add (length ended))
    (ap (and_then (asked_behind 0 ended)) (last-asked (length ended) (open_line xs)))

-- and asks for more
pub in_all-grows : (xs : List ℕ) → (c : Asked) × (asked_in_all xs ≡ and_then (asked_so_far xs) c)
in_all-grows xs =
    let n = length (ended_lines xs) in
    grows xs (asked_in_all xs) (line_asked n (open_line xs)) (in_all-is xs) (long-asked n (open_line xs))

-- octets that follow, and then the end
pub all-grows : (xs ys : List ℕ) → (c : Asked) × (asked_in_all (xs ++ ys) ≡ and_then (asked_so_far xs) c)
all-grows xs ys =
    let more = so_far-grows xs ys in
    let whole = in_all-grows (xs ++ ys) in
    (and_then more.0 whole.0, rw (whole.1, more.1) (then-assoc (asked_so_far xs) more.0 whole.0))

-- ---- text

pub text-append : (before cs ds : List Call) → text_behind before (cs ++ ds)
    ≡ text_behind before cs ++ text_behind (before ++ cs) ds
unfolding text_behind
text-append before [] ds = ap (λ (b : List Call). text_behind b ds) (sym (append-nil before))
text-append before (c ∷ cs) ds =
    rw (text-append (before ++ c ∷ []) cs ds, append_assoc before (c ∷ []) cs)
    (sym (append_assoc (bits_text (gain before c)) (text_behind (before ++ c ∷ []) cs)
    (text_behind (before ++ c ∷ cs) ds)))

pub text-push : (cs : List Call) (c : Call) → encode_text (cs ++ c ∷ []) ≡ encode_text cs ++ bits_text (gain cs c)
unfolding text_behind
text-push cs c = text-append [] cs (c ∷ [])
    ∙ ap (λ (l : List ℕ). encode_text cs ++ l) (append-nil (bits_text (gain cs c)))

then_text_at : (f : Option ToolFault) (cs : List Call) (c : Asked) →
    (rest : List ℕ) × (encode_text (unless_fault f cs c).calls ≡ encode_text cs ++ rest)
then_text_at None cs c = (text_behind cs c.calls, text-append [] cs c.calls)
then_text_at (Some e) cs c = ([], sym (append-nil (encode_text cs)))

-- the text of more has that of what was before at its front
pub then-text : (a c : Asked) → (rest : List ℕ) × (encode_text (and_then a c).calls ≡ encode_text a.calls ++ rest)
then-text a c = then_text_at a.fault a.calls c
