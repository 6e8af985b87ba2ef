-- The items as they are read, one after another.
use Rattle.std.proofs.Common.{◌≡◌, ℕ, ◌+◌, ◌<◌, ◌==◌, List, [], ◌∷◌, ◌++◌, ◌⊎◌, inl, inr, codes, find, append_assoc}
use Rattle.std.proofs.Common.{append-nil, refl, sym, ◌∙◌, ap, subst, arith, Ok, Err, Some, None, Bool, true, false}
use Rattle.std.proofs.Common.{cond, Contains}
use Rattle.std.proofs.lemmas.Bool.Decides.{nat_tests}
use Rattle.std.proofs.lemmas.List.Elements.{Contains-append_left, Contains-push, Contains-push_cases}
use Rattle.std.proofs.lemmas.List.Folds.{Any-from_list_any, list_any_at}
use Rattle.toml.specs.Data.{Data, Items, item, no_items}
use Rattle.bus_dictionary.specs.declared.fault.DictFault.{DictFault}
use Rattle.bus_dictionary.specs.Entry.{FrameType, has_type, entry_of}
use Rattle.bus_dictionary.specs.Dictionary.{entries_of}
use Rattle.bus_dictionary.specs.Says.{IsItem, here, later, HasNumber, AreSaid, no_more, one_more}
use Rattle.bus_dictionary.specs.FaultTable.{IsEntryRow}
use Rattle.bus_dictionary.proofs.BitNameLemmas.{then_ok}
use Rattle.bus_dictionary.proofs.FaultTableBitLemmas.{then_err, after, none_here, behind}
use Rattle.bus_dictionary.proofs.SaysLemmas.{number_says, says_number}
use Rattle.bus_dictionary.proofs.FaultTableEntryLemmas.{entry_read, read_says, row_not, read_columns, IsRefused}
use Rattle.bus_dictionary.proofs.FaultTableEntryLemmas.{entry_refused}
use Rattle.bus_dictionary.proofs.SaysUniqueLemmas.{front_or}

-- item n is d, and the items before it are read, with those before them, as `old`
pub data At (v : ℕ) : ℕ → List FrameType → Items → ℕ → Data → List FrameType → Type 0 where
  stand : (k : ℕ) (before : List FrameType) (d : Data) (ds : Items) → At v k before (item d ds) k d before
  step : (k n : ℕ) (before old : List FrameType) (c d : Data) (ds : Items) (x : FrameType) →
      entry_of v k before c ≡ Ok x → At v (k + 1) (before ++ x ∷ []) ds n d old
      → At v k before (item c ds) n d old

pub at_item : (v k : ℕ) (before : List FrameType) (ds : Items) (n : ℕ) (d : Data) (old : List FrameType) →
    At v k before ds n d old → IsItem k ds n d
at_item v _ _ _ _ _ _ (stand k before d ds) = here k d ds
at_item v _ _ _ _ _ _ (step k n before old c d ds x is more) =
    later k n c d ds (at_item v (k + 1) (before ++ x ∷ []) ds n d old more)

at_kept : (v k : ℕ) (before : List FrameType) (ds : Items) (n : ℕ) (d : Data) (old : List FrameType) (y : FrameType) →
    At v k before ds n d old → Contains before y → Contains old y
at_kept v _ _ _ _ _ _ y (stand k before d ds) there = there
at_kept v _ _ _ _ _ _ y (step k n before old c d ds x is more) there =
    at_kept v (k + 1) (before ++ x ∷ []) ds n d old y more (Contains-append_left before (x ∷ []) y there)

pub item_same : (k : ℕ) (ds : Items) (n : ℕ) (a b : Data) → IsItem k ds n a → IsItem k ds n b → a ≡ b
item_same k no_items n a b is_a is_b = absurd (none_here k n a is_a)
item_same k (item d ds) n a b is_a is_b = elim (behind k n d ds a is_a) [
  | inl first ↦ elim (behind k n d ds b is_b) [
    | inl too ↦ first.1 ∙ sym too.1
    | inr more ↦ let least = after (k + 1) ds n b more in let same = first.0 in absurd (omega arith)
  ]
  | inr more_a ↦ elim (behind k n d ds b is_b) [
    | inl first ↦ let least = after (k + 1) ds n a more_a in let same = first.0 in absurd (omega arith)
    | inr more_b ↦ item_same (k + 1) ds n a b more_a more_b
  ]
]

-- where reading stops
pub walk_err : (v k : ℕ) (before : List FrameType) (ds : Items) (f : DictFault) → entries_of v k before ds ≡ Err f
    → (n : ℕ) × (d : Data) × (old : List FrameType) × At v k before ds n d old × (entry_of v n old d ≡ Err f)
unfolding entries_of
walk_err v k before no_items f h = cc
walk_err v k before (item d ds) f h = elim (then_err (entry_of v k before d) _ f h) [
  | inl a ↦ (k, d, before, stand k before d ds, a)
  | inr (x, is, h1) ↦
      let (n, e, old, at, failed) = walk_err v (k + 1) (before ++ x ∷ []) ds f h1 in
      (n, e, old, step k n before old d e ds x is at, failed)
]

kept_all : (v k : ℕ) (before : List FrameType) (ds : Items) (es : List FrameType) (x : FrameType) →
    entries_of v k before ds ≡ Ok es → Contains before x → Contains es x
unfolding entries_of
kept_all v k before no_items es x h there = let same : before ≡ es = cc in rw (← same) there
kept_all v k before (item d ds) es x h there =
    let (y, is, h1) = then_ok (entry_of v k before d) _ es h in
    kept_all v (k + 1) (before ++ y ∷ []) ds es x h1 (Contains-append_left before (y ∷ []) x there)

-- each item is read, and its entry is there
pub walk_ok : (v k : ℕ) (before : List FrameType) (ds : Items) (es : List FrameType) (n : ℕ) (d : Data) →
    entries_of v k before ds ≡ Ok es → IsItem k ds n d
    → (old : List FrameType) × (x : FrameType) × At v k before ds n d old × (entry_of v n old d ≡ Ok x) × Contains es x
unfolding entries_of
walk_ok v _ before _ es _ _ h (here k d ds) =
    let (x, is, h1) = then_ok (entry_of v k before d) _ es h in
    (before, x, stand k before d ds, is, kept_all v (k + 1) (before ++ x ∷ []) ds es x h1 (Contains-push before x))
walk_ok v _ before _ es _ _ h (later k n c d ds more) =
    let (x, is, h1) = then_ok (entry_of v k before c) _ es h in
    let (old, y, at, read, there) = walk_ok v (k + 1) (before ++ x ∷ []) ds es n d h1 more in
    (old, y, step k n before old c d ds x is at, read, there)

-- each earlier item is read, and its entry is among the old ones
pub earlier : (v k : ℕ) (before : List FrameType) (ds : Items) (n : ℕ) (d : Data) (old : List FrameType) (m : ℕ)
    (c : Data) → At v k before ds n d old → m < n → IsItem k ds m c
    → (older : List FrameType) × (x : FrameType) × At v k before ds m c older × (entry_of v m older c ≡ Ok x)
    × Contains old x
earlier v _ _ _ _ _ _ m c (stand k before d ds) less is = let least = after k (item d ds) m c is in absurd (omega arith)
earlier v _ _ _ _ _ _ m c (step k n before old b d ds x read more) less is = elim (behind k m b ds c is) [
  | inl first ↦
      let moved = subst (λ (e : Data). At v k before (item b ds) k e before) (sym first.1) (stand k before b ds) in
      let placed = subst (λ (i : ℕ). At v k before (item b ds) i c before) (sym first.0) moved in
      let kept = at_kept v (k + 1) (before ++ x ∷ []) ds n d old x more (Contains-push before x) in
      let read_c : entry_of v m before c ≡ Ok x = ap (λ (i : ℕ). entry_of v i before c) first.0
      ∙ ap (entry_of v k before) first.1 ∙ read in
      (before, x, placed, read_c, kept)
  | inr is_c ↦
      let (older, y, at, read_y, there) = earlier v (k + 1) (before ++ x ∷ []) ds n d old m c more less is_c in
      (older, y, step k m before older b c ds x read at, read_y, there)
]

-- each of the old entries was before, or is read from an earlier item
pub origin : (v k : ℕ) (before : List FrameType) (ds : Items) (n : ℕ) (d : Data) (old : List FrameType)
    (y : FrameType) → At v k before ds n d old → Contains old y
    → Contains before y ⊎ ((m : ℕ) × (c : Data) × (older : List FrameType) × (m < n) × IsItem k ds m c
    × (entry_of v m older c ≡ Ok y))
origin v _ _ _ _ _ _ y (stand k before d ds) there = inl there
origin v _ _ _ _ _ _ y (step k n before old b d ds x read more) there =
    elim (origin v (k + 1) (before ++ x ∷ []) ds n d old y more there) [
      | inl front ↦ elim (Contains-push_cases before x y front) [
        | inl first ↦ inl first
        | inr same ↦
            let least = after (k + 1) ds n d (at_item v (k + 1) (before ++ x ∷ []) ds n d old more) in
            inr (k, b, before, omega arith, here k b ds, read ∙ ap Ok same)
      ]
      | inr (m, c, older, less, is, read_y) ↦ inr (m, c, older, less, later k m b c ds is, read_y)
    ]

-- each entry of all was before, or is read from an item
pub origin_all : (v k : ℕ) (before : List FrameType) (ds : Items) (es : List FrameType) (y : FrameType) →
    entries_of v k before ds ≡ Ok es → Contains es y
    → Contains before y ⊎ ((m : ℕ) × (c : Data) × (older : List FrameType) × IsItem k ds m c
    × (entry_of v m older c ≡ Ok y))
unfolding entries_of
origin_all v k before no_items es y h there = let same : before ≡ es = cc in inl (rw same there)
origin_all v k before (item d ds) es y h there =
    let (x, is, h1) = then_ok (entry_of v k before d) _ es h in
    elim (origin_all v (k + 1) (before ++ x ∷ []) ds es y h1 there) [
      | inl front ↦ elim (Contains-push_cases before x y front) [
        | inl first ↦ inl first
        | inr same ↦ inr (k, d, before, here k d ds, is ∙ ap Ok same)
      ]
      | inr (m, c, older, is_c, read) ↦ inr (m, c, older, later k m d c ds is_c, read)
    ]

-- the entries that are read are those that the items say
pub walk_said : (v k : ℕ) (before : List FrameType) (ds : Items) (es : List FrameType) →
    entries_of v k before ds ≡ Ok es
    → (tail : List FrameType) × (before ++ tail ≡ es) × AreSaid v ds tail
unfolding entries_of
walk_said v k before no_items es h = ([], append-nil before ∙ (let same : before ≡ es = cc in same), no_more)
walk_said v k before (item d ds) es h =
    let (x, is, h1) = then_ok (entry_of v k before d) _ es h in
    let (tail, same, said) = walk_said v (k + 1) (before ++ x ∷ []) ds es h1 in (
      x ∷ tail,
      sym (append_assoc before (x ∷ []) tail) ∙ same,
      one_more d ds x tail (read_says v k before d x (entry_read v k before d x is)) said,
    )

-- an entry of a type
pub has_one : (t : ℕ) (es : List FrameType) → has_type t es ≡ true → (x : FrameType) × Contains es x × (x.ftype ≡ t)
has_one t es h =
    let one = Any-from_list_any (λ (e : FrameType). e.ftype == t) es h in
    let typed : one.1.ftype ≡ t = let test = one.4 in grind (arith, nat_tests) in
    (one.1, (one.0, one.2, one.3), typed)

pub has_this : (t : ℕ) (es : List FrameType) (x : FrameType) → Contains es x → x.ftype ≡ t → has_type t es ≡ true
has_this t es x there same =
    let typed : (x.ftype == t) ≡ true = grind (arith, nat_tests) in
    list_any_at (λ (e : FrameType). e.ftype == t) es there.0 x there.1
    (ap (λ (e : FrameType). e.ftype == t) there.2 ∙ typed)

-- what is read at an item has the type that the item says
pub typed_as : (v n t : ℕ) (before : List FrameType) (d : Data) (x : FrameType) → entry_of v n before d ≡ Ok x →
    HasNumber 256 (codes "type") d t → x.ftype ≡ t
typed_as v n t before d x read typed =
    let some = sym (entry_read v n before d x read).ftype ∙ says_number 256 (codes "type") d t typed in cc

pub type_said : (v n : ℕ) (before : List FrameType) (d : Data) (x : FrameType) → entry_of v n before d ≡ Ok x →
    HasNumber 256 (codes "type") d x.ftype
type_said v n before d x read = number_says 256 (codes "type") d x.ftype (entry_read v n before d x read).ftype

-- the old entries have a type exactly if an earlier item has it
none_twice : (v t : ℕ) (ds : Items) (n : ℕ) (d : Data) (old : List FrameType) → At v 1 [] ds n d old →
    has_type t old ≡ false
    → (m : ℕ) (c : Data) → m < n → IsItem 1 ds m c → HasNumber 256 (codes "type") c t → ⊥
none_twice v t ds n d old at free m c less is typed =
    let (older, x, at_x, read, there) = earlier v 1 [] ds n d old m c at less is in
    let has = has_this t old x there (typed_as v m t older c x read typed) in cc

some_twice : (v : ℕ) (ds : Items) (n : ℕ) (d : Data) (old : List FrameType) → At v 1 [] ds n d old → (t : ℕ) →
    has_type t old ≡ true
    → (m : ℕ) × (c : Data) × (m < n) × IsItem 1 ds m c × HasNumber 256 (codes "type") c t
some_twice v ds n d old at t has =
    let (y, there, typed) = has_one t old has in
    elim (origin v 1 [] ds n d old y at there) [
      | inl front ↦ absurd (omega (arith, front.1))
      | inr (m, c, older, less, is, read) ↦ (
        m,
        c,
        less,
        is,
        subst (HasNumber 256 (codes "type") c) typed (type_said v m older c y read),
      )
    ]

-- an item that is read has no row
pub item_good : (v : ℕ) (ds : Items) (n : ℕ) (d : Data) (old : List FrameType) (x : FrameType) (c : ℕ) (g : DictFault) →
    At v 1 [] ds n d old → entry_of v n old d ≡ Ok x
    → IsEntryRow v ds n d c g → ⊥
item_good v ds n d old x c g at read row =
    let r = entry_read v n old d x read in
    row_not v n ds d c g row (read_columns v n old ds d x r (none_twice v x.ftype ds n d old at r.free) c)

-- an item that is not read has a first one
pub item_refused : (v : ℕ) (ds : Items) (n : ℕ) (d : Data) (old : List FrameType) (f : DictFault) →
    At v 1 [] ds n d old → entry_of v n old d ≡ Err f → IsRefused v n ds d f
item_refused v ds n d old f at failed = entry_refused v n old ds d f (some_twice v ds n d old at) failed

-- the first entry that passes a test, and its item
find_more : (p : FrameType → Bool) (xs ys : List FrameType) → find p xs ≡ None → find p (xs ++ ys) ≡ find p ys
find_more p [] ys h = refl
find_more p (x ∷ xs) ys h =
    elim (p x) as (λ b. cond b (Some x) (find p xs) ≡ None → cond b (Some x) (find p (xs ++ ys)) ≡ find p ys) [
      | true ↦ λ g. cc
      | false ↦ λ g. find_more p xs ys g
    ] h

pub find_none : (p : FrameType → Bool) (xs : List FrameType) (y : FrameType) → find p xs ≡ None → Contains xs y →
    p y ≡ false
find_none p [] y h there = absurd (omega (arith, there.1))
find_none p (x ∷ xs) y h there =
    elim (p x) as (λ b. b ≡ p x → cond b (Some x) (find p xs) ≡ None → p y ≡ false) [
      | true ↦ λ is g. cc
      | false ↦ λ is g. elim (front_or x xs y there) [
        | inl same ↦ ap p (sym same) ∙ sym is
        | inr more ↦ find_none p xs y g more
      ]
    ] refl h

pub walk_find : (v k : ℕ) (before : List FrameType) (ds : Items) (es : List FrameType) (p : FrameType → Bool)
    (x : FrameType) → entries_of v k before ds ≡ Ok es
    → find p before ≡ None → find p es ≡ Some x → (n : ℕ) × (d : Data) × (old : List FrameType)
    × At v k before ds n d old × (entry_of v n old d ≡ Ok x) × (p x ≡ true) × (find p old ≡ None)
unfolding entries_of
walk_find v k before no_items es p x h unfound found = let same : before ≡ es = cc in let both = ap (find p) same in cc
walk_find v k before (item d ds) es p x h unfound found =
    let (y, is, h1) = then_ok (entry_of v k before d) _ es h in
    let (tail, same, said) = walk_said v (k + 1) (before ++ y ∷ []) ds es h1 in
    let whole : find p (y ∷ tail) ≡ Some x = sym (find_more p before (y ∷ tail) unfound)
    ∙ ap (find p) (sym (append_assoc before (y ∷ []) tail) ∙ same) ∙ found in
    elim (p y) as (λ b. b ≡ p y → cond b (Some y) (find p tail) ≡ Some x
    → (n : ℕ) × (e : Data) × (old : List FrameType) × At v k before (item d ds) n e old × (entry_of v n old e ≡ Ok x)
    × (p x ≡ true) × (find p old ≡ None)) [
      | true ↦ λ passes g.
          let is_x : y ≡ x = cc in
          (k, d, before, stand k before d ds, is ∙ ap Ok is_x, ap p (sym is_x) ∙ sym passes, unfound)
      | false ↦ λ passes g.
          let alone : find p (y ∷ []) ≡ None = rw (← passes) refl in
          let (n, e, old, at, read, test, none) =
          walk_find v (k + 1) (before ++ y ∷ []) ds es p x h1 (find_more p before (y ∷ []) unfound ∙ alone) found in
          (n, e, old, step k n before old d e ds y is at, read, test, none)
    ] refl whole
