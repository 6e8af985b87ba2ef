-- What an item that is read says, and the first column that refuses one that is not.
use Rattle.std.proofs.Common.{◌≡◌, ◌≢◌, ℕ, ◌<◌, List, zero, suc, inl, inr, codes, refl, sym, ◌∙◌, ap, subst, arith, Ok}
use Rattle.std.proofs.Common.{Err, Option, Some, None, Bool, true, false}
use borrow.Author.Count.{below_none, below_more}
use Rattle.toml.specs.Data.{Data, boolean, Items, get}
use Rattle.bus_dictionary.specs.declared.fault.DictFault.{DictFault}
use Rattle.bus_dictionary.specs.declared.fault.DictFault.TheVariants.{BadType, BadName, BadLength, BadAnswered}
use Rattle.bus_dictionary.specs.declared.fault.DictFault.TheVariants.{BadWindow, TwiceType}
use Rattle.bus_dictionary.specs.DictFault.{need}
use Rattle.bus_dictionary.specs.BitName.{NamedBit, name_at, entry_bits}
use Rattle.bus_dictionary.specs.Entry.{FrameType, type_at, size_at, answered_in, window_in, has_type, entry_of}
use Rattle.bus_dictionary.specs.Says.{IsItem, HasNumber, Says}
use Rattle.bus_dictionary.specs.FaultTable.{IsEntryRow, bad_type, bad_name, bad_length, bad_answered, answered_answer}
use Rattle.bus_dictionary.specs.FaultTable.{bad_window, window_of_none, bad_bits, bad_bit, twice_type}
use Rattle.bus_dictionary.proofs.BitNameLemmas.{then_ok, need_ok, unless_ok, bits_in_ok}
use Rattle.bus_dictionary.proofs.SaysLemmas.{number_says, says_number, number_not, name_says, name_not, answered_says}
use Rattle.bus_dictionary.proofs.SaysLemmas.{no_truth, high_truth, answered_not, window_says, window_not, bad_window_in}
use Rattle.bus_dictionary.proofs.SaysLemmas.{lone_window_in}
use Rattle.bus_dictionary.proofs.FaultTableBitLemmas.{then_err, need_err, unless_err, bits_in_err, bits_in_array}
use Rattle.bus_dictionary.proofs.FaultTableBitLemmas.{bits_in_good, bits_said}

-- the steps of an item that is read
pub record IsRead (v n : ℕ) (before : List FrameType) (d : Data) (e : FrameType) : Type 0 where
  pub ftype : type_at d ≡ Some e.ftype
  pub name : name_at d ≡ Some e.name
  pub size : size_at d ≡ Some e.size
  pub answered : answered_in e.ftype (get (codes "answered") d) ≡ Some e.answered
  pub window : window_in v e.answered (get (codes "window") d) ≡ Some e.window
  pub bits : entry_bits n e.size (get (codes "bits") d) ≡ Ok e.bits
  pub free : has_type e.ftype before ≡ false

pub entry_read : (v n : ℕ) (before : List FrameType) (d : Data) (e : FrameType) → entry_of v n before d ≡ Ok e →
    IsRead v n before d e
unfolding entry_of
entry_read v n before d e h =
    let (t, is_type, h1) = then_ok (need (type_at d) (BadType n)) _ e h in
    let (name, is_named, h2) = then_ok (need (name_at d) (BadName n)) _ e h1 in
    let (size, is_size, h3) = then_ok (need (size_at d) (BadLength n)) _ e h2 in
    let (answered, is_answered, h4) =
    then_ok (need (answered_in t (get (codes "answered") d)) (BadAnswered n)) _ e h3 in
    let (window, is_window, h5) = then_ok (need (window_in v answered (get (codes "window") d)) (BadWindow n)) _ e h4 in
    let (bits, are_bits, h6) = then_ok (entry_bits n size (get (codes "bits") d)) _ e h5 in
    let (free, is) = unless_ok (has_type t before) (TwiceType t) _ e h6 in
    let steps :
    IsRead v n before d
    (record { ftype = t; name = name; size = size; answered = answered; window = window; bits = bits }) = record {
      ftype = need_ok _ (BadType n) t is_type;
      name = need_ok _ (BadName n) name is_named;
      size = need_ok _ (BadLength n) size is_size;
      answered = need_ok _ (BadAnswered n) answered is_answered;
      window = need_ok _ (BadWindow n) window is_window;
      bits = are_bits;
      free = free;
    } in
    subst (λ (x : FrameType). IsRead v n before d x) is steps

pub read_says : (v n : ℕ) (before : List FrameType) (d : Data) (e : FrameType) → IsRead v n before d e → Says v d e
read_says v n before d e r = record {
  ftype = number_says 256 (codes "type") d e.ftype r.ftype;
  name = name_says d e.name r.name;
  size = number_says 254 (codes "length") d e.size r.size;
  answered = answered_says e.ftype (get (codes "answered") d) e.answered r.answered;
  window = window_says v e.answered (get (codes "window") d) e.window r.window;
  rising = (bits_in_ok n e.size (get (codes "bits") d) e.bits r.bits).rising;
  bits = λ b. bits_said n e.size d (get (codes "bits") d) e.bits b refl r.bits;
}

-- what it means that a column refuses nothing
abbrev pub Column : ℕ → ℕ → Items → Data → ℕ → Type 0
Column v n ds d zero = (t : ℕ) × (type_at d ≡ Some t)
Column v n ds d (suc zero) = (s : List ℕ) × (name_at d ≡ Some s)
Column v n ds d (suc (suc zero)) = (l : ℕ) × (size_at d ≡ Some l)
Column v n ds d (suc (suc (suc zero))) = (t : ℕ) × (a : Bool) × (type_at d ≡ Some t)
    × (answered_in t (get (codes "answered") d) ≡ Some a)
Column v n ds d (suc (suc (suc (suc zero)))) =
    (t : ℕ) × (a : Bool) × (u : Option ℕ) × (answered_in t (get (codes "answered") d) ≡ Some a)
    × (window_in v a (get (codes "window") d) ≡ Some u)
Column v n ds d (suc (suc (suc (suc (suc zero))))) =
    (l : ℕ) × (bits : List NamedBit) × (size_at d ≡ Some l) × (entry_bits n l (get (codes "bits") d) ≡ Ok bits)
Column v n ds d (suc (suc (suc (suc (suc (suc k)))))) =
    (m t : ℕ) (c : Data) → m < n → IsItem 1 ds m c → HasNumber 256 (codes "type") c t →
    HasNumber 256 (codes "type") d t → ⊥

lone : (v t : ℕ) (a : Bool) (u : Option ℕ) (d w : Data) → answered_in t (get (codes "answered") d) ≡ Some a →
    window_in v a (get (codes "window") d) ≡ Some u
    → v ≡ 2 → get (codes "window") d ≡ Some w → get (codes "answered") d ≢ Some (boolean true) → ⊥
lone v t true u d w marked windowed two is unmarked =
    unmarked ((answered_says t (get (codes "answered") d) true marked).0 refl)
lone v t false u d w marked windowed two is unmarked =
    let none = ap (window_in v false) is ∙ lone_window_in v w two in cc

pub row_not : (v n : ℕ) (ds : Items) (d : Data) (b : ℕ) (g : DictFault) → IsEntryRow v ds n d b g → Column v n ds d b →
    ⊥
row_not v n ds d _ _ (bad_type lacks) (t, is) = lacks t (number_says 256 (codes "type") d t is)
row_not v n ds d _ _ (bad_name lacks) (s, is) = lacks s (name_says d s is)
row_not v n ds d _ _ (bad_length lacks) (l, is) = lacks l (number_says 254 (codes "length") d l is)
row_not v n ds d _ _ (bad_answered a is lacks) (t, b, typed, marked) =
    let none = ap (answered_in t) is ∙ no_truth t a lacks in cc
row_not v n ds d _ _ (answered_answer s typed_s high is) (t, b, typed, marked) =
    let some = says_number 256 (codes "type") d s typed_s in
    let same : s ≡ t = let twice = sym some ∙ typed in cc in
    let none = ap (answered_in t) is ∙ high_truth t (omega arith) in cc
row_not v n ds d _ _ (bad_window w two is lacks) (t, a, u, marked, windowed) =
    let none = ap (window_in v a) is ∙ bad_window_in v a w two lacks in cc
row_not v n ds d _ _ (window_of_none w two is unmarked) (t, a, u, marked, windowed) =
    lone v t a u d w marked windowed two is unmarked
row_not v n ds d _ _ (bad_bits b is lacks) (l, bits, sized, are) =
    bits_in_array n l (get (codes "bits") d) bits b are is lacks
row_not v n ds d _ _ (bad_bit size ms sized_s is row) (l, bits, sized, are) =
    let some = says_number 254 (codes "length") d size sized_s in
    let same : size ≡ l = let twice = sym some ∙ sized in cc in
    bits_in_good n size (get (codes "bits") d) bits ms
    (ap (λ (x : ℕ). entry_bits n x (get (codes "bits") d)) same ∙ are)
    is row
row_not v n ds d _ _ (twice_type m t c less is_c typed_c typed) free = free m t c less is_c typed_c typed

-- every column of an item that is read
pub read_columns : (v n : ℕ) (before : List FrameType) (ds : Items) (d : Data) (e : FrameType) → IsRead v n before d e
    → ((m : ℕ) (c : Data) → m < n → IsItem 1 ds m c → HasNumber 256 (codes "type") c e.ftype → ⊥) → (b : ℕ) →
    Column v n ds d b
read_columns v n before ds d e r free zero = (e.ftype, r.ftype)
read_columns v n before ds d e r free (suc zero) = (e.name, r.name)
read_columns v n before ds d e r free (suc (suc zero)) = (e.size, r.size)
read_columns v n before ds d e r free (suc (suc (suc zero))) = (e.ftype, e.answered, r.ftype, r.answered)
read_columns v n before ds d e r free (suc (suc (suc (suc zero)))) =
    (e.ftype, e.answered, e.window, r.answered, r.window)
read_columns v n before ds d e r free (suc (suc (suc (suc (suc zero))))) = (e.size, e.bits, r.size, r.bits)
read_columns v n before ds d e r free (suc (suc (suc (suc (suc (suc k)))))) = λ m t c less is typed_c typed.
    let some = says_number 256 (codes "type") d t typed in
    let same : t ≡ e.ftype = let twice = sym some ∙ r.ftype in cc in
    free m c less is (subst (HasNumber 256 (codes "type") c) same typed_c)

-- the row of an item that is not read, and no column before it refuses
abbrev pub IsRefused : ℕ → ℕ → Items → Data → DictFault → Type 0
IsRefused v n ds d f = (c : ℕ) × IsEntryRow v ds n d c f × ((b : ℕ) → b < c → Column v n ds d b)

unmarked : (t : ℕ) (d : Data) → answered_in t (get (codes "answered") d) ≡ Some false →
    get (codes "answered") d ≢ Some (boolean true)
unmarked t d marked is = let yes = (answered_says t (get (codes "answered") d) false marked).1 is in cc

answered_row : (v n t : ℕ) (ds : Items) (d : Data) → type_at d ≡ Some t →
    answered_in t (get (codes "answered") d) ≡ None → IsEntryRow v ds n d 3 (BadAnswered n)
answered_row v n t ds d typed none = elim (answered_not t (get (codes "answered") d) none) [
  | inl (a, is, lacks) ↦ bad_answered a is lacks
  | inr (high, is) ↦ answered_answer t (number_says 256 (codes "type") d t typed) high is
]

window_row : (v n t : ℕ) (a : Bool) (ds : Items) (d : Data) → answered_in t (get (codes "answered") d) ≡ Some a →
    window_in v a (get (codes "window") d) ≡ None → IsEntryRow v ds n d 4 (BadWindow n)
window_row v n t a ds d marked none =
    let (two, w, is, why) = window_not v a (get (codes "window") d) none in
    elim why [
      | inl lone ↦ window_of_none w two is (unmarked t d (marked ∙ ap (λ (x : Bool). Some x) lone))
      | inr lacks ↦ bad_window w two is lacks
    ]

pub entry_refused : (v n : ℕ) (before : List FrameType) (ds : Items) (d : Data) (f : DictFault)
    → ((t : ℕ) → has_type t before ≡ true → (m : ℕ) × (c : Data) × (m < n) × IsItem 1 ds m c
    × HasNumber 256 (codes "type") c t)
    → entry_of v n before d ≡ Err f → IsRefused v n ds d f
unfolding entry_of
entry_refused v n before ds d f taken h =
    let P = Column v n ds d in
    elim (then_err (need (type_at d) (BadType n)) _ f h) [
      | inl a ↦ let (none, is) = need_err (type_at d) (BadType n) f a in
          (0, subst (IsEntryRow v ds n d 0) is (bad_type (number_not 256 (codes "type") d none)), below_none P)
      | inr (t, is_type, h1) ↦
          let typed = need_ok _ (BadType n) t is_type in
          let p1 = below_more P 0 (below_none P) (t, typed) in
          elim (then_err (need (name_at d) (BadName n)) _ f h1) [
            | inl a ↦ let (none, is) = need_err (name_at d) (BadName n) f a in
                (1, subst (IsEntryRow v ds n d 1) is (bad_name (name_not d none)), p1)
            | inr (name, is_named, h2) ↦
                let p2 = below_more P 1 p1 (name, need_ok _ (BadName n) name is_named) in
                elim (then_err (need (size_at d) (BadLength n)) _ f h2) [
                  | inl a ↦ let (none, is) = need_err (size_at d) (BadLength n) f a in
                      (2, subst (IsEntryRow v ds n d 2) is (bad_length (number_not 254 (codes "length") d none)), p2)
                  | inr (size, is_size, h3) ↦
                      let sized = need_ok _ (BadLength n) size is_size in
                      let p3 = below_more P 2 p2 (size, sized) in
                      elim (then_err (need (answered_in t (get (codes "answered") d)) (BadAnswered n)) _ f h3) [
                        | inl a ↦ let (none, is) =
                            need_err (answered_in t (get (codes "answered") d)) (BadAnswered n) f a in
                            (3, subst (IsEntryRow v ds n d 3) is (answered_row v n t ds d typed none), p3)
                        | inr (answered, is_answered, h4) ↦
                            let marked = need_ok _ (BadAnswered n) answered is_answered in
                            let p4 = below_more P 3 p3 (t, answered, typed, marked) in
                            let found = window_in v answered (get (codes "window") d) in
                            elim (then_err (need found (BadWindow n)) _ f h4) [
                              | inl a ↦ let (none, is) =
                                  need_err (window_in v answered (get (codes "window") d)) (BadWindow n) f a in
                                  (4, subst (IsEntryRow v ds n d 4) is (window_row v n t answered ds d marked none), p4)
                              | inr (window, is_window, h5) ↦
                                  let p5 =
                                  below_more P 4 p4 (
                                    t,
                                    answered,
                                    window,
                                    marked,
                                    need_ok _ (BadWindow n) window is_window,
                                  ) in
                                  elim (then_err (entry_bits n size (get (codes "bits") d)) _ f h5) [
                                    | inl a ↦ let (is, fault) = bits_in_err n size (get (codes "bits") d) f a in (
                                      5,
                                      subst (IsEntryRow v ds n d 5) is (elim fault [
                                        | inl (b, there, lacks) ↦ bad_bits b there lacks
                                        | inr (ms, there, row) ↦ bad_bit size ms
                                            (number_says 254 (codes "length") d size sized) there row
                                      ]),
                                      p5,
                                    )
                                    | inr (bits, are_bits, h6) ↦
                                        let (has, is) = unless_err (has_type t before) (TwiceType t) f _ h6 in
                                        let (m, c, less, is_c, typed_c) = taken t has in (
                                          6,
                                          subst (IsEntryRow v ds n d 6) is
                                              (twice_type m t c less is_c typed_c
                                              (number_says 256 (codes "type") d t typed)),
                                          below_more P 5 p5 (size, bits, sized, are_bits),
                                        )
                                  ]
                            ]
                      ]
                ]
          ]
    ]
