-- The fault of a document is its first row, and a dictionary's document has none.
use Rattle.std.proofs.Common.{◌≡◌, ◌≢◌, ℕ, ◌+◌, ◌<◌, ◌&&◌, not, List, [], zero, suc, ◌⊎◌, inl, inr, codes, find, refl}
use Rattle.std.proofs.Common.{sym, ◌∙◌, ap, subst, arith, Result, Ok, Err, Option, Some, None, Bool, true, false, IsOk}
use Rattle.std.proofs.Common.{◌↔◌}
use Rattle.toml.specs.Data.{Data, boolean, array, Items, item, Members, table, get}
use Rattle.toml.specs.Parse.{parse_document}
use Rattle.bus_dictionary.specs.declared.fault.DictFault.{DictFault}
use Rattle.bus_dictionary.specs.declared.fault.DictFault.TheVariants.{Version, NoFrames, BadType, BadName, BadLength}
use Rattle.bus_dictionary.specs.declared.fault.DictFault.TheVariants.{BadAnswered, BadWindow, BadBit, TwiceType}
use Rattle.bus_dictionary.specs.declared.fault.DictFault.TheVariants.{NoAnswerEntry}
use Rattle.bus_dictionary.specs.DictFault.{Gives, need}
use Rattle.bus_dictionary.specs.Entry.{FrameType, type_at, has_type, entry_of}
use Rattle.bus_dictionary.specs.Dictionary.{version_at, frames_at, entries_of, lacks_answer, refuse_lacking}
use Rattle.bus_dictionary.specs.Dictionary.{if_answered, dictionary_of, document_of, dictionary_of_text}
use Rattle.bus_dictionary.specs.Says.{IsItem, HasVersion, HasNumber, IsValue}
use Rattle.bus_dictionary.specs.FaultTable.{IsEntryRow, bad_type, bad_name, bad_length, bad_answered, answered_answer}
use Rattle.bus_dictionary.specs.FaultTable.{bad_window, window_of_none, bad_bits, bad_bit, twice_type, Rank, rank}
use Rattle.bus_dictionary.specs.FaultTable.{IsBefore, by_part, by_entry, by_column, IsRow, no_version, no_frames}
use Rattle.bus_dictionary.specs.FaultTable.{in_entry, no_answer, IsFirstFault}
use Rattle.bus_dictionary.specs.DictionaryLaws.{IsRead, IsText, no_toml, faulty, sound}
use Rattle.bus_dictionary.proofs.BitNameLemmas.{then_ok, need_ok}
use Rattle.bus_dictionary.proofs.FaultTableBitLemmas.{then_err, need_err}
use Rattle.bus_dictionary.proofs.SaysLemmas.{says_number, version_says, version_not, frames_say, say_frames}
use Rattle.bus_dictionary.proofs.SaysLemmas.{no_frames_at, answered_says}
use Rattle.bus_dictionary.proofs.SaysUniqueLemmas.{same_version, same_number, value_is_one}
use Rattle.bus_dictionary.proofs.FaultTableEntryLemmas.{entry_read, Column, row_not}
use Rattle.bus_dictionary.proofs.DictionaryItemsLemmas.{At, at_item, item_same, walk_err, walk_ok, walk_said, walk_find}
use Rattle.bus_dictionary.proofs.DictionaryItemsLemmas.{earlier, origin_all, has_one, has_this, typed_as, type_said}
use Rattle.bus_dictionary.proofs.DictionaryItemsLemmas.{item_good, item_refused, find_none}

-- ranks
below_first : (r : Rank) → IsBefore r (rank 0 0 0) → ⊥
below_first r (by_part h) = omega arith
below_first r (by_entry p h) = omega arith
below_first r (by_column p e h) = omega arith

later_part : (a b : Rank) → b.part < a.part → IsBefore a b → ⊥
later_part a b less (by_part h) = omega arith
later_part a b less (by_entry p h) = omega arith
later_part a b less (by_column p e h) = omega arith

not_self : (r : Rank) → IsBefore r r → ⊥
not_self r (by_part h) = omega arith
not_self r (by_entry p h) = omega arith
not_self r (by_column p e h) = omega arith

in_part : (p m n b c : ℕ) → IsBefore (rank p m b) (rank p n c) → (m < n) ⊎ ((m ≡ n) × (b < c))
in_part p m n b c (by_part h) = absurd (omega arith)
in_part p m n b c (by_entry e h) = inl h
in_part p m n b c (by_column e f h) = inr (f, h)

nat_same : (m n : ℕ) → (m < n → ⊥) → (n < m → ⊥) → m ≡ n
nat_same m n a b = omega arith

rank_is : (p n c : ℕ) (r : Rank) → p ≡ r.part → n ≡ r.entry → c ≡ r.column → rank p n c ≡ r
rank_is p n c r h1 h2 h3 = rw (h1, h2, h3) refl

rank_same : (a b : Rank) → (IsBefore a b → ⊥) → (IsBefore b a → ⊥) → a ≡ b
rank_same a b f g =
    let part = nat_same a.part b.part (λ l. f (by_part l)) (λ l. g (by_part l)) in
    let entry = nat_same a.entry b.entry (λ l. f (by_entry part l)) (λ l. g (by_entry (sym part) l)) in
    let column = nat_same a.column b.column (λ l. f (by_column part entry l))
    (λ l. g (by_column (sym part) (sym entry) l)) in
    rank_is a.part a.entry a.column b part entry column

-- a rank has one fault
or_zero : Option ℕ → ℕ
or_zero None = 0
or_zero (Some t) = t

fault_at : ℕ → ℕ → ℕ → DictFault
fault_at t n zero = BadType n
fault_at t n (suc zero) = BadName n
fault_at t n (suc (suc zero)) = BadLength n
fault_at t n (suc (suc (suc zero))) = BadAnswered n
fault_at t n (suc (suc (suc (suc zero)))) = BadWindow n
fault_at t n (suc (suc (suc (suc (suc zero))))) = BadBit n
fault_at t n (suc (suc (suc (suc (suc (suc k)))))) = TwiceType t

entry_row_is : (v n : ℕ) (ds : Items) (e : Data) (c : ℕ) (f : DictFault) → IsEntryRow v ds n e c f →
    f ≡ fault_at (or_zero (type_at e)) n c
unfolding or_zero fault_at
entry_row_is v n ds e _ _ (bad_type lacks) = refl
entry_row_is v n ds e _ _ (bad_name lacks) = refl
entry_row_is v n ds e _ _ (bad_length lacks) = refl
entry_row_is v n ds e _ _ (bad_answered a is lacks) = refl
entry_row_is v n ds e _ _ (answered_answer t typed high is) = refl
entry_row_is v n ds e _ _ (bad_window w two is lacks) = refl
entry_row_is v n ds e _ _ (window_of_none w two is unmarked) = refl
entry_row_is v n ds e _ _ (bad_bits b is lacks) = refl
entry_row_is v n ds e _ _ (bad_bit size ms sized is row) = refl
entry_row_is v n ds e _ _ (twice_type m t c less is typed_c typed) =
    ap TwiceType (sym (ap or_zero (says_number 256 (codes "type") e t typed)))

frames_one : (d : Data) (ds es : Items) → get (codes "frame") d ≡ Some (array ds) →
    get (codes "frame") d ≡ Some (array es) → ds ≡ es
frames_one d ds es f g = let twice = sym f ∙ g in cc

entry_rows : (d : Data) (n c m b : ℕ) (ds es : Items) (a e : Data) (f g : DictFault) (v w : ℕ) →
    get (codes "frame") d ≡ Some (array ds) → get (codes "frame") d ≡ Some (array es)
    → IsItem 1 ds n a → IsItem 1 es m e → IsEntryRow v ds n a c f → IsEntryRow w es m e b g → n ≡ m → c ≡ b → f ≡ g
entry_rows d n c m b ds es a e f g v w is_ds is_es is_a is_e row_f row_g same_n same_c =
    let moved = subst (λ (x : Items). IsItem 1 x n a) (frames_one d ds es is_ds is_es) is_a in
    let same_e = item_same 1 es m a e (subst (λ (i : ℕ). IsItem 1 es i a) same_n moved) is_e in
    entry_row_is v n ds a c f row_f ∙ ap (λ (x : Data). fault_at (or_zero (type_at x)) n c) same_e
    ∙ ap (λ (i : ℕ). fault_at (or_zero (type_at e)) i c) same_n
    ∙ ap (fault_at (or_zero (type_at e)) m) same_c ∙ sym (entry_row_is w m es e b g row_g)

answer_rows : (d : Data) (n t m s : ℕ) (ds es : Items) (a e : Data) → get (codes "frame") d ≡ Some (array ds) →
    get (codes "frame") d ≡ Some (array es)
    → IsItem 1 ds n a → IsItem 1 es m e → HasNumber 256 (codes "type") a t → HasNumber 256 (codes "type") e s → n ≡ m →
    NoAnswerEntry t ≡ NoAnswerEntry s
answer_rows d n t m s ds es a e is_ds is_es is_a is_e typed_a typed_e same_n =
    let moved = subst (λ (x : Items). IsItem 1 x n a) (frames_one d ds es is_ds is_es) is_a in
    let same_e = item_same 1 es m a e (subst (λ (i : ℕ). IsItem 1 es i a) same_n moved) is_e in
    ap NoAnswerEntry
    (same_number 256 (codes "type") e t s (subst (λ (x : Data). HasNumber 256 (codes "type") x t) same_e typed_a)
    typed_e)

apart : (m n : ℕ) (A : Type 0) → m ≡ n → m < n → A
apart m n A same less = absurd (omega arith)

row_one : (d : Data) (r s : Rank) (f g : DictFault) → IsRow d r f → IsRow d s g → r ≡ s → f ≡ g
row_one d _ _ _ _ (no_version _) (no_version _) same = refl
row_one d _ _ _ _ (no_version _) (no_frames _) same = apart 0 1 _ (ap (λ (r : Rank). r.column) same) (omega arith)
row_one d _ _ _ _ (no_version _) (in_entry _ _ _ _ _ _ _ _ _ _) same =
    apart 0 1 _ (ap (λ (r : Rank). r.part) same) (omega arith)
row_one d _ _ _ _ (no_version _) (no_answer _ _ _ _ _ _ _ _ _) same =
    apart 0 2 _ (ap (λ (r : Rank). r.part) same) (omega arith)
row_one d _ _ _ _ (no_frames _) (no_version _) same = apart 0 1 _ (ap (λ (r : Rank). r.column) (sym same)) (omega arith)
row_one d _ _ _ _ (no_frames _) (no_frames _) same = refl
row_one d _ _ _ _ (no_frames _) (in_entry _ _ _ _ _ _ _ _ _ _) same =
    apart 0 1 _ (ap (λ (r : Rank). r.part) same) (omega arith)
row_one d _ _ _ _ (no_frames _) (no_answer _ _ _ _ _ _ _ _ _) same =
    apart 0 2 _ (ap (λ (r : Rank). r.part) same) (omega arith)
row_one d _ _ _ _ (in_entry _ _ _ _ _ _ _ _ _ _) (no_version _) same =
    apart 0 1 _ (ap (λ (r : Rank). r.part) (sym same)) (omega arith)
row_one d _ _ _ _ (in_entry _ _ _ _ _ _ _ _ _ _) (no_frames _) same =
    apart 0 1 _ (ap (λ (r : Rank). r.part) (sym same)) (omega arith)
row_one d _ _ _ _ (in_entry v n c ds a f hv hd is row) (in_entry w m b es e g hw he is_e row_e) same =
    entry_rows d n c m b ds es a e f g v w hd he is is_e row row_e (ap (λ (r : Rank). r.entry) same)
    (ap (λ (r : Rank). r.column) same)
row_one d _ _ _ _ (in_entry _ _ _ _ _ _ _ _ _ _) (no_answer _ _ _ _ _ _ _ _ _) same =
    apart 1 2 _ (ap (λ (r : Rank). r.part) same) (omega arith)
row_one d _ _ _ _ (no_answer _ _ _ _ _ _ _ _ _) (no_version _) same =
    apart 0 2 _ (ap (λ (r : Rank). r.part) (sym same)) (omega arith)
row_one d _ _ _ _ (no_answer _ _ _ _ _ _ _ _ _) (no_frames _) same =
    apart 0 2 _ (ap (λ (r : Rank). r.part) (sym same)) (omega arith)
row_one d _ _ _ _ (no_answer _ _ _ _ _ _ _ _ _) (in_entry _ _ _ _ _ _ _ _ _ _) same =
    apart 1 2 _ (ap (λ (r : Rank). r.part) (sym same)) (omega arith)
row_one d _ _ _ _ (no_answer n t ds a hd is typed _ _) (no_answer m s es e he is_e typed_e _ _) same =
    answer_rows d n t m s ds es a e hd he is is_e typed typed_e (ap (λ (r : Rank). r.entry) same)

pub first_is_one : (d : Data) (f g : DictFault) → IsFirstFault d f → IsFirstFault d g → f ≡ g
first_is_one d f g a b = row_one d a.place b.place f g a.row b.row
    (rank_same a.place b.place (λ less. b.first a.place f a.row less) (λ less. a.first b.place g b.row less))

-- rows of a document whose version and frames are known
abbrev IsThere : Data → ℕ → Items → Type 0
IsThere d v ds = HasVersion d v × (get (codes "frame") d ≡ Some (array ds)) × (frames_at d ≡ Some ds)

frames_there : (d : Data) (ds : Items) → frames_at d ≡ Some ds →
    ((e : Data) (es : Items) → get (codes "frame") d ≢ Some (array (item e es))) → ⊥
frames_there d ds some lacks = let none = no_frames_at d lacks in cc

moved_row : (d : Data) (v w n c : ℕ) (ds es : Items) (e : Data) (f : DictFault) → IsThere d v ds → HasVersion d w →
    get (codes "frame") d ≡ Some (array es)
    → IsItem 1 es n e → IsEntryRow w es n e c f → IsItem 1 ds n e × IsEntryRow v ds n e c f
moved_row d v w n c ds es e f known hw he is row =
    let versions = same_version d w v hw known.0 in
    let frames = frames_one d es ds he known.1 in
    let moved = subst (λ (x : ℕ). IsEntryRow x es n e c f) versions row in
    (subst (λ (x : Items). IsItem 1 x n e) frames is, subst (λ (x : Items). IsEntryRow v x n e c f) frames moved)

abbrev LacksType : Items → ℕ → Type 0
LacksType ds t = (m : ℕ) (a : Data) → IsItem 1 ds m a → HasNumber 256 (codes "type") a t → ⊥

answerless : (v t : ℕ) (ds : Items) (es : List FrameType) → entries_of v 1 [] ds ≡ Ok es → LacksType ds t →
    has_type t es ≡ false
answerless v t ds es read lacks = elim (has_type t es) as (λ b. b ≡ has_type t es → b ≡ false) [
  | true ↦ λ is.
      let (y, there, typed) = has_one t es (sym is) in
      elim (origin_all v 1 [] ds es y read there) [
        | inl front ↦ absurd (omega (arith, front.1))
        | inr (m, c, older, is_c, read_c) ↦
            absurd (lacks m c is_c (subst (HasNumber 256 (codes "type") c) typed (type_said v m older c y read_c)))
      ]
  | false ↦ λ is. refl
] refl

-- an entry whose item lacks its answer
lacking : (v n t : ℕ) (ds : Items) (es old : List FrameType) (e : Data) (y : FrameType) → entries_of v 1 [] ds ≡ Ok es →
    entry_of v n old e ≡ Ok y
    → HasNumber 256 (codes "type") e t → get (codes "answered") e ≡ Some (boolean true) → LacksType ds (t + 128) →
    lacks_answer es y ≡ true
lacking v n t ds es old e y all read typed is lacks =
    let same = typed_as v n t old e y read typed in
    let marked : y.answered ≡ true =
    (answered_says y.ftype (get (codes "answered") e) y.answered (entry_read v n old e y read).answered).1 is in
    let free : has_type (y.ftype + 128) es ≡ false =
    ap (λ (k : ℕ). has_type (k + 128) es) same ∙ answerless v (t + 128) ds es all lacks in
    rw (marked, free) refl

moved_lack : (d : Data) (v t : ℕ) (ds es : Items) → IsThere d v ds → get (codes "frame") d ≡ Some (array es) →
    LacksType es t → LacksType ds t
moved_lack d v t ds es known he lacks = subst (λ (x : Items). LacksType x t) (frames_one d es ds he known.1) lacks

moved_item : (d : Data) (v n : ℕ) (ds es : Items) (e : Data) → IsThere d v ds →
    get (codes "frame") d ≡ Some (array es) → IsItem 1 es n e → IsItem 1 ds n e
moved_item d v n ds es e known he is = subst (λ (x : Items). IsItem 1 x n e) (frames_one d es ds he known.1) is

-- a dictionary's document
rows_none : (d : Data) (v : ℕ) (ds : Items) (es : List FrameType) → IsThere d v ds → entries_of v 1 [] ds ≡ Ok es →
    find (lacks_answer es) es ≡ None
    → (r : Rank) (f : DictFault) → IsRow d r f → ⊥
rows_none d v ds es known read whole _ _ (no_version lacks) = lacks v known.0
rows_none d v ds es known read whole _ _ (no_frames lacks) = frames_there d ds known.2 lacks
rows_none d v ds es known read whole _ _ (in_entry w n c given e f hw he is row) =
    let (is_e, row_e) = moved_row d v w n c ds given e f known hw he is row in
    let (old, x, at, read_x, there) = walk_ok v 1 [] ds es n e read is_e in
    item_good v ds n e old x c f at read_x row_e
rows_none d v ds es known read whole _ _ (no_answer n t given e he is typed marked lacks) =
    let (old, x, at, read_x, there) = walk_ok v 1 [] ds es n e read (moved_item d v n ds given e known he is) in
    let not_lacking = find_none (lacks_answer es) es x whole there in
    let is_lacking = lacking v n t ds es old e x read read_x typed marked
    (moved_lack d v (t + 128) ds given known he lacks) in
    cc

-- the first row, stage by stage
first_version : (d : Data) → version_at d ≡ None → IsFirstFault d Version
first_version d none =
    record { place = rank 0 0 0; row = no_version (version_not d none); first = λ r g row less. below_first r less }

none_in_front : (d : Data) (v : ℕ) → HasVersion d v → (r : Rank) (g : DictFault) → IsRow d r g →
    IsBefore r (rank 0 0 1) → ⊥
none_in_front d v hv _ _ (no_version lacks) less = lacks v hv
none_in_front d v hv _ _ (no_frames lacks) less = not_self (rank 0 0 1) less
none_in_front d v hv _ _ (in_entry w n c ds e f hw he is row) less =
    later_part (rank 1 n c) (rank 0 0 1) (omega arith) less
none_in_front d v hv _ _ (no_answer n t ds e he is typed marked lacks) less =
    later_part (rank 2 n 0) (rank 0 0 1) (omega arith) less

frames_not : (d : Data) → frames_at d ≡ None → (e : Data) (ds : Items) →
    get (codes "frame") d ≢ Some (array (item e ds))
frames_not d none e ds is = let some = say_frames d e ds is in cc

first_frames : (d : Data) (v : ℕ) → HasVersion d v → frames_at d ≡ None → IsFirstFault d NoFrames
first_frames d v hv none =
    record { place = rank 0 0 1; row = no_frames (frames_not d none); first = none_in_front d v hv }

none_in_entry : (d : Data) (v : ℕ) (ds : Items) (n c : ℕ) (e : Data) (old : List FrameType) → IsThere d v ds →
    At v 1 [] ds n e old
    → ((b : ℕ) → b < c → Column v n ds e b) → (r : Rank) (g : DictFault) → IsRow d r g → IsBefore r (rank 1 n c) → ⊥
none_in_entry d v ds n c e old known at passed _ _ (no_version lacks) less = lacks v known.0
none_in_entry d v ds n c e old known at passed _ _ (no_frames lacks) less = frames_there d ds known.2 lacks
none_in_entry d v ds n c e old known at passed _ _ (in_entry w m b given a g hw ha is row) less =
    let (is_a, row_a) = moved_row d v w m b ds given a g known hw ha is row in
    elim (in_part 1 m n b c less) [
      | inl before ↦
          let (older, x, at_x, read, there) = earlier v 1 [] ds n e old m a at before is_a in
          item_good v ds m a older x b g at_x read row_a
      | inr (same, low) ↦
          let same_e = item_same 1 ds n a e (subst (λ (i : ℕ). IsItem 1 ds i a) same is_a)
          (at_item v 1 [] ds n e old at) in
          let here = subst (λ (i : ℕ). IsEntryRow v ds i a b g) same row_a in
          row_not v n ds e b g (subst (λ (x : Data). IsEntryRow v ds n x b g) same_e here) (passed b low)
    ]
none_in_entry d v ds n c e old known at passed _ _ (no_answer m t given a ha is typed marked lacks) less =
    later_part (rank 2 m 0) (rank 1 n c) (omega arith) less

none_in_answers : (d : Data) (v : ℕ) (ds : Items) (es : List FrameType) (n : ℕ) (e : Data) (old : List FrameType) →
    IsThere d v ds → entries_of v 1 [] ds ≡ Ok es → At v 1 [] ds n e old
    → find (lacks_answer es) old ≡ None → (r : Rank) (g : DictFault) → IsRow d r g → IsBefore r (rank 2 n 0) → ⊥
none_in_answers d v ds es n e old known read at unfound _ _ (no_version lacks) less = lacks v known.0
none_in_answers d v ds es n e old known read at unfound _ _ (no_frames lacks) less = frames_there d ds known.2 lacks
none_in_answers d v ds es n e old known read at unfound _ _ (in_entry w m b given a g hw ha is row) less =
    let (is_a, row_a) = moved_row d v w m b ds given a g known hw ha is row in
    let (older, x, at_x, read_x, there) = walk_ok v 1 [] ds es m a read is_a in
    item_good v ds m a older x b g at_x read_x row_a
none_in_answers d v ds es n e old known read at unfound _ _ (no_answer m t given a ha is typed marked lacks) less =
    elim (in_part 2 m n 0 0 less) [
      | inl before ↦
          let (older, x, at_x, read_x, there) =
          earlier v 1 [] ds n e old m a at before (moved_item d v m ds given a known ha is) in
          let not_lacking = find_none (lacks_answer es) old x unfound there in
          let is_lacking = lacking v m t ds es older a x read read_x typed marked
          (moved_lack d v (t + 128) ds given known ha lacks) in
          cc
      | inr (same, low) ↦ omega arith
    ]

parts : (answered has : Bool) → (answered && not has) ≡ true → (answered ≡ true) × (has ≡ false)
parts false has h = cc
parts true true h = cc
parts true false h = (refl, refl)

first_answer : (d : Data) (v : ℕ) (ds : Items) (es : List FrameType) (n : ℕ) (e : Data) (old : List FrameType)
    (x : FrameType) → IsThere d v ds → entries_of v 1 [] ds ≡ Ok es
    → At v 1 [] ds n e old → entry_of v n old e ≡ Ok x → lacks_answer es x ≡ true → find (lacks_answer es) old ≡ None →
    IsFirstFault d (NoAnswerEntry x.ftype)
first_answer d v ds es n e old x known read at read_x test unfound =
    let (marked, free) = parts x.answered (has_type (x.ftype + 128) es) test in
    let said = (answered_says x.ftype (get (codes "answered") e) x.answered (entry_read v n old e x read_x).answered).0
    marked in
    let lacks = λ (m : ℕ). λ (a : Data). λ (is : IsItem 1 ds m a).
    λ (typed : HasNumber 256 (codes "type") a (x.ftype + 128)).
    let (older, y, at_y, read_y, there) = walk_ok v 1 [] ds es m a read is in
    let has = has_this (x.ftype + 128) es y there (typed_as v m (x.ftype + 128) older a y read_y typed) in
    let never : ⊥ = cc in never in
    record {
      place = rank 2 n 0;
      row = no_answer n x.ftype ds e known.1 (at_item v 1 [] ds n e old at) (type_said v n old e x read_x) said lacks;
      first = none_in_answers d v ds es n e old known read at unfound;
    }

refused_err : (es : List FrameType) (o : Option FrameType) (f : DictFault) → refuse_lacking es o ≡ Err f →
    (e : FrameType) × (o ≡ Some e) × (NoAnswerEntry e.ftype ≡ f)
refused_err es None f h = cc
refused_err es (Some e) f h = (e, refl, cc)

refused_ok : (all : List FrameType) (o : Option FrameType) (es : List FrameType) → refuse_lacking all o ≡ Ok es →
    (o ≡ None) × (all ≡ es)
refused_ok all None es h = (refl, cc)
refused_ok all (Some e) es h = cc

pub fault_is_first : (d : Data) (f : DictFault) → dictionary_of d ≡ Err f → IsFirstFault d f
unfolding dictionary_of
fault_is_first d f h = elim (then_err (need (version_at d) Version) _ f h) [
  | inl a ↦ let (none, is) = need_err (version_at d) Version f a in subst (IsFirstFault d) is (first_version d none)
  | inr (v, is_version, h1) ↦
      let hv = version_says d v (need_ok _ Version v is_version) in
      elim (then_err (need (frames_at d) NoFrames) _ f h1) [
        | inl a ↦ let (none, is) =
            need_err (frames_at d) NoFrames f a in subst (IsFirstFault d) is (first_frames d v hv none)
        | inr (ds, are_frames, h2) ↦
            let some = need_ok _ NoFrames ds are_frames in
            let known : IsThere d v ds = (hv, frames_say d ds some, some) in
            elim (then_err (entries_of v 1 [] ds) if_answered f h2) [
              | inl a ↦
                  let (n, e, old, at, failed) = walk_err v 1 [] ds f a in
                  let (c, row, passed) = item_refused v ds n e old f at failed in
                  record {
                    place = rank 1 n c;
                    row = in_entry v n c ds e f hv known.1 (at_item v 1 [] ds n e old at) row;
                    first = none_in_entry d v ds n c e old known at passed;
                  }
              | inr (es, read, h3) ↦
                  let (x, found, is) = refused_err es (find (lacks_answer es) es) f h3 in
                  let (n, e, old, at, read_x, test, unfound) =
                  walk_find v 1 [] ds es (lacks_answer es) x read refl found in
                  subst (IsFirstFault d) is (first_answer d v ds es n e old x known read at read_x test unfound)
            ]
      ]
]

pub dictionary_is_said : (d : Data) (es : List FrameType) → dictionary_of d ≡ Ok es →
    IsValue d es × ((r : Rank) (f : DictFault) → IsRow d r f → ⊥)
unfolding dictionary_of
dictionary_is_said d es h =
    let (v, is_version, h1) = then_ok (need (version_at d) Version) _ es h in
    let (ds, are_frames, h2) = then_ok (need (frames_at d) NoFrames) _ es h1 in
    let (all, read, h3) = then_ok (entries_of v 1 [] ds) _ es h2 in
    let (whole, same) = refused_ok all (find (lacks_answer all) all) es h3 in
    let hv = version_says d v (need_ok _ Version v is_version) in
    let some = need_ok _ NoFrames ds are_frames in
    let known : IsThere d v ds = (hv, frames_say d ds some, some) in
    let (tail, is_tail, said) = walk_said v 1 [] ds all read in
    let value : IsValue d tail =
    record { version = v; frames = ds; is_version = hv; are_frames = known.1; entries = said } in
    (subst (IsValue d) (is_tail ∙ same) value, rows_none d v ds all known read whole)

ok_if : (d : Data) (es : List FrameType) (r : Result (List FrameType) DictFault) → dictionary_of d ≡ r → IsValue d es →
    ((s : Rank) (f : DictFault) → IsRow d s f → ⊥) → r ≡ Ok es
ok_if d es (Ok fs) is value lacks = ap Ok (value_is_one d fs es (dictionary_is_said d fs is).0 value)
ok_if d es (Err f) is value lacks = let first = fault_is_first d f is in absurd (lacks first.place f first.row)

pub dictionary_iff : (d : Data) (es : List FrameType) →
    (dictionary_of d ≡ Ok es) ↔ (IsValue d es × ((r : Rank) (f : DictFault) → IsRow d r f → ⊥))
dictionary_iff d es = (λ is. dictionary_is_said d es is, λ said. ok_if d es (dictionary_of d) refl said.0 said.1)

err_if : (d : Data) (f : DictFault) (r : Result (List FrameType) DictFault) → dictionary_of d ≡ r → IsFirstFault d f →
    r ≡ Err f
err_if d f (Ok es) is first = absurd ((dictionary_is_said d es is).1 first.place f first.row)
err_if d f (Err g) is first = ap Err (first_is_one d g f (fault_is_first d g is) first)

pub fault_iff : (d : Data) (f : DictFault) → (dictionary_of d ≡ Err f) ↔ IsFirstFault d f
fault_iff d f = (λ is. fault_is_first d f is, λ first. err_if d f (dictionary_of d) refl first)

is_ok : {A : Type 0} (r : Result A DictFault) → IsOk r → (x : A) × (r ≡ Ok x)
is_ok (Ok x) h = (x, refl)
is_ok (Err e) h = cc

ok_unless : {A : Type 0} (r : Result A DictFault) → ((f : DictFault) → r ≡ Err f → ⊥) → IsOk r
ok_unless (Ok x) h = refl
ok_unless (Err e) h = absurd (h e refl)

pub sound_iff : (d : Data) → IsOk (dictionary_of d) ↔ ((r : Rank) (f : DictFault) → IsRow d r f → ⊥)
sound_iff d = (
  λ ok. let (es, is) = is_ok (dictionary_of d) ok in (dictionary_is_said d es is).1,
  λ lacks. ok_unless (dictionary_of d) (λ f is. let first = fault_is_first d f is in lacks first.place f first.row),
)

-- texts
text_is : (text : List ℕ) (o : Option Members) (r : Result (List FrameType) DictFault) → parse_document text ≡ o →
    document_of o ≡ r → IsText text r
text_is text None r is h = subst (IsText text) h (no_toml is)
text_is text (Some ms) (Ok es) is h = let said = dictionary_is_said (table ms) es h in sound ms es is said.0 said.1
text_is text (Some ms) (Err f) is h = faulty ms f is (fault_is_first (table ms) f h)

is_text : (text : List ℕ) (r : Result (List FrameType) DictFault) → IsText text r → dictionary_of_text text ≡ r
is_text text _ (no_toml is) = ap document_of is
is_text text _ (faulty ms f is first) = ap document_of is ∙ (fault_iff (table ms) f).1 first
is_text text _ (sound ms es is value lacks) = ap document_of is ∙ (dictionary_iff (table ms) es).1 (value, lacks)

pub text_iff : (text : List ℕ) (r : Result (List FrameType) DictFault) → (dictionary_of_text text ≡ r) ↔ IsText text r
text_iff text r = (λ is. text_is text (parse_document text) r refl is, λ said. is_text text r said)

pub is_read : (text : List ℕ) (r : Result (List FrameType) DictFault) → Gives (λ d. d) r (dictionary_of_text text) →
    IsRead text r
is_read text (Ok es) given = (text_iff text (Ok es)).0 given
is_read text (Err f) given = λ other. (text_iff text (Err f)).0 (given other)
