-- Every dictionary is a finite map, each entry within its bounds.
use Rattle.std.proofs.Common.{◌≡◌, ◌≢◌, ℕ, ◌+◌, ◌<◌, ◌==◌, ◌||◌, ◌&&◌, not, List, [], ◌∷◌, ◌++◌, length, get_or, nat_le}
use Rattle.std.proofs.Common.{zero, suc, codes, option_and_then, find, refl, arith, Ok, Option, Some, None, Bool, true}
use Rattle.std.proofs.Common.{false, cond, if◌then◌else◌, IsTrue, subst}
use Rattle.std.specs.List.{All, AllPairs}
use Rattle.std.proofs.lemmas.List.Elements.{All-cons}
use Rattle.std.proofs.lemmas.List.Quantifiers.{all_pairs_push}
use Rattle.std.proofs.lemmas.Bool.Decides.{nat_tests}
use Rattle.toml.specs.Data.{Data, Items, item, no_items, Members, table, get, as_bool}
use Rattle.toml.specs.Parse.{parse_document}
use Rattle.bus_dictionary.specs.declared.fault.DictFault.TheVariants.{Version, NoFrames, BadType, BadName, BadLength}
use Rattle.bus_dictionary.specs.declared.fault.DictFault.TheVariants.{BadAnswered, BadWindow, TwiceType}
use Rattle.bus_dictionary.specs.DictFault.{need}
use Rattle.bus_dictionary.specs.BitName.{name_at, entry_bits}
use Rattle.bus_dictionary.specs.Entry.{FrameType, type_at, size_at, if_may_be_answered, answered_in, window_in}
use Rattle.bus_dictionary.specs.Entry.{has_type, entry_of}
use Rattle.bus_dictionary.specs.Dictionary.{entries_of, lacks_answer, refuse_lacking, version_at, frames_at}
use Rattle.bus_dictionary.specs.Dictionary.{dictionary_of, document_of, dictionary_of_text}
use Rattle.bus_dictionary.specs.Laws.{IsFrameType, IsDictionary}
use Rattle.bus_dictionary.proofs.SaysLemmas.{window_fits}
use Rattle.bus_dictionary.proofs.BitNameLemmas.{then_ok, need_ok, unless_ok, name_at_ok, number_at_ok, bits_in_ok}

may_be : (ftype : ℕ) (b : Bool) (r : Bool) → if_may_be_answered ftype b ≡ Some r → IsTrue r → ftype < 128
may_be ftype false r h marked = let no : false ≡ r = cc in cc
may_be ftype true r h marked =
    elim (nat_le 128 ftype) as (λ t. t ≡ nat_le 128 ftype → (if t then None else Some true) ≡ Some r → ftype < 128) [
      | true ↦ λ is e. cc
      | false ↦ λ is e. grind (arith, nat_tests)
    ] refl h

answered_ok : (ftype : ℕ) (o : Option Bool) (r : Bool) → option_and_then (if_may_be_answered ftype) o ≡ Some r →
    IsTrue r → ftype < 128
answered_ok ftype None r h marked = cc
answered_ok ftype (Some b) r h marked = may_be ftype b r h marked

-- only a type below 128 is marked answered
answered_in_ok : (ftype : ℕ) (o : Option Data) (r : Bool) → answered_in ftype o ≡ Some r → IsTrue r → ftype < 128
answered_in_ok ftype None r h marked = let no : false ≡ r = cc in cc
answered_in_ok ftype (Some d) r h marked = answered_ok ftype (as_bool d) r h marked

-- what an entry that was read is
pub entry_of_ok : (v n : ℕ) (before : List FrameType) (d : Data) (e : FrameType) → entry_of v n before d ≡ Ok e →
    (has_type e.ftype before ≡ false) × IsFrameType e
unfolding entry_of
entry_of_ok v n before d e h =
    let (ftype, is_type, h1) = then_ok (need (type_at d) (BadType n)) _ e h in
    let (name, is_named, h2) = then_ok (need (name_at d) (BadName n)) _ e h1 in
    let (size, is_size, h3) = then_ok (need (size_at d) (BadLength n)) _ e h2 in
    let (answered, is_answered, h4) =
    then_ok (need (answered_in ftype (get (codes "answered") d)) (BadAnswered n)) _ e h3 in
    let (window, is_window, h5) = then_ok (need (window_in v answered (get (codes "window") d)) (BadWindow n)) _ e h4 in
    let (bits, are_bits, h6) = then_ok (entry_bits n size (get (codes "bits") d)) _ e h5 in
    let (free, is) = unless_ok (has_type ftype before) (TwiceType ftype) _ e h6 in
    let octet = number_at_ok 256 (codes "type") d ftype (need_ok _ (BadType n) ftype is_type) in
    let named = name_at_ok d name (need_ok _ (BadName n) name is_named) in
    let low = number_at_ok 254 (codes "length") d size (need_ok _ (BadLength n) size is_size) in
    let command = answered_in_ok ftype (get (codes "answered") d) answered
    (need_ok _ (BadAnswered n) answered is_answered) in
    let fits = window_fits v answered (get (codes "window") d) window (need_ok _ (BadWindow n) window is_window) in
    let within = bits_in_ok n size (get (codes "bits") d) bits are_bits in
    subst (λ (x : FrameType). (has_type x.ftype before ≡ false) × IsFrameType x) is (
      free,
      record {
        octet = octet;
        named = named;
        short = omega arith;
        command = command;
        window = fits;
        bits = within;
      },
    )

other : (a b : ℕ) (r : Bool) → ((a == b) || r) ≡ false → (a ≢ b) × (r ≡ false)
other a b r h = (λ is. grind (arith, nat_tests), grind (arith, nat_tests))

not_there : (t : ℕ) (es : List FrameType) → has_type t es ≡ false → (k : ℕ) (d : FrameType) → k < length es →
    (get_or es k d).ftype ≢ t
not_there t [] h k d less = absurd (omega arith)
not_there t (e ∷ es) h zero d less = (other e.ftype t (has_type t es) h).0
not_there t (e ∷ es) h (suc k) d less = not_there t es ((other e.ftype t (has_type t es) h).1) k d (omega arith)

all_push : (es : List FrameType) (e : FrameType) → All IsFrameType es → IsFrameType e → All IsFrameType (es ++ e ∷ [])
all_push [] e ps p = All-cons IsFrameType e [] p (λ k d h. absurd (omega arith))
all_push (x ∷ es) e ps p = All-cons IsFrameType x (es ++ e ∷ []) (ps 0 x (omega arith))
    (all_push es e (λ k d h. ps (suc k) d (omega arith)) p)

pub record AreEntries (es : List FrameType) : Type 0 where
  pub map : AllPairs (λ a b. a.ftype ≢ b.ftype) es
  pub each : All IsFrameType es

entries_of_ok : (v n : ℕ) (before : List FrameType) (ds : Items) (es : List FrameType) → AreEntries before →
    entries_of v n before ds ≡ Ok es → AreEntries es
unfolding entries_of
entries_of_ok v n before no_items es r h = let same : before ≡ es = cc in subst AreEntries same r
entries_of_ok v n before (item d ds) es r h =
    let (e, is, h1) = then_ok (entry_of v n before d) _ es h in
    let (free, whole) = entry_of_ok v n before d e is in
    let more : AreEntries (before ++ e ∷ []) = record {
      map = all_pairs_push (λ (a b : FrameType). a.ftype ≢ b.ftype) before e r.map (not_there e.ftype before free);
      each = all_push before e r.each whole;
    } in
    entries_of_ok v (n + 1) (before ++ e ∷ []) ds es more h1

answer_here : (answered has : Bool) (e : FrameType) (rest : Option FrameType) →
    cond (answered && not has) (Some e) rest ≡ None → (IsTrue answered → IsTrue has) × (rest ≡ None)
answer_here false has e rest h = (λ marked. cc, h)
answer_here true true e rest h = (λ marked. refl, h)
answer_here true false e rest h = cc

pub none_lacks : (all es : List FrameType) → find (lacks_answer all) es ≡ None →
    All (λ e. IsTrue e.answered → IsTrue (has_type (e.ftype + 128) all)) es
none_lacks all [] h = λ k d less. absurd (omega arith)
none_lacks all (e ∷ es) h =
    let (here, more) = answer_here e.answered (has_type (e.ftype + 128) all) e (find (lacks_answer all) es) h in
    All-cons (λ (x : FrameType). IsTrue x.answered → IsTrue (has_type (x.ftype + 128) all)) e es here
    (none_lacks all es more)

pub refused_ok : (all : List FrameType) (o : Option FrameType) (es : List FrameType) → refuse_lacking all o ≡ Ok es →
    (o ≡ None) × (all ≡ es)
refused_ok all None es h = (refl, cc)
refused_ok all (Some e) es h = cc

pub dictionary_is_map : (d : Data) (es : List FrameType) → dictionary_of d ≡ Ok es → IsDictionary es
unfolding dictionary_of
dictionary_is_map d es h =
    let (version, is_one, h1) = then_ok (need (version_at d) Version) _ es h in
    let (frames, are_frames, h2) = then_ok (need (frames_at d) NoFrames) _ es h1 in
    let (all, are_all, h3) = then_ok (entries_of version 1 [] frames) _ es h2 in
    let (none, same) = refused_ok all (find (lacks_answer all) all) es h3 in
    let start : AreEntries [] =
    record { map = λ i j d h k. absurd (omega arith); each = λ k d h. absurd (omega arith) } in
    let parts = entries_of_ok version 1 [] frames all start are_all in
    subst IsDictionary same (record { map = parts.map; each = parts.each; answers = none_lacks all all none })

-- no entries are a dictionary, too
pub empty_is_map : IsDictionary []
empty_is_map =
    record {
      map = λ i j d h k. absurd (omega arith);
      each = λ k d h. absurd (omega arith);
      answers = λ k d h. absurd (omega arith);
    }

document_is_map : (document : Option Members) (es : List FrameType) → document_of document ≡ Ok es → IsDictionary es
document_is_map None es h = cc
document_is_map (Some ms) es h = dictionary_is_map (table ms) es h

-- what a text says, where it is a dictionary
pub text_is_map : (text : List ℕ) (es : List FrameType) → dictionary_of_text text ≡ Ok es → IsDictionary es
text_is_map text es h = document_is_map (parse_document text) es h
