-- What the proofs know of one line, of two, and of arrivals.
use Rattle.std.specs.Prelude.{◌≡◌, ℕ, ◌+◌, ◌<◌, List, [], ◌++◌, length, Some, None}
use Rattle.bus_formats.specs.Capture.{CaptureOf, GrowsTo, capped, short_head}
use Rattle.bus_dictionary.specs.Entry.{FrameType}
use Rattle.bus_pairing.specs.Seen.{SeenReport, seen}
use Rattle.bus_watch.specs.Watch.{Watch}
use Rattle.bus_calls.specs.Captures.{Form}

-- an analyser A that takes X, and its captures, which have R; readers B of the octets after a packed head
pub record KindView (A R X B : Type 0) : Type 1 where
  pub watch : Watch A X
  pub form : Form R X
  pub rest : A → ℕ  -- the silence after which a second line comes to rest
  pub is_fed : A → List R → Type 0  -- the rule of rest may stand after these
  pub is_body : B → List ℕ → Type 0  -- these octets are a good head and those after it that were taken

-- what is seen of more goes on
pub record SeenOn {R X : Type 0} (f : Form R X) (d : List FrameType) (longest origin : ℕ) (b more : List X)
    : Type 0 where
  pub rest : List SeenReport
  pub is : seen d (f.reports origin longest (b ++ more)) ≡ seen d (f.reports origin longest b) ++ rest

-- an analyser takes more of more
pub record FedOn {R X : Type 0} (f : Form R X) (rest : ℕ) (b more : List R) : Type 0 where
  pub taken : List X
  pub is : f.fed rest (b ++ more) ≡ f.fed rest b ++ taken

pub record FormLaws {R X : Type 0} (f : Form R X) : Type 0 where
  pub blank : f.text [] ≡ record { bits = []; fault = None }
  pub text : (xs ys : List ℕ) → GrowsTo (f.text xs) (f.text (xs ++ ys))
  pub packed : (xs ys : List ℕ) → GrowsTo (f.packed xs) (f.packed (xs ++ ys))
  pub ended : (xs : List ℕ) → GrowsTo (f.packed xs) (f.packed_whole xs)
  pub same : (xs : List ℕ) → (f.packed_whole xs).bits ≡ (f.packed xs).bits
  pub short : (xs : List ℕ) → length xs < 16
      → (f.packed xs ≡ record { bits = []; fault = None })
      × (f.packed_whole xs ≡ record { bits = []; fault = Some short_head })
  pub places : (origin : ℕ) (c d : CaptureOf X) → GrowsTo c d → GrowsTo (capped origin c) (capped origin d)
  pub fed_none : (rest : ℕ) → f.fed rest [] ≡ []
  pub fed : (rest : ℕ) (b more : List R) → FedOn f rest b more
  pub silent : (origin longest : ℕ) → f.reports origin longest [] ≡ []
  pub seen : (d : List FrameType) (longest origin : ℕ) (b more : List X) → SeenOn f d longest origin b more

pub record KindLaws {A R X B : Type 0} (t : KindView A R X B) : Type 0 where
  pub form : FormLaws t.form
  pub reports : t.watch.reports ≡ t.form.reports
  pub placed : (a : A) (b : List X) → t.watch.is_after a b → t.watch.place a ≡ t.watch.origin a + length b
  pub clean : (body : B) (xs : List ℕ) → t.is_body body xs → (t.form.packed xs).fault ≡ None
