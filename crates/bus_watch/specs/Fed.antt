-- What feeding bits does to an analyser and a sink.
use Rattle.std.specs.Prelude.{◌≡◌, ℕ, ◌+◌, ◌-◌, ◌<◌, ◌≤◌, Bool, List, [], ◌∷◌, ◌++◌, length, take}
use Rattle.bus_fcs.specs.Check.{CheckView}
use Rattle.bus_pairing.specs.Seen.{SeenReport}
use Rattle.bus_line.specs.Told.{told}
use Rattle.bus_pairing.specs.Sink.{SinkView, SinkTook}
use Rattle.bus_watch.specs.Watch.{Watch, AdvancesWatch, seen_by}
use Rattle.bus_watch.specs.After.{AnalyserState, IsAfter, AdvancesAnalyser, seen_after, one_line}
use Rattle.bus_watch.specs.declared.fault.FeedFault.{FeedFault}
use Rattle.bus_watch.specs.declared.fault.FeedFault.TheVariants.{PlaceLimit, Sink}

-- these led from old to new, and the sink took what is seen at them
pub record FedBy {A X S : Type 0} (w : Watch A X) (sink : SinkView S) (old : A) (xs : List X)
    (new : A) (before after : S) : Type 0 where
  pub seen : List SeenReport
  pub sees : AdvancesWatch w old xs seen new
  pub took : sink.taken after ≡ told (sink.taken before) seen

-- of these a sink took those, in their order, and refused so many
pub data Lacks : List SeenReport → List SeenReport → ℕ → Type 0 where
  none : Lacks [] [] 0
  took : (s : SeenReport) (ss ts : List SeenReport) (n : ℕ) → Lacks ss ts n → Lacks (s ∷ ss) (s ∷ ts) n
  refused : (s : SeenReport) (ss ts : List SeenReport) (n : ℕ) → Lacks ss ts n → Lacks (s ∷ ss) ts (n + 1)

-- a sink was offered these, and refused so many
pub record Offered {S : Type 0} (sink : SinkView S)
    (all : List SeenReport) (n : ℕ) (before after : S) : Type 0 where
  pub took_of : List SeenReport
  pub lacks : Lacks all took_of n
  pub took : sink.taken after ≡ told (sink.taken before) took_of
  pub counts : SinkTook sink n before after

-- these led from old to new, and the sink took what is seen at them, but that it refused so many of what is seen at
-- the last
pub record RefusedBy {A X S : Type 0} (w : Watch A X) (sink : SinkView S) (refusals : ℕ) (old : A)
    (xs : List X) (new : A) (before after : S) : Type 0 where
  pub seen : List SeenReport
  pub at_last : List SeenReport
  pub of_last : List SeenReport
  pub some : 0 < length xs
  pub some_refused : 0 < refusals
  pub lacks : Lacks at_last of_last refusals
  pub sees : AdvancesWatch w old xs (seen ++ at_last) new
  pub front : (b : List X) → w.is_after old b → seen_by w old (b ++ take (length xs - 1) xs) ≡ seen_by w old b ++ seen
  pub took : sink.taken after ≡ told (sink.taken before) (seen ++ of_last)

-- of the first of a list
pub record RefusedByAt {A X S : Type 0} (w : Watch A X) (sink : SinkView S) (refusals : ℕ)
    (old : A) (xs : List X) (consumed : ℕ) (new : A) (before after : S) : Type 0 where
  pub some : 0 < consumed
  pub within : consumed ≤ length xs
  pub refused : RefusedBy w sink refusals old (take consumed xs) new before after

-- of one line
module _ {C S : Type 0} (view : CheckView C) (sink : SinkView S) where
  abbrev pub Fed : AnalyserState C → List Bool → AnalyserState C → S → S → Type 0
  Fed old bits new before after = FedBy (one_line view) sink old bits new before after

  -- these bits led from old to new, and the sink took what is seen at them but the last of it, which the last bit
  -- decides
  pub record Refused (old : AnalyserState C) (bits : List Bool) (new : AnalyserState C)
      (before after : S) : Type 0 where
    pub seen : List SeenReport
    pub lost : SeenReport
    pub some : 0 < length bits
    pub sees : AdvancesAnalyser view old bits (seen ++ lost ∷ []) new
    pub front : (b : List Bool) → IsAfter view old b
        → seen_after old (b ++ take (length bits - 1) bits) ≡ seen_after old b ++ seen
    pub took : sink.taken after ≡ told (sink.taken before) seen

  -- of the first bits of a list
  pub record RefusedAt (old : AnalyserState C) (bits : List Bool) (consumed : ℕ) (new : AnalyserState C)
      (before after : S) : Type 0 where
    pub some : 0 < consumed
    pub within : consumed ≤ length bits
    pub refused : Refused old (take consumed bits) new before after

-- where it was the sink
abbrev pub ForSink : FeedFault → (ℕ → Type 0) → Type 0
ForSink PlaceLimit P = Unit {0}
ForSink (Sink consumed) P = P consumed
