-- An analyser before its first bit.
use Rattle.std.specs.Prelude.{◌≡◌, ℕ, List, []}
use Rattle.bus_dictionary.specs.Entry.{FrameType}
use Rattle.bus_watch.specs.Watch.{Watch}
use Rattle.bus_calls.specs.Internal.Kinds.{KindView}

-- an analyser that took nothing, with this dictionary, which keeps so many frames and whose first place is this
pub record IsMade {A X : Type 0} (w : Watch A X) (d : List FrameType) (keeps first : ℕ) (a : A) : Type 0 where
  pub is_after : w.is_after a []
  pub dictionary : w.dictionary a ≡ d
  pub depth : w.depth a ≡ keeps
  pub origin : w.origin a ≡ first
  pub place : w.place a ≡ first

-- the rule of rest before the first symbol, with this silence
pub record IsRuled {A R X B : Type 0} (t : KindView A R X B) (rest : ℕ) (a : A) : Type 0 where
  pub none : t.is_fed a []
  pub same : (b : List R) → t.form.fed (t.rest a) b ≡ t.form.fed rest b
