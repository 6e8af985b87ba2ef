-- What bits do to an analyser, or pairs of bits to one of two lines.
use Rattle.std.specs.Prelude.{◌≡◌, ℕ, ◌+◌, ◌*◌, ◌≤◌, List, ◌++◌, length}
use Rattle.bus_dictionary.specs.Entry.{FrameType}
use Rattle.bus_dictionary.specs.Dictionary.{longest_of}
use Rattle.bus_line.specs.LineReport.{LineReport}
use Rattle.bus_pairing.specs.Seen.{SeenReport, seen}

-- of analysers A that take X: after which lists one may stand, what it was given, the place of the next X, and the
-- reports of a list by an origin and a longest frame
pub record Watch (A X : Type 0) : Type 1 where
  pub is_after : A → List X → Type 0
  pub dictionary : A → List FrameType
  pub depth : A → ℕ
  pub origin : A → ℕ
  pub place : A → ℕ
  pub reports : ℕ → ℕ → List X → List LineReport

-- what is seen of a list
abbrev pub seen_by : {A X : Type 0} → Watch A X → A → List X → List SeenReport
seen_by w a xs = seen (w.dictionary a) (w.reports (w.origin a) (longest_of (w.dictionary a)) xs)

-- these lead from old to new, and this is seen at them
pub record AdvancesWatch {A X : Type 0} (w : Watch A X) (old : A) (xs : List X) (told : List SeenReport)
    (new : A) : Type 0 where
  pub is_after : (b : List X) → w.is_after old b → w.is_after new (b ++ xs)
  pub seen : (b : List X) → w.is_after old b → seen_by w old (b ++ xs) ≡ seen_by w old b ++ told
  pub dictionary : w.dictionary new ≡ w.dictionary old
  pub depth : w.depth new ≡ w.depth old
  pub origin : w.origin new ≡ w.origin old
  pub place : w.place new ≡ w.place old + length xs

-- these lead from old to new, and what is seen at them was told, at most two reports at each
pub record AdvancesWatchShown {A X : Type 0} (w : Watch A X) (old : A) (xs : List X) (new : A)
    (is_told : List SeenReport → Type 0)
    : Type 0 where
  pub seen : List SeenReport
  pub sees : AdvancesWatch w old xs seen new
  pub few : length seen ≤ 2 * length xs
  pub told : is_told seen
