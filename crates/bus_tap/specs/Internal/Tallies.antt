-- What is counted, with one sample more.
use Rattle.std.specs.Prelude.{ℕ, ◌&&◌, not, Bool, List, [], ◌∷◌, ◌++◌, if◌then◌else◌}
use Rattle.std.specs.Bool.{beq}
use Rattle.bus_tap.specs.Facts.{AreFactsOf}
use Rattle.bus_tap.specs.declared.facts.Levels.{Levels}
use Rattle.bus_tap.specs.declared.facts.LineFacts.{LineFacts}

-- this sample, if something is so in it
abbrev pub where_is : Bool → ℕ → List ℕ
where_is is sample = if is then sample ∷ [] else []

-- what becomes of the facts of a line by a sample with levels before it and after it
abbrev pub AdvancesFacts : ℕ → LineFacts → ℕ → Levels → Levels → LineFacts → Type 0
AdvancesFacts jump old sample before after new = (cs ls hs bs : List ℕ) → AreFactsOf jump old cs ls hs bs
    → AreFactsOf jump new (cs ++ where_is (not (beq before.clock after.clock)) sample)
    (ls ++ where_is (not (beq before.bits after.bits)) sample)
    (hs ++ where_is (not (beq before.bits after.bits) && after.clock) sample)
    (bs ++ where_is (not before.clock && after.clock) sample)
