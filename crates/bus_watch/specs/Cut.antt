-- What is lost of what is seen where reports, and not their bits, are parted in two lists, each watched by itself.
use Rattle.std.specs.Prelude.{◌≡◌, ℕ, ◌+◌, Bool, false, List, [], ◌∷◌, ◌++◌, length, None, option_map}
use Rattle.bus_line.specs.Mark.{flag}
use Rattle.bus_line.specs.Due.{placed}
use Rattle.bus_dictionary.specs.Entry.{FrameType}
use Rattle.bus_line.specs.LineReport.{LineReport, of_line}
use Rattle.bus_pairing.specs.Talk.{talk, is_idle_kind, begins, verdict, pending}
use Rattle.bus_pairing.specs.Seen.{SeenReport, seen, seen_of}

-- where no command waits, nothing
abbrev pub CutLosesNothing : Type 0
CutLosesNothing = (d : List FrameType) (before behind : List LineReport) → pending d before ≡ None →
    seen d (before ++ behind) ≡ seen d before ++ seen d behind

-- where one waits, its verdict, at the first report after it that is no idle line, and no more
pub record LosesOne (d : List FrameType) (before idles rest : List LineReport) (h : LineReport) : Type 0 where
  pub others : List SeenReport
  pub whole : seen d (before ++ (idles ++ h ∷ rest)) ≡ seen d before
      ++ (seen d idles ++ seen_of d (before ++ idles) h ∷ others)
  pub alone : seen d (idles ++ h ∷ rest) ≡ seen d idles ++ seen_of d idles h ∷ others
  pub verdict : (seen_of d (before ++ idles) h).verdict ≡ option_map (verdict d (begins d h)) (pending d before)
  pub none : (seen_of d idles h).verdict ≡ None

abbrev pub CutLosesVerdict : Type 0
CutLosesVerdict = (d : List FrameType) (before idles rest : List LineReport) (h : LineReport) →
    talk idles ≡ [] → is_idle_kind h.report.kind ≡ false → LosesOne d before idles rest h

-- cut at a flag up to which no command waits, what is seen of bits is what is seen up to the end of the flag, and then
-- what is seen from the flag on
abbrev pub FlagLosesNothing : Type 0
FlagLosesNothing = (d : List FrameType) (longest origin : ℕ) (u t : List Bool) →
    pending d (of_line (placed origin longest (u ++ flag))) ≡ None →
    seen d (of_line (placed origin longest ((u ++ flag) ++ t)))
    ≡ seen d (of_line (placed origin longest (u ++ flag)))
    ++ seen d (of_line (placed (origin + length u) longest (flag ++ t)))
