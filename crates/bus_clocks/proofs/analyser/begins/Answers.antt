use Rattle.std.proofs.Common.{◌∷◌, ◌++◌, [], length, inr, refl}
use Rattle.bus_line.specs.Due.{begun}
use Rattle.bus_tap.proofs.LinesLemmas.{begins-some, begins-none}
use Rattle.bus_clocks.proofs.analyser.begins.Goals as goal

pub returns-in-Some : goal.returns-in-Some
returns-in-Some g c = λ b bit after origin at.
    begins-some (begun (b ++ bit ∷ [])) c.args.decoder.now.origin _ (length b) c.args.number
    (rw (c.in-Some.is) at (c.begun.ensures.after (b ++ bit ∷ []) after)) origin at

pub returns-in-None : goal.returns-in-None
returns-in-None g c = λ b bit after origin at.
    inr (
      refl,
      begins-none (begun (b ++ bit ∷ [])) c.args.decoder.now.origin (length b)
          (rw (c.in-None.is) at (c.begun.ensures.after (b ++ bit ∷ []) after)),
    )
