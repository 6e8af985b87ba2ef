-- What is seen of more symbols.
use Rattle.std.proofs.Common.{◌≡◌, ℕ, List, [], ◌∷◌, ◌++◌, sym, ap, ◌∙◌, append_assoc, append-nil}
use Rattle.bus_dictionary.specs.Entry.{FrameType}
use Rattle.bus_pairing.specs.Seen.{SeenReport, seen}
use Rattle.bus_calls.specs.Captures.{Form}
use Rattle.bus_calls.specs.Internal.Kinds.{SeenOn}

-- it goes on, where it does with each symbol
pub seen-on : {R X : Type 0} (f : Form R X) (d : List FrameType) (longest origin : ℕ) (told : List X → X →
    List SeenReport)
    → ((b : List X) (x : X) → seen d (f.reports origin longest (b ++ x ∷ []))
    ≡ seen d (f.reports origin longest b) ++ told b x)
    → (b more : List X) → SeenOn f d longest origin b more
seen-on {X} f d longest origin told law b [] = record {
  rest = [];
  is = ap (λ (x : List X). seen d (f.reports origin longest x)) (append-nil b)
      ∙ sym (append-nil (seen d (f.reports origin longest b)));
}
seen-on {X} f d longest origin told law b (x ∷ more) =
    let others = seen-on f d longest origin told law (b ++ x ∷ []) more in
    record {
      rest = told b x ++ others.rest;
      is = ap (λ (y : List X). seen d (f.reports origin longest y)) (sym (append_assoc b (x ∷ []) more)) ∙ others.is
          ∙ ap (λ (y : List SeenReport). y ++ others.rest) (law b x)
          ∙ append_assoc (seen d (f.reports origin longest b)) (told b x) others.rest;
    }
