use Rattle.std.proofs.Common.{◌++◌, ◌∷◌, [], refl, ap, ◌∙◌}
use Rattle.bus_sample.proofs.MarksLemmas.{marked-inside, marked-last}
use Rattle.bus_sample.proofs.marks.Marks.put_mark.Goals as goal

pub returns-then-self-clause-put : goal.returns-then-self-clause-put
returns-then-self-clause-put c = λ start now xs x is marked.
    marked-inside start now c.args.self.now _ xs x marked refl c.if-self.true refl
    (c.push.ensures.items ∙ ap (λ m. c.args.self.now.page.text.items ++ m ∷ []) is)

pub returns-clause-put : goal.returns-clause-put
returns-clause-put c = λ start now xs x is marked.
    marked-last start now c.args.self.now _ xs x marked refl c.if-self.false refl
    (c.push-2.ensures.items ∙ ap (λ t. t ++ 10 ∷ [])
    (c.push.ensures.items ∙ ap (λ m. c.args.self.now.page.text.items ++ m ∷ []) is))
