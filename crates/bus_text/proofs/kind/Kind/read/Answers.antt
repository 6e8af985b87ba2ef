use Rattle.std.proofs.Common.{rules, tests, ◌==◌, ◌≡◌, Some, None, refl, sym, ap, ◌∙◌}
use Rattle.std.proofs.lemmas.Iterator.{YieldsList-from_slice}
use Rattle.std.proofs.lemmas.Iterator.Search.{find_from_yields_List}
use Rattle.std.specs.Cmp.Lexicographic.{pointwise}
use Rattle.bus_text.specs.Kinds.{kind_word, all_kinds, kind_named}
use Rattle.bus_text.specs.declared.kind.Kind.{Kind}
use Rattle.bus_text.specs.declared.kind.Kind.TheVariants.{Frame, Damaged, Overlong, Abort, Idle, Stray, Answered}
use Rattle.bus_text.specs.declared.kind.Kind.TheVariants.{Missing, Spoilt, Late, Begun, Pending}
use Rattle.bus_text.proofs.kind.Kind.read.Goals as goal

-- the word of a kind names it
named-word : (k : Kind) → kind_named (kind_word k) ≡ Some k
named-word Frame = refl
named-word Damaged = refl
named-word Overlong = refl
named-word Abort = refl
named-word Idle = refl
named-word Stray = refl
named-word Answered = refl
named-word Missing = refl
named-word Spoilt = refl
named-word Late = refl
named-word Begun = refl
named-word Pending = refl

-- what is found is the first kind whose word it is
pub returns-clause-named : goal.returns-clause-named
returns-clause-named c =
    c.copied.ensures
    ∙ find_from_yields_List (λ k. pointwise (λ x y. x == y) (kind_word k) c.args.word.now) _ _ c.find.result
    c.find.ensures.ran (YieldsList-from_slice all_kinds cc) (λ x b q k. search (rules, tests))

pub returns-clause-none : goal.returns-clause-none
returns-clause-none c none kind e =
    let named = returns-clause-named c in
    let some : Some kind ≡ None = sym (named-word kind) ∙ ap kind_named (sym e) ∙ sym named ∙ none in
    cc some
