use Rattle.std.proofs.Common.{refl, ◌∙◌, arith}
use Rattle.bus_tap.specs.Internal.Held.{held_state}
use Rattle.bus_tap.proofs.CountedBlockLemmas.{IsCompared, at-once, shifted, had-counted, has-counted, held-block}
use Rattle.bus_tap.proofs.CountedBlockLemmas.{at-once-counts, as-byte, as-none, byte-small}
use Rattle.bus_tap.proofs.sampler.HeldLevel.take.Goals as goal
use Rattle.bus_tap.proofs.sampler.HeldLevel.take.Goals.{then-hold-eq0, else-hold-eq0}

pub returns-clause-taken : goal.returns-clause-taken
returns-clause-taken c = λ channel ss more long levels before.
    let hold = c.args.hold in
    let x = c.args.levels in
    let p = c.if-hold-eq0.earlier in
    let h = held_state c.args.self.now in
    let other : IsCompared hold c.requires channel ss more long h before x levels p =
    elim c.if-hold-eq0.branch [
      | then-hold-eq0 w ↦
          rw (w.earlier-is) (at-once hold c.requires channel ss more long h before x levels w.if-hold-eq0.true)
      | else-hold-eq0 w ↦
          rw (w.earlier-is) (shifted hold c.requires channel ss more long h before x levels
          (omega (arith, w.if-hold-eq0.false)) w.from.result (w.from.ensures ∙ as-byte _))
    ] in
    let carried = c.from-2.ensures ∙ as-byte c.args.self.now.level in (
      held-block hold c.requires channel ss more long h before x levels p other c.from-2.result carried _ _
          refl (c.from-self.ensures ∙ as-byte _),
      had-counted hold c.requires channel ss more long h before x levels p other c.from-2.result carried,
      has-counted hold c.requires channel ss more long h before x levels p other c.from-2.result carried,
    )

pub returns-clause-within : goal.returns-clause-within
returns-clause-within c = elim c.if-hold-eq0.branch [
  | then-hold-eq0 w ↦
      (let o = rw (w.earlier-is) at c.from-self.ensures in
      omega (arith, o ∙ as-none _ _ (at-once-counts c.args.levels _ 63)))
  | else-hold-eq0 w ↦ omega (arith, w.if-hold-eq0.false, byte-small _ _ c.from-self.ensures)
]
