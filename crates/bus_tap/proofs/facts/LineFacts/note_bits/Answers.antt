use Rattle.std.proofs.Common.{◌+◌, ◌∷◌, [], ◌++◌, arith, sym, ap, ◌∙◌}
use Rattle.bus_tap.specs.Facts.{spacing}
use Rattle.bus_tap.proofs.BlockLemmas.{noted-all, noted-first, noted-more, noted-upto}
use Rattle.bus_tap.proofs.FactsLemmas.{length-less}
use Rattle.bus_tap.proofs.facts.LineFacts.note_bits.Goals as goal

pub loop-left-init : goal.loop-left-init
loop-left-init c =
    noted-first c.args.jump c.args.from c.args.rises c.args.self.now c.requires.bits.0 c.requires.bits.1
    c.requires.jumps

pub note_bit-requires-clause-bits : goal.note_bit-requires-clause-bits
note_bit-requires-clause-bits c =
    let one = c.lowest_one-one in
    let noted = c.loop-left.invariant in
    let upto = noted-upto c.args.jump c.args.from c.args.rises c.loop-left.left one.result.rest one.result.place
    c.args.self.now c.loop-left.self noted one.ensures.inside.1 in
    (omega (arith, noted.count, upto, c.from.ensures), omega (arith, noted.last, upto, c.from.ensures))

pub note_bit-requires-clause-jumps : goal.note_bit-requires-clause-jumps
note_bit-requires-clause-jumps c =
    let one = c.lowest_one-one in
    let noted = c.loop-left.invariant in
    let upto = noted-upto c.args.jump c.args.from c.args.rises c.loop-left.left one.result.rest one.result.place
    c.args.self.now c.loop-left.self noted one.ensures.inside.1 in
    omega (arith, noted.jumps, upto, c.from.ensures)

pub loop-left-preserved : goal.loop-left-preserved
loop-left-preserved c =
    let one = c.lowest_one-one in
    let bit = rw (c.from.ensures) at c.note_bit.ensures in
    noted-more c.args.jump c.args.from c.args.rises c.loop-left.left one.result.rest one.result.place
    c.args.self.now c.loop-left.self c.loop-left.invariant one.ensures.inside.1 c.note_bit.new.self
    one.ensures.inside.0 one.ensures.ones one.ensures.none
    (λ es was. record {
      bits = bit.bits es was.bits;
      gap = bit.gap es was.bits was.gap;
      jumps = bit.jumps es was.bits was.step was.jumps;
      step = bit.step es was.bits was.step
          ∙ ap (spacing (es ++ (c.args.from + one.result.place) ∷ []))
          (sym (length-less es (c.args.from + one.result.place)));
    }) bit.counts.0 bit.counts.1 bit.counts.2 bit.others

pub returns-clause-facts : goal.returns-clause-facts
returns-clause-facts c =
    noted-all c.args.jump c.args.from c.args.rises c.loop-left.left c.args.self.now c.loop-left.self
    c.loop-left.invariant c.loop-left-test.false

pub returns-clause-others : goal.returns-clause-others
returns-clause-others c = c.loop-left.invariant.others

pub returns-clause-counts : goal.returns-clause-counts
returns-clause-counts c =
    let noted = c.loop-left.invariant in (
      omega (arith, noted.count, noted.few),
      omega (arith, noted.last, noted.few),
      omega (arith, noted.jumps, noted.few),
    )
