use Rattle.std.proofs.Common.{refl, sym, arith}
use Rattle.bus_tap.specs.Arrival.{arrivals_from}
use Rattle.bus_tap.proofs.ArrivalLemmas.{arrivals-more, arrivals-none, length-arrivals}
use Rattle.bus_clocks.proofs.PartsLemmas.{parts-none}
use Rattle.bus_clocks.proofs.parted.part.Goals as goal

pub loop-taken-init : goal.loop-taken-init
loop-taken-init c = record {
  within = omega arith;
  parts = rw (arrivals-none c.args.bits.now c.args.lines.now c.args.from)
      (parts-none _ (sym c.new.ensures) (sym c.new-2.ensures) refl);
}

pub take-taken-requires-clause-parts : goal.take-taken-requires-clause-parts
take-taken-requires-clause-parts c = (
  arrivals_from c.args.bits.now c.args.lines.now c.args.from c.loop-taken.taken,
  c.loop-taken.invariant.parts,
  omega (
    arith,
    length-arrivals c.args.bits.now c.args.lines.now c.args.from c.loop-taken.taken,
    c.loop-taken.invariant.within,
    c.requires.few,
  ),
)

pub loop-taken-preserved : goal.loop-taken-preserved
loop-taken-preserved c =
    let bits = c.args.bits.now in
    let lines = c.args.lines.now in
    let taken = c.loop-taken.taken in
    record {
      within = omega (arith, c.take-taken.ensures.within.1, c.loop-taken.invariant.within);
      parts = rw (arrivals-more bits lines c.args.from taken c.take-taken.result)
          (c.take-taken.ensures.parts (arrivals_from bits lines c.args.from taken) c.loop-taken.invariant.parts
          (omega (
            arith,
            length-arrivals bits lines c.args.from taken,
            c.loop-taken.invariant.within,
            c.requires.few,
          )));
    }
