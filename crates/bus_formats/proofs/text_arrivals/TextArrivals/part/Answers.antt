use Rattle.std.proofs.Common.{refl, arith}
use Rattle.bus_formats.specs.Capture.{is_arrival, mark_arrival}
use Rattle.bus_formats.proofs.TextBlockLemmas.{packed-none}
use Rattle.bus_formats.proofs.text_arrivals.TextArrivals.part.Goals as goal

pub loop-now-init : goal.loop-now-init
loop-now-init c = record {
  parted = record {
    of_bits = packed-none is_arrival (λ x. (mark_arrival x).0) c.args.text.now c.args.bits.now c.requires.some;
    of_lines = packed-none is_arrival (λ x. (mark_arrival x).1) c.args.text.now c.args.lines.now
        (omega (arith, c.requires.some, c.requires.same));
  };
  bits = refl;
  lines = refl;
}

pub returns-then-next-now-clause-given : goal.returns-then-next-now-clause-given
returns-then-next-now-clause-given c = c.close_both.ensures.given c.args.text.now c.part_line-next.ensures.parted

pub returns-clause-given : goal.returns-clause-given
returns-clause-given c = c.close_both-2.ensures.given c.args.text.now c.loop-now.invariant.parted
