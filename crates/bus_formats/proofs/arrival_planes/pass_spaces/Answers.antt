use Rattle.std.proofs.Common.{◌≡◌, true, sym, ◌∙◌, arith}
use Rattle.std.specs.Prelude.{slice_index}
use Rattle.bus_formats.specs.Capture.{is_arrival, mark_arrival}
use Rattle.bus_bits.specs.Text.{is_space}
use Rattle.bus_formats.specs.Internal.Packs.{bits_of_both, lines_of_both}
use Rattle.bus_formats.proofs.ArrivalPlanesLemmas.{space-no-arrival}
use Rattle.bus_formats.proofs.TextBlockLemmas.{space-passed}
use Rattle.bus_formats.proofs.arrival_planes.pass_spaces.Goals as goal

pub loop-now-preserved : goal.loop-now-preserved
loop-now-preserved c =
    let now = c.loop-now.now in
    let space : is_space (slice_index c.args.text.now now.taken) ≡ true =
    sym c.is_skipped.ensures ∙ c.if-is_skipped.true in
    record {
      parted = λ bits lines before.
          let both = c.loop-now.invariant.parted bits lines before in
          record {
            of_bits = space-passed is_arrival (λ x. (mark_arrival x).0) space-no-arrival c.args.text.now bits
                (bits_of_both now) c.loop-now-test.true space both.of_bits;
            of_lines = space-passed is_arrival (λ x. (mark_arrival x).1) space-no-arrival c.args.text.now lines
                (lines_of_both now) c.loop-now-test.true space both.of_lines;
          };
      more = omega (arith, c.loop-now.invariant.more);
    }
