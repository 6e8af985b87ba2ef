use Rattle.std.proofs.Common.{◌+◌, ◌-◌, Bool, subst, arith}
use Rattle.bus_bits.specs.Bits.{bits_from}
use Rattle.bus_line.specs.Words.{state}
use Rattle.bus_line.specs.Internal.AdvancesTo.{AdvancesToStop}
use Rattle.bus_line.proofs.AdvancesToLemmas.{stops-on}
use Rattle.bus_line.proofs.DecidesLemmas.{decides-from, decides-on, place-on}
use Rattle.bus_line.proofs.decoder_words.DecoderWords.run_piece.Goals as goal

pub loop-run-init : goal.loop-run-init
loop-run-init g c = record {
  begun = omega arith;
  enough = c.requires.enough;
  decides = decides-from c.args.octets.now c.args.from (c.args.from - c.args.from) (omega arith);
  sound = c.requires.sound;
}

pub stride-run-requires-clause-bits : goal.stride-run-requires-clause-bits
stride-run-requires-clause-bits g c =
    let now = c.loop-run.invariant in
    let place = place-on c.args.octets.now now.begun now.decides in
    record {
      some = omega arith;
      enough = omega (arith, now.enough, c.requires.bits.enough);
      room = omega (arith, now.begun, now.enough, place, c.requires.bits.room);
    }

pub returns-then-run-clause-reaches : goal.returns-then-run-clause-reaches
returns-then-run-clause-reaches g c =
    let now = c.loop-run.invariant in
    let run = c.stride-run in
    stops-on c.args.octets.now now.begun now.decides run.result.count
    (c.loop-run.at + run.result.count - c.args.from) (omega (arith, now.begun)) run.result.is_stop _
    run.ensures.reaches

pub loop-run-preserved : goal.loop-run-preserved
loop-run-preserved g c =
    let now = c.loop-run.invariant in
    let run = c.stride-run in
    let n = run.result.count in
    let octets = g.F.FrameBuffer.octets in
    record {
      begun = omega (arith, now.begun);
      enough = omega (arith, c.if-end-at-lt64.false);
      decides = decides-on c.args.octets.now now.begun now.decides n (c.loop-run.at + n - c.args.from)
          (omega (arith, now.begun))
          (subst (λ (stop : Bool). AdvancesToStop g.C.Check.check
          (state c.loop-run.self c.loop-run.check (octets c.loop-run.frame))
          (bits_from c.args.octets.now c.loop-run.at n) stop
          (state run.new.self run.new.check (octets run.new.frame))) c.if-run.false run.ensures.reaches);
      sound = run.ensures.sound;
    }
