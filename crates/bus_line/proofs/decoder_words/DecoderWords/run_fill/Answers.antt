use Rattle.std.proofs.Common.{◌≡◌, arith}
use Rattle.bus_line.proofs.DecidesLemmas.{place-on}
use Rattle.bus_line.proofs.AdvancesToLemmas.{stops-on}
use Rattle.bus_line.proofs.decoder_words.DecoderWords.run_fill.Goals as goal

pub run_bits-requires-clause-sound : goal.run_bits-requires-clause-sound
run_bits-requires-clause-sound g c =
    let past = c.skip_time_fill-past in
    let decides = past.ensures.decides c.args.check.now (g.F.FrameBuffer.octets c.args.frame.now) in
    let longest : past.new.self.longest ≡ c.args.self.now.longest = decides.leads.longest in
    record { within = past.ensures.sound; room = omega (arith, c.requires.sound.room, longest) }

pub run_bits-requires-clause-bits : goal.run_bits-requires-clause-bits
run_bits-requires-clause-bits g c =
    let past = c.skip_time_fill-past in
    let decides = past.ensures.decides c.args.check.now (g.F.FrameBuffer.octets c.args.frame.now) in
    let place = place-on c.args.octets.now past.ensures.within.0 decides in
    let bits = c.requires.bits in
    record {
      some = bits.some;
      enough = bits.enough;
      room = omega (arith, place, bits.room, c.if-past-from.true);
    }

pub returns-then-past-from-clause-reaches : goal.returns-then-past-from-clause-reaches
returns-then-past-from-clause-reaches g c =
    let past = c.skip_time_fill-past in
    let run = c.run_bits in
    let n = run.result.count in
    stops-on c.args.octets.now past.ensures.within.0
    (past.ensures.decides c.args.check.now (g.F.FrameBuffer.octets c.args.frame.now)) n n
    (omega (arith, c.if-past-from.true)) run.result.is_stop _ (rw c.if-past-from.true run.ensures.reaches)

pub returns-clause-reaches : goal.returns-clause-reaches
returns-clause-reaches g c =
    c.skip_time_fill-past.ensures.decides c.args.check.now (g.F.FrameBuffer.octets c.args.frame.now)

pub returns-clause-sound : goal.returns-clause-sound
returns-clause-sound g c =
    let decides = c.skip_time_fill-past.ensures.decides c.args.check.now (g.F.FrameBuffer.octets c.args.frame.now) in
    let longest : c.skip_time_fill-past.new.self.longest ≡ c.args.self.now.longest = decides.leads.longest in
    record { within = c.skip_time_fill-past.ensures.sound; room = omega (arith, c.requires.sound.room, longest) }
