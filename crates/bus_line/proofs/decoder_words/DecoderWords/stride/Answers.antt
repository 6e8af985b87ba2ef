use Rattle.std.proofs.Common.{List, Bool, subst, arith}
use Rattle.bus_line.specs.Words.{state}
use Rattle.bus_line.specs.Internal.AdvancesTo.{AdvancesToStop}
use Rattle.bus_line.proofs.AdvancesToLemmas.{strode}
use Rattle.bus_line.proofs.TimeFillLemmas.{turn-bits}
use Rattle.bus_line.proofs.decoder_words.DecoderWords.stride.Goals as goal

pub shift-due-requires-clause-room : goal.shift-due-requires-clause-room
shift-due-requires-clause-room g c = omega (arith, c.requires.bits.room, c.up_to_six-run.ensures.count)

pub returns-clause-reaches : goal.returns-clause-reaches
returns-clause-reaches g c =
    let run = c.up_to_six-run in
    let n = run.result.count in
    let x = c.seven_octets_at-bits.result in
    let octets = g.F.FrameBuffer.octets in
    let old = state c.args.self.now c.args.check.now (octets c.args.frame.now) in
    let new = state c.append.new.self c.append.new.check (octets c.append.new.frame) in
    let bits = turn-bits c.args.octets.now c.args.at x n c.seven_octets_at-bits.ensures
    (omega (arith, run.ensures.count)) in
    subst (λ (z : List Bool). AdvancesToStop g.C.Check.check old z run.result.is_stop new) bits
    (strode x n run.result.is_stop run.ensures.count.0 run.ensures.count.1 run.ensures.before run.ensures.none
    (c.shift-due.ensures.consumes c.args.check.now (octets c.args.frame.now) new c.append.ensures.appends))
