use Rattle.std.proofs.Common.{◌≡◌, List, Bool, [], ◌∷◌, subst, arith}
use Rattle.bus_bits.specs.Octet.{bits_of}
use Rattle.bus_bits.proofs.OctetLemmas.{length-bits, one_bit}
use Rattle.bus_line.specs.Words.{state}
use Rattle.bus_line.specs.Internal.AdvancesTo.{ConsumesBits}
use Rattle.bus_line.proofs.AdvancesToLemmas.{decided, ran-last}
use Rattle.bus_line.proofs.decoder_words.DecoderWords.push.Goals as goal

pub decide-requires-clause-some : goal.decide-requires-clause-some
decide-requires-clause-some g c =
    let octets = g.F.FrameBuffer.octets in
    let consumed = c.shift-due.ensures.consumes c.args.check.now (octets c.args.frame.now)
    (state c.append.new.self c.append.new.check (octets c.append.new.frame)) c.append.ensures.appends in
    omega (arith, consumed.place, consumed.origin, length-bits 1 c.from.result, c.requires.sound.within.begins)

pub returns-clause-advances : goal.returns-clause-advances
returns-clause-advances g c =
    let before = g.F.FrameBuffer.octets c.args.frame.now in
    let old = state c.args.self.now c.args.check.now before in
    let octets = g.F.FrameBuffer.octets c.append.new.frame in
    let new = state c.append.new.self c.append.new.check octets in
    let one : bits_of 1 c.from.result ≡ c.args.bit ∷ [] =
    one_bit c.from.result 1 c.args.bit c.from.ensures (omega arith) (omega arith) in
    let consumed = subst (λ (z : List Bool). ConsumesBits g.C.Check.check old z new) one
    (c.shift-due.ensures.consumes c.args.check.now before new c.append.ensures.appends) in
    decided (ran-last consumed (omega arith) (λ b stands i before. absurd (omega (arith, before))))
    c.decide.ensures.decides
