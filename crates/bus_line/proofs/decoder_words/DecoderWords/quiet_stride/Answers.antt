use Rattle.std.proofs.Common.{◌≡◌, ◌<◌, ◌^◌, List, Bool, ap, sym, ◌∙◌, subst, arith, take}
use Rattle.std.specs.Prelude.{bit_and}
use Rattle.std.specs.Int.Bits.{and_mask}
use Rattle.bus_bits.specs.Octet.{bits_of}
use Rattle.bus_bits.proofs.OctetLemmas.{bits-low, bits-front}
use Rattle.bus_line.specs.Words.{state}
use Rattle.bus_line.specs.declared.decoder_words.DecoderWords.{DecoderWords}
use Rattle.bus_line.specs.Internal.AdvancesTo.{AdvancesToStop}
use Rattle.bus_line.specs.Internal.Settled.{AppendsBits}
use Rattle.bus_line.proofs.AdvancesToLemmas.{worded}
use Rattle.bus_line.proofs.SettleLemmas.{appends-none}
use Rattle.bus_line.proofs.TimeFillLemmas.{turn-bits}
use Rattle.bus_line.proofs.decoder_words.DecoderWords.quiet_stride.Goals as goal

pub returns-clause-reaches : goal.returns-clause-reaches
unfolding bits_of
returns-clause-reaches g c = λ check held.
    let run = c.up_to_stop-run in
    let n = run.result.count in
    let y = c.seven_octets_at-bits.result in
    let x = bit_and y 281474976710655 in
    let old = state c.args.self.now check held in
    let new = state c.shift.new.self check held in
    let masked = and_mask y 48 in
    let small : bit_and y 281474976710655 < 2 ^ 48 = omega (arith, masked) in
    let within = run.ensures.count.1 in
    let bits = ap (bits_of n) masked ∙ (sym (bits-front n 48 _ within) ∙ (ap (take n) (bits-low 48 y)
    ∙ (bits-front n 48 y within
    ∙ turn-bits c.args.octets.now c.args.at y n c.seven_octets_at-bits.ensures (omega (arith, within))))) in
    let same = c.shift.ensures.same in
    let none : c.shift.result.count ≡ 0 =
    c.shift.ensures.early (omega (
      arith,
      ap (λ (w : DecoderWords). w.place) same,
      ap (λ (w : DecoderWords). w.settles_at) same,
      c.requires.quiet,
      c.requires.bits.room,
      within,
    )) in
    let appends : AppendsBits g.C.Check.check new (bits_of c.shift.result.count c.shift.result.bits) new =
    subst (λ n. AppendsBits g.C.Check.check new (bits_of n c.shift.result.bits) new) (sym none) (appends-none new) in
    subst (λ (z : List Bool). AdvancesToStop g.C.Check.check old z run.result.is_stop new) bits
    (worded x 48 n run.result.is_stop run.ensures.count.0 within (omega arith) small run.ensures.before run.ensures.none
    (c.shift.ensures.consumes check held new appends))
