use Rattle.std.proofs.Common.{◌+◌, ◌-◌, Bool, refl, ap, ◌∙◌, subst, arith}
use Rattle.bus_bits.specs.Bits.{bits_from}
use Rattle.bus_line.specs.Words.{state}
use Rattle.bus_line.specs.declared.decoder_words.DecoderWords.{DecoderWords}
use Rattle.bus_line.specs.Internal.AdvancesTo.{AdvancesToStop}
use Rattle.bus_line.proofs.AdvancesToLemmas.{stops-on}
use Rattle.bus_line.proofs.DecidesLemmas.{decides-from, decides-on}
use Rattle.bus_line.proofs.decoder_words.DecoderWords.run_quiet.Goals as goal

pub loop-run-init : goal.loop-run-init
loop-run-init g c = record {
  begun = omega arith;
  enough = c.requires.enough;
  quiet = c.requires.quiet;
  longest = refl;
  place = omega arith;
  decides = λ check held. decides-from c.args.octets.now c.args.from (c.args.from - c.args.from) (omega arith);
  within = c.requires.within;
}

pub quiet_stride-run-requires-clause-bits : goal.quiet_stride-run-requires-clause-bits
quiet_stride-run-requires-clause-bits g c =
    let now = c.loop-run.invariant in
    record {
      some = omega arith;
      enough = omega (arith, now.enough, c.requires.bits.enough);
      room = omega (arith, now.begun, now.enough, now.place, c.requires.bits.room);
    }

pub returns-then-run-clause-reaches : goal.returns-then-run-clause-reaches
returns-then-run-clause-reaches g c = λ check held.
    let now = c.loop-run.invariant in
    let run = c.quiet_stride-run in
    stops-on c.args.octets.now now.begun (now.decides check held) run.result.count
    (c.loop-run.at + run.result.count - c.args.from) (omega (arith, now.begun)) run.result.is_stop _
    (run.ensures.reaches check held)

pub loop-run-preserved : goal.loop-run-preserved
loop-run-preserved g c =
    let now = c.loop-run.invariant in
    let run = c.quiet_stride-run in
    let same = run.ensures.same in
    let n = run.result.count in
    record {
      begun = omega (arith, now.begun);
      enough = omega (arith, c.if-end-at-lt64.false);
      quiet = ap (λ (w : DecoderWords). w.settles_at) same ∙ now.quiet;
      longest = ap (λ (w : DecoderWords). w.longest) same ∙ now.longest;
      place = omega (arith, ap (λ (w : DecoderWords). w.place) same, now.place, now.begun);
      decides = λ check held.
          decides-on c.args.octets.now now.begun (now.decides check held) n (c.loop-run.at + n - c.args.from)
          (omega (arith, now.begun))
          (subst (λ (stop : Bool). AdvancesToStop g.C.Check.check (state c.loop-run.self check held)
          (bits_from c.args.octets.now c.loop-run.at n) stop (state run.new.self check held)) c.if-run.false
          (run.ensures.reaches check held));
      within = run.ensures.within;
    }
