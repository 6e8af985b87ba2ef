use Rattle.std.proofs.Common.{◌≡◌, ◌+◌, ◌-◌, ℕ, Bool, Option, None, min, ◌∙◌, ap, sym, subst, arith}
use Rattle.std.proofs.lemmas.Bool.{not-false, not-true}
use Rattle.std.specs.Option.{option_map}
use Rattle.bus_bits.specs.Bits.{bits_from}
use Rattle.bus_bits.proofs.BitLemmas.{length-from}
use Rattle.bus_bits.proofs.OctetLemmas.{least}
use Rattle.bus_line.specs.After.{Decides}
use Rattle.bus_line.specs.Report.{Report}
use Rattle.bus_line.specs.Shown.{reported}
use Rattle.bus_line.specs.Words.{state}
use Rattle.bus_line.specs.Internal.AdvancesTo.{AdvancesToStop}
use Rattle.bus_line.proofs.DecidesLemmas.{advances-quiet, is-none, place-on, decides-from, decides-on}
use Rattle.bus_line.proofs.AdvancesToLemmas.{decided-on}
use Rattle.bus_line.proofs.decoder_words.DecoderWords.scan.Goals as goal

pub loop-reached-init : goal.loop-reached-init
loop-reached-init g c = record {
  begun = omega arith;
  ends = omega arith;
  decides = decides-from c.args.octets.now c.args.at (c.args.at - c.args.at) (omega arith);
  sound = c.requires.sound;
}

pub run-run-requires-clause-bits : goal.run-run-requires-clause-bits
run-run-requires-clause-bits g c =
    let now = c.loop-reached.invariant in
    let room = 1152921504606846976 - c.args.self.now.place in
    let count : c.min-count.result ≡ min (c.args.end - c.args.at) room =
    c.min-count.ensures ∙ least (c.args.end - c.args.at) room in
    let place = place-on c.args.octets.now now.begun now.decides in
    record {
      some = c.loop-reached-test.true;
      enough = omega (arith, c.requires.enough, c.requires.some, count);
      room = omega (arith, c.requires.sound.within.place_fits, count, now.begun, now.ends, place);
    }

pub decide-event-requires-clause-some : goal.decide-event-requires-clause-some
decide-event-requires-clause-some g c =
    let run = c.run-run in
    let old = state c.loop-reached.self c.loop-reached.check (g.F.FrameBuffer.octets c.loop-reached.frame) in
    let new = state run.new.self run.new.check (g.F.FrameBuffer.octets run.new.frame) in
    let bits = bits_from c.args.octets.now c.loop-reached.reached run.result.count in
    let reached = subst (λ (stop : Bool). AdvancesToStop g.C.Check.check old bits stop new)
    (not-false run.result.is_stop c.if-not-run.false) run.ensures.reaches in
    let long = length-from c.args.octets.now c.loop-reached.reached run.result.count in
    let begins = c.loop-reached.invariant.sound.within.begins in
    omega (arith, reached.place, reached.origin, long, run.ensures.count, begins)

pub returns-then-is_some-clause-advances : goal.returns-then-is_some-clause-advances
returns-then-is_some-clause-advances g c =
    let now = c.loop-reached.invariant in
    let run = c.run-run in
    decided-on c.args.octets.now now.begun now.decides run.result.count
    (c.loop-reached.reached + run.result.count - c.args.at) (omega (arith, now.begun)) run.result.is_stop
    c.if-not-run.false run.ensures.reaches c.decide-event.ensures.decides

pub loop-reached-preserved-then-not-run : goal.loop-reached-preserved-then-not-run
loop-reached-preserved-then-not-run g c =
    let now = c.loop-reached.invariant in
    let run = c.run-run in
    let n = run.result.count in
    let old = state c.loop-reached.self c.loop-reached.check (g.F.FrameBuffer.octets c.loop-reached.frame) in
    let new = state run.new.self run.new.check (g.F.FrameBuffer.octets run.new.frame) in
    let bits = bits_from c.args.octets.now c.loop-reached.reached n in
    let quiet = subst (λ (stop : Bool). AdvancesToStop g.C.Check.check old bits stop new)
    (not-true run.result.is_stop c.if-not-run.true) run.ensures.reaches in
    record {
      begun = omega (arith, now.begun);
      ends = omega (arith, now.ends, run.ensures.count);
      decides = decides-on c.args.octets.now now.begun now.decides n (c.loop-reached.reached + n - c.args.at)
          (omega (arith, now.begun)) quiet;
      sound = run.ensures.sound;
    }

pub loop-reached-preserved : goal.loop-reached-preserved
loop-reached-preserved g c =
    let now = c.loop-reached.invariant in
    let run = c.run-run in
    let octets = g.F.FrameBuffer.octets c.decide-event.new.frame in
    let n = c.loop-reached.reached + run.result.count - c.args.at in
    let old = state c.args.self.now c.args.check.now (g.F.FrameBuffer.octets c.args.frame.now) in
    let new = state c.decide-event.new.self c.decide-event.new.check octets in
    let none : c.decide-event.result ≡ None =
    is-none c.decide-event.result (sym c.is_some.ensures ∙ c.if-is_some.false) in
    let advances = decided-on c.args.octets.now now.begun now.decides run.result.count n (omega (arith, now.begun))
    run.result.is_stop c.if-not-run.false run.ensures.reaches c.decide-event.ensures.decides in
    record {
      begun = omega (arith, now.begun);
      ends = omega (arith, now.ends, run.ensures.count);
      decides = subst (λ (r : Option Report).
          Decides g.C.Check.check old (bits_from c.args.octets.now c.args.at n) r new)
          (ap (option_map (reported octets)) none) advances.decides;
      sound = c.decide-event.ensures.sound;
    }

pub returns-clause-advances : goal.returns-clause-advances
returns-clause-advances g c =
    let now = c.loop-reached.invariant in
    let old = state c.args.self.now c.args.check.now (g.F.FrameBuffer.octets c.args.frame.now) in
    let new = state c.loop-reached.self c.loop-reached.check (g.F.FrameBuffer.octets c.loop-reached.frame) in
    let all : c.loop-reached.reached - c.args.at ≡ c.min-count.result =
    omega (arith, now.begun, now.ends, c.loop-reached-test.false) in
    advances-quiet (subst (λ (n : ℕ).
    Decides g.C.Check.check old (bits_from c.args.octets.now c.args.at n) None new) all now.decides)

pub returns-clause-all : goal.returns-clause-all
returns-clause-all g c none fewer =
    let now = c.loop-reached.invariant in
    let room = 1152921504606846976 - c.args.self.now.place in
    let count : c.min-count.result ≡ min (c.args.end - c.args.at) room =
    c.min-count.ensures ∙ least (c.args.end - c.args.at) room in
    let place = place-on c.args.octets.now now.begun now.decides in
    let fits = c.requires.sound.within.place_fits in
    omega (arith, count, fewer, fits, place, now.ends, now.begun, c.loop-reached-test.false)
