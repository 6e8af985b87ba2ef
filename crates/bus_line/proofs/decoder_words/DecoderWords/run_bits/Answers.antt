use Rattle.std.proofs.Common.{List, Bool, subst, arith}
use Rattle.bus_line.specs.Words.{state}
use Rattle.bus_line.specs.Internal.AdvancesTo.{AdvancesToStop}
use Rattle.bus_line.proofs.decoder_words.DecoderWords.run_bits.Goals as goal

pub returns-then-self-eq-NEVER-clause-reaches : goal.returns-then-self-eq-NEVER-clause-reaches
returns-then-self-eq-NEVER-clause-reaches g c =
    c.run_quiet.ensures.reaches c.args.check.now (g.F.FrameBuffer.octets c.args.frame.now)

pub returns-then-self-eq-NEVER-clause-sound : goal.returns-then-self-eq-NEVER-clause-sound
returns-then-self-eq-NEVER-clause-sound g c =
    record {
      within = c.run_quiet.ensures.within;
      room = omega (arith, c.requires.sound.room, c.run_quiet.ensures.longest);
    }

pub returns-clause-reaches : goal.returns-clause-reaches
returns-clause-reaches g c =
    let run = c.run_word in
    let octets = g.F.FrameBuffer.octets in
    subst (λ (bits : List Bool). AdvancesToStop g.C.Check.check
    (state c.args.self.now c.args.check.now (octets c.args.frame.now)) bits run.result.is_stop
    (state run.new.self run.new.check (octets run.new.frame)))
    (c.word_at.ensures.bits run.result.count run.ensures.count.1) run.ensures.reaches
