use Rattle.std.proofs.Common.{◌++◌, ◌∙◌, [], refl, sym, append-nil, arith}
use Rattle.bus_tap.specs.Blocks.{block_arrivals}
use Rattle.bus_sample.specs.Recording.{levels}
use Rattle.bus_sample.proofs.RunLemmas.{arrivals-with, taken-with}
use Rattle.bus_sample.proofs.reader.SampleRun.put_block.Goals as goal

pub returns-in-Ok-clause-taken : goal.returns-in-Ok-clause-taken
returns-in-Ok-clause-taken g c = λ start ss taken.
    let self = c.args.self.now in
    let more = c.args.octets.now in
    let advances = c.consume_block-edges.ensures.taken (levels self.options more)
    (rw (c.requires.wires) at c.block-block.ensures) in
    taken-with start (g.W.Write.contents c.args.w.now) (g.W.Write.contents c.put_block.new.w) self _ ss more
    (block_arrivals self.tap.samples c.consume_block-edges.result) c.requires.sound.given.0 advances taken refl
    (rw (c.samples-from.ensures) at (c.in-Ok.ensures.put start _ _ taken.marks))

pub returns-in-Ok-clause-sound : goal.returns-in-Ok-clause-sound
returns-in-Ok-clause-sound g c =
    let self = c.args.self.now in
    let sound = c.requires.sound in
    let advances = c.consume_block-edges.ensures.taken (levels self.options c.args.octets.now)
    (rw (c.requires.wires) at c.block-block.ensures) in
    let count = c.consume_block-edges.ensures.samples in record {
      given = (advances.hold ∙ sound.given.0, advances.jump ∙ sound.given.1);
      size = sound.size;
      levels = sound.levels;
      samples = omega (arith, count, c.requires.takes.room);
      few = omega (arith, sound.few, c.put_block.ensures.few, count);
      part = sound.part;
    }

pub returns-in-Err-clause-taken : goal.returns-in-Err-clause-taken
returns-in-Err-clause-taken g c = λ start ss taken.
    let self = c.args.self.now in
    let more = c.args.octets.now in
    let advances = c.consume_block-edges.ensures.taken (levels self.options more)
    (rw (c.requires.wires) at c.block-block.ensures) in (
      ss ++ more,
      ([], sym (append-nil (ss ++ more))),
      rw (arrivals-with self.options self.tap c.consume_block-edges.new.self ss more
          (block_arrivals self.tap.samples c.consume_block-edges.result) c.requires.sound.given.0 advances taken.tap)
          (rw (c.samples-from.ensures) at (c.in-Err.ensures.put start _ _ taken.marks)),
    )

pub returns-in-Err-clause-sound : goal.returns-in-Err-clause-sound
returns-in-Err-clause-sound g c =
    let self = c.args.self.now in
    let sound = c.requires.sound in
    let advances = c.consume_block-edges.ensures.taken (levels self.options c.args.octets.now)
    (rw (c.requires.wires) at c.block-block.ensures) in
    let count = c.consume_block-edges.ensures.samples in record {
      given = (advances.hold ∙ sound.given.0, advances.jump ∙ sound.given.1);
      size = sound.size;
      levels = sound.levels;
      samples = omega (arith, count, c.requires.takes.room);
      few = omega (arith, sound.few, c.put_block.ensures.few, count);
      part = sound.part;
    }
