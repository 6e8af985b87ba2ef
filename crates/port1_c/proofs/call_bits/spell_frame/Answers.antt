use Rattle.std.proofs.Common.{None, inl, inr, arith}
use Rattle.port1_c.proofs.CallLemmas.{frame-taken, never-fails}
use Rattle.port1_c.proofs.call_bits.spell_frame.Goals as goal

pub unreachable-requires : goal.unreachable-requires
unreachable-requires c =
    let r = c.frame.ensures in
    never-fails c.args.octets.now c.new.result c.frame.new.self c.args.bits.now c.frame.new.sink c.new.ensures
    c.requires.empty.0 c.frame.result c.in-Err.field-0 c.in-Err.is
    c.requires.empty.1 (r.bound c.requires.most None)
    (λ bad.
    elim bad [
      | inl few ↦ absurd (omega (arith, few, c.requires.least))
      | inr many ↦
          absurd (omega (arith, many, c.requires.most))
    ])
    r.calls

pub returns : goal.returns
returns c = frame-taken c.args.octets.now c.new.result c.frame.new.self c.args.bits.now c.frame.new.sink c.new.ensures
    c.requires.empty.0 c.in-Ok.ensures.calls.encoded
