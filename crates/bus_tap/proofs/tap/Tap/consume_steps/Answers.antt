use Rattle.std.proofs.Common.{◌≡◌, ◌+◌, ◌-◌, [], ◌∷◌, ◌++◌, replicate, refl, ap, ◌∙◌, subst, arith}
use Rattle.std.proofs.lemmas.List.{length-replicate}
use Rattle.bus_tap.specs.Sampled.{bits_of_edges, with_sample}
use Rattle.bus_tap.specs.Tapped.{AdvancesTap}
use Rattle.bus_tap.proofs.TapLemmas.{advances-further, replicate-more, replicate-both}
use Rattle.bus_tap.proofs.tap.Tap.consume_steps.Goals as goal

pub returns-then-is_settled-clause-taken : goal.returns-then-is_settled-clause-taken
returns-then-is_settled-clause-taken c =
    let s = c.args.sample in
    let all : c.args.count ≡ c.loop-taken.taken + (c.args.count - c.loop-taken.taken) =
    omega (arith, c.loop-taken-test.true) in
    let both : replicate c.args.count s ≡ replicate c.loop-taken.taken s
    ++ replicate (c.args.count - c.loop-taken.taken) s =
    ap (λ n. replicate n s) all
    ∙ replicate-both c.loop-taken.taken (c.args.count - c.loop-taken.taken) s in
    rw both (advances-further c.args.self.now c.loop-taken.self c.pass.new.self _ _ [] []
    c.loop-taken.invariant.advances c.pass.ensures)

pub returns-then-not-is_none-clause-taken : goal.returns-then-not-is_none-clause-taken
returns-then-not-is_none-clause-taken c =
    let before = c.loop-taken.invariant.advances.samples in
    let at : c.args.self.now.samples + (c.loop-taken.taken + 1) - 1 ≡ c.loop-taken.self.samples =
    omega (arith, before, length-replicate c.loop-taken.taken c.args.sample) in
    rw (replicate-more c.loop-taken.taken c.args.sample, at)
    (advances-further c.args.self.now c.loop-taken.self c.step-edges.new.self _ _ [] _
    c.loop-taken.invariant.advances c.step-edges.ensures)

pub loop-taken-preserved : goal.loop-taken-preserved
loop-taken-preserved c = record {
  room = c.loop-taken.invariant.room;
  advances = rw (replicate-more c.loop-taken.taken c.args.sample)
      (advances-further c.args.self.now c.loop-taken.self c.step-edges.new.self _ _ [] []
      c.loop-taken.invariant.advances
      (subst
      (λ e. AdvancesTap c.loop-taken.self (c.args.sample ∷ [])
      (with_sample c.loop-taken.self.samples (bits_of_edges e)) c.step-edges.new.self)
      (c.if-not-is_none.ensures.0 refl) c.step-edges.ensures));
}

pub returns-clause-taken : goal.returns-clause-taken
returns-clause-taken c =
    let all : c.loop-taken.taken ≡ c.args.count = omega (arith, c.loop-taken-test.false) in
    rw (← all) c.loop-taken.invariant.advances
