use Rattle.std.proofs.Common.{◌≡◌, ◌+◌, ◌-◌, [], ◌++◌, replicate, refl, ap, ◌∙◌, subst, arith}
use Rattle.bus_tap.specs.Sampled.{bits_of_edges, with_sample}
use Rattle.bus_tap.specs.Tapped.{TapState, AdvancesTap}
use Rattle.bus_tap.proofs.TapLemmas.{advances-further, replicate-both}
use Rattle.bus_tap.proofs.tap.Tap.consume.Goals as goal

pub returns-then-is_none-clause-taken : goal.returns-then-is_none-clause-taken
returns-then-is_none-clause-taken c =
    let s = c.args.sample in
    let stood = c.args.self.now.hold + 1 in
    let rest = c.args.count - (c.from-samples.result + 1) in
    let hold = ap (λ (t : TapState). t.hold) c.self.view_is in
    let all : c.args.count ≡ stood + rest =
    omega (arith, hold, c.from.ensures, c.from-samples.ensures, c.if-count-from.false) in
    let both : replicate c.args.count s ≡ replicate stood s ++ replicate rest s =
    ap (λ n. replicate n s) all ∙ replicate-both stood rest s in (
      omega arith,
      (λ some. some),
      rw both
          (advances-further c.args.self.now c.consume_held-edges.new.self c.pass-then-is_none.new.self _ _ [] []
          (subst (λ e. AdvancesTap c.args.self.now (replicate stood s)
          (with_sample (c.args.self.now.samples + c.args.self.now.hold) (bits_of_edges e))
          c.consume_held-edges.new.self)
          (c.if-is_none.ensures.0 refl) c.consume_held-edges.ensures.taken) c.pass-then-is_none.ensures),
    )

pub returns-clause-taken : goal.returns-clause-taken
returns-clause-taken c =
    let old = c.args.self.now in
    let hold = ap (λ (t : TapState). t.hold) c.self.view_is in
    let stood : c.from-samples.result + 1 ≡ old.hold + 1 = omega (arith, hold, c.from-samples.ensures) in
    let last : old.samples + (c.from-samples.result + 1) - 1 ≡ old.samples + old.hold = omega (arith, stood) in (
      omega (arith, hold, c.from.ensures, c.from-samples.ensures, c.if-count-from.false),
      (λ some. omega arith),
      rw (last, stood) c.consume_held-edges.ensures.taken,
    )
