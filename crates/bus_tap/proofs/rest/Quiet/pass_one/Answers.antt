use Rattle.std.proofs.Common.{arith}
use Rattle.bus_tap.proofs.QuietLemmas.{passes-first, passes-second}
use Rattle.bus_tap.proofs.rest.Quiet.pass_one.Goals.{then-is_second, else-is_second+then-self-gt0}
use Rattle.bus_tap.proofs.rest.Quiet.pass_one.Goals as goal

pub returns-clause-quiet : goal.returns-clause-quiet
returns-clause-quiet c = λ bit xs quiet passed. elim c.if-is_second.branch [
  | then-is_second w ↦
      rw (w.self-is, w.if-is_second.true, w.saturating_sub-self.ensures) (passes-second c.args.most xs bit)
  | else-is_second+then-self-gt0 w ↦
      rw (w.self-is, w.if-is_second.false)
      (passes-first c.args.most c.args.self.now.left xs bit (omega (arith, w.if-self-gt0.true)) quiet)
]
