use Rattle.std.proofs.Common.{rules, sym, ◌∙◌}
use Rattle.bus_pairing.proofs.PairingLemmas.{waiting-frame}
use Rattle.bus_pairing.proofs.pairing.Pairing.judge_frame.Goals as goal

pub returns-in-Some-clause-advances : goal.returns-in-Some-clause-advances
returns-in-Some-clause-advances g c = rw (c.requires.frame) (record {
  keeps = λ hs _. waiting-frame (g.R.Rules.entries c.args.rules.now) hs c.args.line c.args.found.now.event.span
      c.args.octets.now _ _ c.read-standing.ensures.value (sym c.in-Some.is ∙ c.command.ensures);
  says = λ hs waits. search rules;
})

pub returns-in_default-clause-advances : goal.returns-in_default-clause-advances
returns-in_default-clause-advances g c = rw (c.requires.frame) (record {
  keeps = λ hs _. c.decide.ensures.none
      ∙ waiting-frame (g.R.Rules.entries c.args.rules.now) hs c.args.line c.args.found.now.event.span
      c.args.octets.now _ _ c.read-standing.ensures.value (sym c.in_default.is ∙ c.command.ensures);
  says = λ hs waits. search rules;
})
