use Rattle.std.proofs.Common.{rules, ◌∙◌}
use Rattle.bus_pairing.proofs.PairingLemmas.{waiting-damage}
use Rattle.bus_pairing.proofs.pairing.Pairing.judge_damage.Goals as goal

pub returns-clause-advances : goal.returns-clause-advances
returns-clause-advances g c = λ line octets. record {
  keeps = λ hs _. c.decide.ensures.none
      ∙ waiting-damage (g.R.Rules.entries c.args.rules.now) hs _ (c.requires.damage octets);
  says = λ hs waits. let damage = c.requires.damage octets in search rules;
}
