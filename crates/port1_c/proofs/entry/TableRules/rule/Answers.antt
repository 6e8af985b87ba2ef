use Rattle.std.proofs.Common.{Some, sym, ap, ◌∙◌}
use Rattle.port1_c.proofs.TableLemmas.{rule-known, rule-unknown, rule-none}
use Rattle.port1_c.proofs.entry.TableRules.rule.Goals as goal

pub returns-in-Some : goal.returns-in-Some
returns-in-Some c = ap Some c.rule.ensures ∙ rule-known c.args.self.now.entries.now c.args.ftype c.in-Some.entry
    (sym c.entry.ensures ∙ c.in-Some.is) c.if-entry-ne0.true

pub returns-in_default : goal.returns-in_default
returns-in_default c = rule-unknown c.args.self.now.entries.now c.args.ftype c.in-Some.entry
    (sym c.entry.ensures ∙ c.in-Some.is) c.if-entry-ne0.false

pub returns-in_default-2 : goal.returns-in_default-2
returns-in_default-2 c = rule-none c.args.self.now.entries.now c.args.ftype (sym c.entry.ensures ∙ c.in_default.is)
