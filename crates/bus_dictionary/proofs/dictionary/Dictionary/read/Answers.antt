use Rattle.std.proofs.Common.{rules, Ok, Err}
use Rattle.bus_dictionary.proofs.FaultTableLemmas.{is_read}
use Rattle.bus_dictionary.proofs.LawsLemmas.{text_is_map}
use Rattle.bus_dictionary.proofs.dictionary.Dictionary.read.Goals as goal

pub returns-in-Ok-clause-said : goal.returns-in-Ok-clause-said
returns-in-Ok-clause-said c = is_read c.args.text.now (Ok c.in-Ok.entries.items) c.in-Ok.ensures

pub returns-in-Err-clause-said : goal.returns-in-Err-clause-said
returns-in-Err-clause-said c = is_read c.args.text.now (Err c.in-Err.fault) c.in-Err.ensures

pub invariant_of-result : goal.invariant_of-result
invariant_of-result c = record {
  sound = text_is_map c.args.text.now c.in-Ok.entries.items c.in-Ok.ensures;
  numbers = search rules;
}
