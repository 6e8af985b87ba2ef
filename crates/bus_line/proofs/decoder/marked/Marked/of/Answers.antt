use Rattle.bus_line.proofs.SettledKeptLemmas.{unmarked-are}
use Rattle.bus_line.proofs.decoder.marked.Marked.of.Goals as goal

pub returns-clause-same : goal.returns-clause-same
returns-clause-same c = (unmarked-are c.args.bits c.args.marks c.args.count c.requires.few c.requires.marked).same

pub invariant_of-result : goal.invariant_of-result
invariant_of-result c =
    let are = unmarked-are c.args.bits c.args.marks c.args.count c.requires.few c.requires.marked in
    record { few = c.requires.few; small = are.small; marked = c.requires.marked; zeros = are.zeros }
