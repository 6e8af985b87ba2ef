use Rattle.std.proofs.Common.{arith}
use Rattle.bus_line.proofs.SettledKeptLemmas.{lowest-out, sum-fits}
use Rattle.bus_line.proofs.decoder.marked.Marked.without_lowest.Goals as goal

pub overflow_add-result : goal.overflow_add-result
overflow_add-result c =
    let m = c.args.self in
    record { fits = sum-fits m.bits m.marks m.count c.args.self.few c.args.self.small }

pub returns-clause-same : goal.returns-clause-same
returns-clause-same c =
    let m = c.args.self in
    let r = c.args.self in
    (lowest-out m.bits m.marks m.count c.from.result r.few r.small r.marked r.zeros c.from.ensures).same

pub invariant_of-result : goal.invariant_of-result
invariant_of-result c =
    let m = c.args.self in
    let r = c.args.self in
    let out = lowest-out m.bits m.marks m.count c.from.result r.few r.small r.marked r.zeros c.from.ensures in
    record { few = omega (arith, r.few); small = out.small; marked = out.marked; zeros = out.zeros }
