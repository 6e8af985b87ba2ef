use Rattle.std.proofs.Common.{◌≡◌, rules, subst}
use Rattle.bus_sample_tool.specs.Faults.{fault_line}
use Rattle.bus_sample_tool.specs.Reports.{Reports}
use Rattle.bus_sample_tool.proofs.report.fail.Goals as goal

pub returns-clause-reports : goal.returns-clause-reports
returns-clause-reports g c =
    let text : c.as_slice.result.now ≡ fault_line c.args.fault.now = search rules in
    subst (λ xs. Reports (g.E.Write.contents c.args.e.now) (g.E.Write.contents c.put.new.self)
    (g.E.FaultWriter.has_failed c.put.new.self) xs) text c.put.ensures
