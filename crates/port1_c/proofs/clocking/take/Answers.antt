use Rattle.std.proofs.Common.{◌++◌, Some, map, sym, ap, ◌∙◌}
use Rattle.std.specs.Option.{option_to_list}
use Rattle.bus_line.proofs.DueMoreLemmas.{due_at-append}
use Rattle.bus_line.proofs.ReportLemmas.{due-it}
use Rattle.bus_line.specs.LineReport.{line_report}
use Rattle.bus_tap.proofs.ArrivedLemmas.{arrived-more}
use Rattle.port1_c.specs.Clocks.{arrived_told, memory_of}
use Rattle.port1_c.specs.Line.{octets_of}
use Rattle.port1_c.specs.Rest.{arrival_told}
use Rattle.port1_c.proofs.clocking.take.Goals as goal

pub returns-clause-adds : goal.returns-clause-adds
returns-clause-adds c = λ ok xs after.
    let now = c.args.clocks.now in
    let x = arrival_told c.args.arrival.now in
    let pushes = rw (c.in-Some.ensures.value) at c.in-Ok.ensures.pushes in
    arrived-more due_at-append due-it now.first.words.origin now.first.words.longest xs x
    ∙ ap (λ hs. arrived_told now xs ++ hs)
    (pushes.decides xs after
    ∙ ap (λ o. map (line_report (Some x.0)) (option_to_list o))
    (sym (c.of.ensures.decides (octets_of (memory_of c.push.new.self x.0)))))
