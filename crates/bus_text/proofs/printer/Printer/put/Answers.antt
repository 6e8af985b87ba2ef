use Rattle.std.proofs.Common.{arith}
use Rattle.bus_pairing.specs.Shown.{found_on}
use Rattle.bus_text.proofs.ListingLemmas.{put-one}
use Rattle.bus_text.proofs.printer.Printer.put.Goals as goal

pub returns : goal.returns
returns c =
    let put = put-one c.args.self.now c.args.dictionary.now
    (found_on c.args.line c.args.octets.now c.args.seen_event.now)
    c.put_report.ensures c.put_verdict.ensures c.put_stray.ensures in
    record { bytes = put.bytes; len = omega (arith, put.len); written = put.written }
