use Rattle.std.proofs.Common.{◌++◌, Some}
use Rattle.bus_line.specs.declared.line.Line.TheVariants.{First, Second}
use Rattle.bus_text.specs.Listing.{begun_lines, pending_lines}
use Rattle.bus_text.proofs.ListingLemmas.{put-both}
use Rattle.bus_text.proofs.printer.Printer.put_pair_ending.Goals as goal

pub returns : goal.returns
returns c =
    let f = c.args.self.now.filter in
    let first = begun_lines (Some First) c.args.ending.now.first in
    let second = begun_lines (Some Second) c.args.ending.now.second in
    let waits = pending_lines (Some First) c.args.ending.now.pending in
    put-both f (first ++ second) waits (put-both f first second c.put_begun.ensures c.put_begun-2.ensures)
    c.put_pending.ensures
