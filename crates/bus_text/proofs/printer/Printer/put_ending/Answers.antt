use Rattle.std.proofs.Common.{None}
use Rattle.bus_text.specs.Listing.{begun_lines, pending_lines}
use Rattle.bus_text.proofs.ListingLemmas.{put-both}
use Rattle.bus_text.proofs.printer.Printer.put_ending.Goals as goal

pub returns : goal.returns
returns c =
    put-both c.args.self.now.filter (begun_lines None c.args.ending.now.begun)
    (pending_lines None c.args.ending.now.pending) c.put_begun.ensures c.put_pending.ensures
