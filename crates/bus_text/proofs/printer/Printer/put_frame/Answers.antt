use Rattle.std.proofs.Common.{◌∙◌, sym}
use Rattle.bus_text.specs.Listing.{frame_line}
use Rattle.bus_text.proofs.ListingLemmas.{put-dropped, put-left}
use Rattle.bus_text.proofs.printer.Printer.put_frame.Goals as goal

pub returns-then-not-passes : goal.returns-then-not-passes
returns-then-not-passes c =
    put-dropped c.args.self.now.filter (frame_line c.args.line c.args.kind c.args.span c.args.station c.args.ftype) _
    c.args.page.now (sym c.passes.ensures ∙ c.if-not-passes.true)

pub returns : goal.returns
returns c =
    put-left c.args.self.now.filter (frame_line c.args.line c.args.kind c.args.span c.args.station c.args.ftype)
    (sym c.passes.ensures ∙ c.if-not-passes.false) c.push_frame.ensures
