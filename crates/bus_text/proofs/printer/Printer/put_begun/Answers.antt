use Rattle.std.proofs.Common.{◌∙◌, sym, ap, option_map}
use Rattle.std.specs.Option.{option_to_list}
use Rattle.bus_text.specs.Listing.{begun_line}
use Rattle.bus_text.proofs.ListingLemmas.{put-none, put-dropped, put-left}
use Rattle.bus_text.proofs.printer.Printer.put_begun.Goals as goal

pub returns-in_default : goal.returns-in_default
returns-in_default c =
    put-none c.args.self.now.filter _ _ c.args.page.now
    (ap (λ b. option_to_list (option_map (begun_line c.args.line) b)) c.in_default.is)

pub returns-then-not-passes : goal.returns-then-not-passes
returns-then-not-passes c = rw c.in-Some.is
    (put-dropped c.args.self.now.filter (begun_line c.args.line c.in-Some.span) _ c.args.page.now
    (sym c.passes.ensures ∙ c.if-not-passes.true))

pub returns : goal.returns
returns c = rw c.in-Some.is
    (put-left c.args.self.now.filter (begun_line c.args.line c.in-Some.span)
    (sym c.passes.ensures ∙ c.if-not-passes.false) c.push_begun.ensures)
