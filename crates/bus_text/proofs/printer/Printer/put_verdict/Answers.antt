use Rattle.std.proofs.Common.{ap, option_map}
use Rattle.std.specs.Option.{option_to_list}
use Rattle.bus_text.specs.Listing.{verdict_line}
use Rattle.bus_text.proofs.ListingLemmas.{put-none}
use Rattle.bus_text.proofs.printer.Printer.put_verdict.Goals as goal

pub returns-in_default : goal.returns-in_default
returns-in_default c =
    put-none c.args.self.now.filter _ _ c.args.page.now
    (ap (λ v. option_to_list (option_map (verdict_line c.args.line) v)) c.in_default.is)
