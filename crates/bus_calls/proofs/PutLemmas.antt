-- The lines of nothing.
use Rattle.std.proofs.Common.{◌≡◌, List, [], refl}
use Rattle.bus_dictionary.specs.Entry.{FrameType}
use Rattle.bus_text.specs.Listing.{text_of, listing}
use Rattle.bus_text.specs.declared.printer.Printer.{Printer}

-- where nothing is seen there are no lines
pub listing-nothing : (p : Printer) (d : List FrameType) → listing p d [] ≡ []
unfolding text_of
listing-nothing p d = refl
