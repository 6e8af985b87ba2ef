use Rattle.std.proofs.Common.{◌∙◌, ap, ◌*◌, ◌++◌, length, take, drop}
use Rattle.std.specs.Prelude.{replicate}
use Rattle.bus_text.specs.Listing.{hex_of}
use Rattle.bus_text.proofs.HexLemmas.{hex_front}
use Rattle.bus_text.proofs.hex_digits.push_few.Goals as goal

pub returns-clause-bytes : goal.returns-clause-bytes
returns-clause-bytes g c =
    let octets = c.args.octets.now in
    let zeros = drop (length octets) (replicate 16 0) in
    c.push_octets.ensures
    ∙ ap (λ digits. c.args.text.now.items ++ digits)
    (ap (take (2 * length octets)) (c.digits_of.ensures ∙ ap (λ copied. hex_of (copied ++ zeros))
    c.copy_from_slice.ensures.after)
    ∙ hex_front octets zeros)
