use Rattle.std.proofs.Common.{◌≡◌, ◌/◌, ◌%◌, ◌^◌, ap, ◌∙◌, sym}
use Rattle.std.specs.Int.Bits.{and_mask}
use Rattle.bus_fcs.specs.Internal.Register.{crc_steps}
use Rattle.bus_fcs.proofs.RegisterLemmas.{four-octets}
use Rattle.bus_fcs.proofs.register.crc_four.Goals as goal

pub returns : goal.returns
returns c =
    let n = c.args.octets in
    let one : c.crc_octet.result ≡ crc_steps 32 (n % 256) =
    c.crc_octet.ensures ∙ ap (crc_steps 32) (c.from.ensures ∙ and_mask n 8) in
    let two : c.crc_octet-2.result ≡ crc_steps 24 (n / 2 ^ 8 % 256) =
    c.crc_octet-2.ensures ∙ ap (crc_steps 24) (c.from-2.ensures ∙ and_mask (n / 2 ^ 8) 8) in
    let three : c.crc_octet-3.result ≡ crc_steps 16 (n / 2 ^ 16 % 256) =
    c.crc_octet-3.ensures ∙ ap (crc_steps 16) (c.from-3.ensures ∙ and_mask (n / 2 ^ 16) 8) in
    let four : c.crc_octet-4.result ≡ crc_steps 8 (n / 2 ^ 24) =
    c.crc_octet-4.ensures ∙ ap (crc_steps 8) c.from-4.ensures in
    rw (one, two, three, four) (sym (four-octets n c.ranges.octets.fits))
