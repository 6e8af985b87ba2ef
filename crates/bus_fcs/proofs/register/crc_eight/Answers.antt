use Rattle.std.proofs.Common.{◌≡◌, ◌/◌, ◌%◌, ◌^◌, ap, ◌∙◌, sym}
use Rattle.std.specs.Int.Bits.{and_mask}
use Rattle.bus_fcs.specs.Internal.Register.{crc_steps}
use Rattle.bus_fcs.proofs.RegisterLemmas.{eight-octets}
use Rattle.bus_fcs.proofs.register.crc_eight.Goals as goal

pub returns : goal.returns
returns c =
    let n = c.args.octets in
    let one : c.crc_octet.result ≡ crc_steps 64 (n % 256) =
    c.crc_octet.ensures ∙ ap (crc_steps 64) (and_mask n 8) in
    let two : c.crc_octet-2.result ≡ crc_steps 56 (n / 2 ^ 8 % 256) =
    c.crc_octet-2.ensures ∙ ap (crc_steps 56) (and_mask (n / 2 ^ 8) 8) in
    let three : c.crc_octet-3.result ≡ crc_steps 48 (n / 2 ^ 16 % 256) =
    c.crc_octet-3.ensures ∙ ap (crc_steps 48) (and_mask (n / 2 ^ 16) 8) in
    let four : c.crc_octet-4.result ≡ crc_steps 40 (n / 2 ^ 24 % 256) =
    c.crc_octet-4.ensures ∙ ap (crc_steps 40) (and_mask (n / 2 ^ 24) 8) in
    let five : c.crc_octet-5.result ≡ crc_steps 32 (n / 2 ^ 32 % 256) =
    c.crc_octet-5.ensures ∙ ap (crc_steps 32) (and_mask (n / 2 ^ 32) 8) in
    let six : c.crc_octet-6.result ≡ crc_steps 24 (n / 2 ^ 40 % 256) =
    c.crc_octet-6.ensures ∙ ap (crc_steps 24) (and_mask (n / 2 ^ 40) 8) in
    let seven : c.crc_octet-7.result ≡ crc_steps 16 (n / 2 ^ 48 % 256) =
    c.crc_octet-7.ensures ∙ ap (crc_steps 16) (and_mask (n / 2 ^ 48) 8) in
    rw (one, two, three, four, five, six, seven, c.crc_octet-8.ensures) (sym (eight-octets n c.ranges.octets.fits))
