use Rattle.std.proofs.Common.{◌≡◌, ◌<◌, bit_xor, ap, ◌∙◌}
use Rattle.std.proofs.lemmas.List.Elements.{All-from_get_or}
use Rattle.std.specs.Int.Bits.{xor_comm}
use Rattle.bus_fcs.specs.Internal.Register.{crc_steps}
use Rattle.bus_fcs.proofs.FoldLemmas.{state-four}
use Rattle.bus_fcs.proofs.octet_check.OctetCheckCheck.fold_four.Goals as goal

pub returns-clause-folded : goal.returns-clause-folded
returns-clause-folded c = λ before folded.
    let s = c.args.self.now.state in
    let os = c.args.octets.now in
    let w = c.from_le_bytes.result in
    let small = All-from_get_or (λ o. o < 256) os 0 (λ i inside. c.fits-octets i) in
    let sum : c.crc_four-self.result ≡ crc_steps 32 (bit_xor s w) =
    c.crc_four-self.ensures ∙ ap (λ n. crc_steps 32 (bit_xor w n)) c.from.ensures
    ∙ ap (crc_steps 32) (xor_comm w s) in
    rw sum (state-four s w os before c.told-octets small c.from_le_bytes.ensures folded)
