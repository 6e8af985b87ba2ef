use Rattle.std.proofs.Common.{◌<◌, ◌++◌, take, drop, ◌∙◌}
use Rattle.std.proofs.lemmas.List.Elements.{All-from_get_or}
use Rattle.std.proofs.lemmas.Nat.{le_bytes_8}
use Rattle.bus_formats.proofs.EightBitsOfNineLemmas.{joined-long, joined-small, masks-join}
use Rattle.bus_formats.proofs.eight_bits.joined.Goals as goal

pub returns : goal.returns
returns c =
    let xs = c.args.front.now in
    let ys = c.args.back.now in
    let k = c.args.place in
    let small-front = All-from_get_or (λ b. b < 256) xs 0 (λ i inside. c.fits-front i) in
    let small-back = All-from_get_or (λ b. b < 256) ys 0 (λ i inside. c.fits-back i) in
    c.to_le_bytes.ensures ∙ le_bytes_8 (take k xs ++ drop k ys) _
    (joined-long k xs ys c.requires c.told-front c.told-back) (joined-small k xs ys small-front small-back)
    (masks-join k _ _ xs ys c.requires c.told-front c.told-back small-front small-back c.from_le_bytes.ensures
    c.from_le_bytes-2.ensures)
