use Rattle.std.proofs.Common.{◌≡◌, ◌*◌, length, ap, arith}
use Rattle.std.proofs.lemmas.Grind.{common_steps}
use Rattle.hex.proofs.HexLemmas.{IsOk-decode_sized, IsOk-written}
use Rattle.bus_text.proofs.digits.octets_of.Goals as goal

pub unwrap-requires : goal.unwrap-requires
unwrap-requires g c =
    let s = c.args.digits.now in
    let old = c.as_mut_slice.result.now in
    let twice : length s ≡ 2 * length c.truncate.new.self.items =
    grind (
      arith,
      common_steps,
      c.truncate.ensures.items,
      c.from-octets.ensures.0,
      c.requires.room,
      c.requires.even,
    ) in
    let sized = (IsOk-decode_sized s (length old)).1
    (omega (arith, twice, ap length c.as_mut_slice.ensures.value), c.requires.all) in
    (IsOk-written _ c.decode_to_slice.result c.decode_to_slice.new.out c.decode_to_slice.ensures.value).1 sized
