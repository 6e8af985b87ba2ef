use Rattle.std.proofs.Common.{◌≡◌, ◌+◌, ◌*◌, ◌++◌, take}
use Rattle.arrayvec.specs.ArrayVec.{array_vec_len}
use Rattle.bus_text.specs.Listing.{hex_of}
use Rattle.bus_text.proofs.hex_digits.push_hex.Given as goal

abbrev pub invariant-loop-chunk : goal.invariant-loop-chunk
invariant-loop-chunk g l = record {
  bytes : l.text.items ≡ l.initial.text.items ++ hex_of (take (16 * l.chunk-index) l.octets);
  len : array_vec_len l.text ≡ array_vec_len l.initial.text + 32 * l.chunk-index;
}
