-- Time fill that is taken at once.
use Rattle.std.specs.Prelude.{◌≡◌, ℕ, ◌+◌, ◌-◌, ◌*◌, ◌/◌, ◌<◌, List}
use Rattle.bus_bits.specs.Bits.{bits_from}
use Rattle.bus_line.specs.declared.decoder_words.DecoderWords.{DecoderWords}
use Rattle.bus_line.specs.Internal.Flags.{flags}

-- so many ones more, after sixteen, lead from old to new
pub record SkipsOnes (old : DecoderWords) (count : ℕ) (new : DecoderWords) : Type 0 where
  pub behind : 0 < count → old.last_bits ≡ 65535
  pub new_is : new ≡ record old { place = old.place + count }

-- the bits of these octets from bit `from` on and before bit `to` are whole flags
pub record AreFlags (octets : List ℕ) (from to : ℕ) : Type 0 where
  pub whole : to - from ≡ 8 * ((to - from) / 8)
  pub are : bits_from octets from (to - from) ≡ flags ((to - from) / 8)
