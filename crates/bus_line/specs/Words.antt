-- A decoder's words, and the decoder that they make with a check and octets beside them.
use Rattle.std.specs.Prelude.{◌≢◌, ◌==◌, ℕ, ◌+◌, ◌-◌, ◌*◌, ◌/◌, ◌≤◌, ◌<◌, ◌^◌, List, length, Option, Some, None}
use Rattle.std.specs.Prelude.{if◌then◌else◌}
pub use Rattle.bus_line.specs.LineState.{LineState, stored_of}
use Rattle.bus_bits.specs.Limits.{most_places}
use Rattle.bus_line.specs.declared.decoder_words.DecoderWords.{DecoderWords}

-- the first place of the open piece, by the place after which each bit settles one of it
abbrev pub first_in : ℕ → Option ℕ
first_in at = if at == 2 ^ 62 then None else Some (at - 8)

-- the decoder that these make; how many bits it took is told by its places
abbrev pub state : {C : Type 0} → DecoderWords → C → List ℕ → LineState C
state w check octets = record {
  longest = w.longest;
  origin = w.origin;
  place = w.place;
  last_bits = w.last_bits;
  first = first_in w.settles_at;
  data_bits = w.data_bits;
  partial = w.partial;
  octets = octets;
  check = check;
  spent = record {
    shifted = w.place - w.origin;
    assembled = w.assembled + w.data_bits;
    folded = w.folded;
    stored = w.stored + stored_of w.longest w.data_bits;
    copied = 0;
    handled = 0;
  };
}

-- before the first bit
abbrev pub fresh_words : ℕ → ℕ → DecoderWords
fresh_words longest origin = record {
  longest = longest;
  origin = origin;
  place = origin;
  settles_at = 2 ^ 62;
  data_bits = 0;
  assembled = 0;
  folded = 0;
  stored = 0;
  last_bits = 0;
  partial = 0;
}

-- they are within the bounds of a decoder
pub record AreDecoderWords (w : DecoderWords) : Type 0 where
  pub longest_least : 3 ≤ w.longest
  pub longest_most : w.longest ≤ 256
  pub place_fits : w.place ≤ most_places
  pub begins : w.origin ≤ w.place
  pub settles_late : 8 ≤ w.settles_at
  pub settles : w.settles_at ≢ 2 ^ 62 → w.settles_at ≤ w.place + 8
  pub settled : w.assembled + w.data_bits ≤ w.place - w.origin
  pub filled : w.stored ≤ w.assembled
  pub paid : w.folded ≤ 8 * w.assembled
  pub sixteen : w.last_bits < 65536

-- and there is room for these octets of a piece
pub record IsDecoder (w : DecoderWords) (octets : List ℕ) : Type 0 where
  pub within : AreDecoderWords w
  pub room : length octets ≤ w.longest + 2

-- the octets have bits from bit `from` on and before bit `end`, and all of these have places
pub record HasBits (w : DecoderWords) (octets : List ℕ) (from end : ℕ) : Type 0 where
  pub some : from < end
  pub enough : end ≤ 8 * length octets
  pub room : w.place + (end - from) ≤ most_places
