-- The bits and faults of captures that were worked out by hand, computed from the definitions alone.
use Rattle.std.proofs.Common.{◌≡◌, ℕ, List, Bool, true, false, [], ◌∷◌, ◌++◌, take, drop, ◌-◌, ◌^◌, Some, None, codes}
use Rattle.std.proofs.Common.{refl}
use Rattle.bus_bits.specs.Octet.{bits_of, bits_of_octets}
use Rattle.bus_formats.specs.Capture.{bad_mark, magic, too_many, pad_bits, trailing, place_limit, short_head}
use Rattle.bus_formats.specs.Capture.{short_body}
use Rattle.bus_bits.specs.Text.{text_bits}
use Rattle.bus_formats.specs.Capture.{text_capture, text_pair_capture, text_arrival_capture, capped}
use Rattle.bus_formats.specs.Packed.{packed_whole, packed_capture, packed_pair_whole, packed_pair_capture, wanted}
use Rattle.bus_formats.specs.Packed.{packed_arrival_whole, packed_arrival_capture, in_pairs}

-- a head that counts 57 bits, and the whole octets after it
abbrev head : List ℕ
head = codes "TS2BITS1" ++ (57 ∷ 0 ∷ 0 ∷ 0 ∷ 0 ∷ 0 ∷ 0 ∷ 0 ∷ [])

abbrev body : List ℕ
body = 126 ∷ 16 ∷ 131 ∷ 0 ∷ 125 ∷ 203 ∷ 253 ∷ []

-- a frame between two flags
abbrev bits : List Bool
bits = text_bits (codes "01111110 00001000110000010000000010111110110100111 01111110")

-- all of it
whole : packed_whole (head ++ body ++ 0 ∷ []) ≡ record { bits = bits; fault = None }
unfolding packed_whole packed_capture wanted bits_of_octets bits_of
whole = refl

-- without the last octet
short : packed_whole (head ++ body) ≡ record { bits = take 56 bits; fault = Some short_body }
unfolding packed_whole packed_capture wanted bits_of_octets bits_of
short = refl

-- an unused bit of the last octet is 1
padded : packed_whole (head ++ body ++ 2 ∷ []) ≡ record { bits = take 56 bits; fault = Some pad_bits }
unfolding packed_whole packed_capture wanted bits_of_octets bits_of
padded = refl

-- one octet too many
followed : packed_whole (head ++ body ++ 0 ∷ 0 ∷ []) ≡ record { bits = bits; fault = Some trailing }
unfolding packed_whole packed_capture wanted bits_of_octets bits_of
followed = refl

-- another first letter
other : packed_whole (85 ∷ drop 1 head ++ body ++ 0 ∷ []) ≡ record { bits = []; fault = Some magic }
unfolding packed_whole packed_capture wanted bits_of_octets bits_of
other = refl

-- less than a head
headless : packed_whole (take 10 head) ≡ record { bits = []; fault = Some short_head }
unfolding packed_whole packed_capture wanted bits_of_octets bits_of
headless = refl

-- a head that counts one bit more than may be
many : packed_whole (codes "TS2BITS1" ++ 1 ∷ 0 ∷ 0 ∷ 0 ∷ 0 ∷ 0 ∷ 0 ∷ 16 ∷ [])
    ≡ record { bits = []; fault = Some too_many }
unfolding packed_whole packed_capture wanted bits_of_octets bits_of
many = refl

-- the last bit has no place, and its octet is bad
padded_at_limit : capped (2 ^ 60 - 56) (packed_whole (head ++ body ++ 2 ∷ []))
    ≡ record { bits = take 56 bits; fault = Some pad_bits }
unfolding packed_whole packed_capture wanted bits_of_octets bits_of
padded_at_limit = refl

-- the last bit has no place
at_limit : capped (2 ^ 60 - 56) (packed_whole (head ++ body ++ 0 ∷ []))
    ≡ record { bits = take 56 bits; fault = Some place_limit }
unfolding packed_whole packed_capture wanted bits_of_octets bits_of
at_limit = refl

-- a text with a bad octet
bad : text_capture (codes "01111110 2")
    ≡ record { bits = false ∷ true ∷ true ∷ true ∷ true ∷ true ∷ true ∷ false ∷ []; fault = Some (bad_mark 9) }
unfolding packed_whole packed_capture wanted bits_of_octets bits_of
bad = refl

-- ---- two lines

-- a head that counts some pairs, fewer than 256
abbrev pair_head : ℕ → List ℕ
pair_head n = codes "TS2BITS2" ++ (n ∷ 0 ∷ 0 ∷ 0 ∷ 0 ∷ 0 ∷ 0 ∷ 0 ∷ [])

-- each pair once
abbrev each : List (Bool × Bool)
each = (false, false) ∷ (true, false) ∷ (false, true) ∷ (true, true) ∷ []

-- of the marks `0` to `3`, with a space and a line end between them
pair_marks : text_pair_capture (48 ∷ 49 ∷ 32 ∷ 50 ∷ 13 ∷ 10 ∷ 51 ∷ []) ≡ record { bits = each; fault = None }
pair_marks = refl

-- of an octet `11100100`, its least significant bit last
pair_octet : packed_pair_whole (pair_head 4 ++ 228 ∷ []) ≡ record { bits = each; fault = None }
unfolding packed_pair_whole packed_pair_capture wanted bits_of_octets bits_of in_pairs
pair_octet = refl

-- a mark too high
bad_pair : text_pair_capture (codes "4") ≡ record { bits = []; fault = Some (bad_mark 0) }
bad_pair = refl

bad_pair_later : text_pair_capture (codes "01 2/3") ≡ record { bits = take 3 each; fault = Some (bad_mark 4) }
bad_pair_later = refl

-- fifteen places at which both bits are 1
abbrev fifteen : List (Bool × Bool)
fifteen =
    let p : List (Bool × Bool) = (true, true) ∷ (true, true) ∷ (true, true) ∷ (true, true) ∷ (true, true) ∷ [] in p ++ p
    ++ p

pairs_whole : packed_pair_whole (pair_head 15 ++ 255 ∷ 255 ∷ 255 ∷ 63 ∷ []) ≡ record { bits = fifteen; fault = None }
unfolding packed_pair_whole packed_pair_capture wanted bits_of_octets bits_of in_pairs
pairs_whole = refl

-- the second bit of the sixteenth pair is 1
pairs_padded : packed_pair_whole (pair_head 15 ++ 255 ∷ 255 ∷ 255 ∷ 191 ∷ [])
    ≡ record { bits = take 12 fifteen; fault = Some pad_bits }
unfolding packed_pair_whole packed_pair_capture wanted bits_of_octets bits_of in_pairs
pairs_padded = refl

-- the first bit of the sixteenth pair is 1
pairs_padded_first : packed_pair_whole (pair_head 15 ++ 255 ∷ 255 ∷ 255 ∷ 127 ∷ [])
    ≡ record { bits = take 12 fifteen; fault = Some pad_bits }
unfolding packed_pair_whole packed_pair_capture wanted bits_of_octets bits_of in_pairs
pairs_padded_first = refl

-- one octet too few, and one too many
pairs_short : packed_pair_whole (pair_head 15 ++ 255 ∷ 255 ∷ 255 ∷ [])
    ≡ record { bits = take 12 fifteen; fault = Some short_body }
unfolding packed_pair_whole packed_pair_capture wanted bits_of_octets bits_of in_pairs
pairs_short = refl

pairs_followed : packed_pair_whole (pair_head 15 ++ 255 ∷ 255 ∷ 255 ∷ 63 ∷ 0 ∷ [])
    ≡ record { bits = fifteen; fault = Some trailing }
unfolding packed_pair_whole packed_pair_capture wanted bits_of_octets bits_of in_pairs
pairs_followed = refl

-- the head of one line before pairs, and that of two lines before bits
pairs_other : packed_pair_whole (head ++ body ++ 0 ∷ []) ≡ record { bits = []; fault = Some magic }
unfolding packed_pair_whole packed_pair_capture wanted bits_of_octets bits_of in_pairs
pairs_other = refl

bits_other : packed_whole (pair_head 15 ++ 255 ∷ 255 ∷ 255 ∷ 63 ∷ []) ≡ record { bits = []; fault = Some magic }
unfolding packed_whole packed_capture wanted bits_of_octets bits_of
bits_other = refl

-- less than a head, and a head that counts one pair more than may be
pairs_headless : packed_pair_whole (take 15 (pair_head 15)) ≡ record { bits = []; fault = Some short_head }
unfolding packed_pair_whole packed_pair_capture wanted bits_of_octets bits_of in_pairs
pairs_headless = refl

pairs_many : packed_pair_whole (codes "TS2BITS2" ++ 1 ∷ 0 ∷ 0 ∷ 0 ∷ 0 ∷ 0 ∷ 0 ∷ 16 ∷ [])
    ≡ record { bits = []; fault = Some too_many }
unfolding packed_pair_whole packed_pair_capture wanted bits_of_octets bits_of in_pairs
pairs_many = refl

-- the last pair has no place
pairs_at_limit : capped (2 ^ 60 - 14) (packed_pair_whole (pair_head 15 ++ 255 ∷ 255 ∷ 255 ∷ 63 ∷ []))
    ≡ record { bits = take 14 fifteen; fault = Some place_limit }
unfolding packed_pair_whole packed_pair_capture wanted bits_of_octets bits_of in_pairs
pairs_at_limit = refl

-- ---- two lines with a clock each

-- a low and a high bit of the first line, and then of the second, with a space and a line end between them
arrival_marks : text_arrival_capture (codes "01 o" ++ 13 ∷ 10 ∷ codes "i") ≡ record { bits = each; fault = None }
arrival_marks = refl

-- the same in an octet `11100100`: in the two bits of each the level is the lower, and the line the higher
arrival_octet : packed_arrival_whole (codes "TS2BITS3" ++ 4 ∷ 0 ∷ 0 ∷ 0 ∷ 0 ∷ 0 ∷ 0 ∷ 0 ∷ 228 ∷ [])
    ≡ record { bits = each; fault = None }
unfolding packed_arrival_whole packed_arrival_capture wanted bits_of_octets bits_of in_pairs
arrival_octet = refl

-- a mark of pairs, and the head of pairs
bad_arrival : text_arrival_capture (codes "0o2")
    ≡ record { bits = take 1 each ++ take 1 (drop 2 each); fault = Some (bad_mark 2) }
bad_arrival = refl

arrivals_other : packed_arrival_whole (pair_head 4 ++ 228 ∷ []) ≡ record { bits = []; fault = Some magic }
unfolding packed_arrival_whole packed_arrival_capture wanted bits_of_octets bits_of in_pairs
arrivals_other = refl
