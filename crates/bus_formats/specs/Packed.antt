-- Packed captures: a head of sixteen octets, and the bits by eights, the least significant of an octet first.
use Rattle.std.specs.Prelude.{◌≡◌, ℕ, ◌+◌, ◌-◌, ◌*◌, ◌/◌, ◌%◌, ◌<◌, ◌==◌, Bool, List, [], ◌∷◌, ◌++◌, length, map}
use Rattle.std.specs.Prelude.{take, drop, codes, slice_range, nat_lt, if◌then◌else◌, Option, Some, None}
use Rattle.std.specs.Int.{w64, from_le_bytes, next_multiple_of}
use Rattle.std.specs.List.{list_any, starts_with}
use Rattle.bus_bits.specs.Limits.{most_places}
use Rattle.bus_bits.specs.Octet.{bits_of, bits_of_octets}
use Rattle.bus_formats.specs.Capture.{CaptureOf, Capture, PairCapture, CaptureFault, magic, too_many, pad_bits}
use Rattle.bus_formats.specs.Capture.{trailing}
use Rattle.bus_formats.specs.Capture.{short_head, short_body, GrowsTo, mark_pair}
use Rattle.bus_formats.specs.declared.packed_head.HeadFault.{HeadFault}
use Rattle.bus_formats.specs.declared.packed_head.HeadFault.TheVariants.{Magic, TooMany}
use Rattle.bus_formats.specs.declared.packed_bits.PackedFault.{PackedFault}
use Rattle.bus_formats.specs.declared.packed_bits.PackedFault.TheVariants.{Trailing, PadBits, ShortBody}

-- the faults as the readers name them
abbrev pub head_fault_of : HeadFault → CaptureFault
head_fault_of Magic = magic
head_fault_of TooMany = too_many

abbrev pub packed_fault_of : PackedFault → CaptureFault
packed_fault_of Trailing = trailing
packed_fault_of PadBits = pad_bits
packed_fault_of ShortBody = short_body

-- the number of bits, pairs or arrivals that a head counts: its last eight octets, the lowest first
abbrev pub head_bits : List ℕ → ℕ
head_bits xs = from_le_bytes w64 (slice_range xs 8 16)

-- the fault of a head that is to begin with these letters
abbrev pub head_fault_by : List ℕ → List ℕ → Option CaptureFault
head_fault_by letters xs =
    if starts_with (λ x y. x == y) xs letters then (if nat_lt most_places (head_bits xs) then Some too_many else None)
    else Some magic

-- of one line
abbrev pub head_fault : List ℕ → Option CaptureFault
head_fault xs = head_fault_by (codes "TS2BITS1") xs

-- of two lines
abbrev pub pair_head_fault : List ℕ → Option CaptureFault
pair_head_fault xs = head_fault_by (codes "TS2BITS2") xs

-- of two lines with a clock each
abbrev pub arrival_head_fault : List ℕ → Option CaptureFault
arrival_head_fault xs = head_fault_by (codes "TS2BITS3") xs

-- of the bits `d` of whole octets, those that share an octet with the `n`th and come after it
abbrev pub unused : ℕ → List Bool → List Bool
unused n d = take (next_multiple_of n 8 - n) (drop n d)

-- what the bits `d` of whole octets give, of which the first `n` are wanted: an octet with an unused 1 gives none, and
-- an octet past the last wanted bit is one too many
unfoldable pub wanted : ℕ → List Bool → Capture
wanted n d =
    if list_any (λ b. b) (unused n d) then record { bits = take (n / 8 * 8) d; fault = Some pad_bits }
    else record { bits = take n d; fault = if nat_lt (next_multiple_of n 8) (length d) then Some trailing else None }

-- what the octets after a head give
abbrev pub packed_body : ℕ → List ℕ → Capture
packed_body n xs = wanted n (bits_of_octets xs)

-- bits two by two: in each pair that of the first line, and that of the second
unfoldable pub in_pairs : List Bool → List (Bool × Bool)
in_pairs (first ∷ second ∷ d) = (first, second) ∷ in_pairs d
in_pairs d = []

-- what they give after a head of two lines: its `n` pairs are twice as many bits
abbrev pub pair_body : ℕ → List ℕ → PairCapture
pair_body n xs = record { bits = in_pairs (packed_body (2 * n) xs).bits; fault = (packed_body (2 * n) xs).fault }

-- a fault of the head stands before all others
abbrev pub headed : {A : Type 0} → Option CaptureFault → CaptureOf A → CaptureOf A
headed None c = c
headed (Some f) c = record { bits = []; fault = Some f }

-- what octets give while more may come: nothing before the head is whole, then its fault, or what those after it give
abbrev pub capture_by : {A : Type 0} → Option CaptureFault → (ℕ → List ℕ → CaptureOf A) → List ℕ → CaptureOf A
capture_by fault body xs =
    if nat_lt (length xs) 16 then record { bits = []; fault = None }
    else headed fault (body (head_bits xs) (drop 16 xs))

unfoldable pub packed_capture : List ℕ → Capture
packed_capture xs = capture_by (head_fault xs) packed_body xs

unfoldable pub packed_pair_capture : List ℕ → PairCapture
packed_pair_capture xs = capture_by (pair_head_fault xs) pair_body xs

-- arrivals are packed as pairs: in each the bit is the lower, and the line the higher
unfoldable pub packed_arrival_capture : List ℕ → PairCapture
packed_arrival_capture xs = capture_by (arrival_head_fault xs) pair_body xs

-- the first fault
abbrev pub or_fault : Option CaptureFault → Option CaptureFault → Option CaptureFault
or_fault None g = g
or_fault (Some f) g = Some f

-- at the end of the input all `n` bits, pairs or arrivals came
abbrev pub filled : {A : Type 0} → ℕ → CaptureOf A → CaptureOf A
filled n c =
    record { bits = c.bits; fault = or_fault c.fault (if nat_lt (length c.bits) n then Some short_body else None) }

-- what octets give that are the whole input, by what they give while more may come
abbrev pub whole_by : {A : Type 0} → CaptureOf A → List ℕ → CaptureOf A
whole_by c xs = if nat_lt (length xs) 16 then record { bits = []; fault = Some short_head } else filled (head_bits xs) c

unfoldable pub packed_whole : List ℕ → Capture
packed_whole xs = whole_by (packed_capture xs) xs

unfoldable pub packed_pair_whole : List ℕ → PairCapture
packed_pair_whole xs = whole_by (packed_pair_capture xs) xs

unfoldable pub packed_arrival_whole : List ℕ → PairCapture
packed_arrival_whole xs = whole_by (packed_arrival_capture xs) xs

-- the octets `xs` after a head that counts `n` bits have no fault, and `left` of the bits are still to come
pub record PackedAfter (n : ℕ) (xs : List ℕ) (left : ℕ) : Type 0 where
  pub clean : (packed_body n xs).fault ≡ None
  pub left_over : length (packed_body n xs).bits + left ≡ n

-- and so of two lines, with pairs or arrivals
pub record PairsAfter (n : ℕ) (xs : List ℕ) (left : ℕ) : Type 0 where
  pub clean : (pair_body n xs).fault ≡ None
  pub left_over : length (pair_body n xs).bits + left ≡ n

-- the pairs of an octet are those of four marks, its digits to the base 4, the lowest first
abbrev pub OctetIsFourMarks : Type 0
OctetIsFourMarks =
    (o : ℕ) → in_pairs (bits_of 8 o) ≡ map (λ d. mark_pair (48 + d)) (o % 4 ∷ o / 4 % 4 ∷ o / 16 % 4 ∷ o / 64 % 4 ∷ [])

-- sixteen octets are the head of all octets that begin with them
abbrev pub PackedIsHeaded : Type 0
PackedIsHeaded =
    (head xs : List ℕ) → length head ≡ 16
    → (packed_capture (head ++ xs) ≡ headed (head_fault head) (packed_body (head_bits head) xs))
    × (packed_whole (head ++ xs) ≡ filled (head_bits head) (headed (head_fault head) (packed_body (head_bits head) xs)))

abbrev pub PairsAreHeaded : Type 0
PairsAreHeaded =
    (head xs : List ℕ) → length head ≡ 16
    → (packed_pair_capture (head ++ xs) ≡ headed (pair_head_fault head) (pair_body (head_bits head) xs))
    × (packed_pair_whole (head ++ xs)
    ≡ filled (head_bits head) (headed (pair_head_fault head) (pair_body (head_bits head) xs)))

abbrev pub ArrivalsAreHeaded : Type 0
ArrivalsAreHeaded =
    (head xs : List ℕ) → length head ≡ 16
    → (packed_arrival_capture (head ++ xs) ≡ headed (arrival_head_fault head) (pair_body (head_bits head) xs))
    × (packed_arrival_whole (head ++ xs)
    ≡ filled (head_bits head) (headed (arrival_head_fault head) (pair_body (head_bits head) xs)))

-- and fewer are none
abbrev pub PackedIsShort : Type 0
PackedIsShort =
    (xs : List ℕ) → length xs < 16
    → (packed_capture xs ≡ record { bits = []; fault = None })
    × (packed_whole xs ≡ record { bits = []; fault = Some short_head })

abbrev pub PairsAreShort : Type 0
PairsAreShort =
    (xs : List ℕ) → length xs < 16
    → (packed_pair_capture xs ≡ record { bits = []; fault = None })
    × (packed_pair_whole xs ≡ record { bits = []; fault = Some short_head })

abbrev pub ArrivalsAreShort : Type 0
ArrivalsAreShort =
    (xs : List ℕ) → length xs < 16
    → (packed_arrival_capture xs ≡ record { bits = []; fault = None })
    × (packed_arrival_whole xs ≡ record { bits = []; fault = Some short_head })

-- however a packed capture is cut, its bits are the same
abbrev pub PackedGrows : Type 0
PackedGrows = (xs ys : List ℕ) → GrowsTo (packed_capture xs) (packed_capture (xs ++ ys))

abbrev pub PackedPairsGrow : Type 0
PackedPairsGrow = (xs ys : List ℕ) → GrowsTo (packed_pair_capture xs) (packed_pair_capture (xs ++ ys))

abbrev pub PackedArrivalsGrow : Type 0
PackedArrivalsGrow = (xs ys : List ℕ) → GrowsTo (packed_arrival_capture xs) (packed_arrival_capture (xs ++ ys))

-- and the end of the input adds no bit
abbrev pub PackedEnds : Type 0
PackedEnds = (xs : List ℕ) → GrowsTo (packed_capture xs) (packed_whole xs)

abbrev pub PackedPairsEnd : Type 0
PackedPairsEnd = (xs : List ℕ) → GrowsTo (packed_pair_capture xs) (packed_pair_whole xs)

abbrev pub PackedArrivalsEnd : Type 0
PackedArrivalsEnd = (xs : List ℕ) → GrowsTo (packed_arrival_capture xs) (packed_arrival_whole xs)
