-- The bits of a capture: those before the first fault, and the fault.
use Rattle.std.specs.Prelude.{◌≡◌, ◌≤◌, ◌<◌, ◌⊎◌, ℕ, ◌+◌, ◌-◌, ◌/◌, ◌%◌, ◌==◌, ◌||◌, Bool, false, List, ◌++◌}
use Rattle.std.specs.Prelude.{length, slice_index, map, take, nat_lt, if◌then◌else◌, Option, Some}
use Rattle.std.specs.Prelude.{None}
use Rattle.bus_bits.specs.Limits.{most_places}
use Rattle.bus_bits.specs.Text.{is_space, front_by, marks_by, is_bit, text_bits}

-- why a capture can't be read on
pub data CaptureFault : Type 0 where
  bad_mark : ℕ → CaptureFault  -- the octet at this place is no mark and no space
  magic : CaptureFault  -- the head begins with other octets
  too_many : CaptureFault  -- the head counts more than 2^60 bits or pairs
  pad_bits : CaptureFault  -- an unused bit of the last octet is 1
  trailing : CaptureFault  -- an octet follows the last
  place_limit : CaptureFault  -- the next bit's place would be 2^60
  short_head : CaptureFault  -- the input ended in the head
  short_body : CaptureFault  -- the input ended before the last bit

-- what some octets give, at each place a bit or, of two lines, a pair of bits, and the first fault in them
pub record CaptureOf (A : Type 0) : Type 0 where
  pub bits : List A
  pub fault : Option CaptureFault

-- the bits of one line
abbrev pub Capture : Type 0
Capture = CaptureOf Bool

-- the pairs of two lines: at each place the bit of the first line, and that of the second; or, of lines with a clock
-- each, in the order of arrival a bit, and whether it is one of the second line
abbrev pub PairCapture : Type 0
PairCapture = CaptureOf (Bool × Bool)

-- octets that gave `c` may give `d` with more octets after them: more bits at the end, and nothing new after a fault
abbrev pub GrowsTo : {A : Type 0} → CaptureOf A → CaptureOf A → Type 0
GrowsTo {A} c d = (rest : List A) × (d.bits ≡ c.bits ++ rest) × ((f : CaptureFault) → c.fault ≡ Some f → d ≡ c)

-- the fault of the first octet that is no mark and no space
abbrev pub fault_by : (ℕ → Bool) → List ℕ → Option CaptureFault
fault_by is_mark xs =
    if nat_lt (length (front_by is_mark xs)) (length xs) then Some (bad_mark (length (front_by is_mark xs))) else None

abbrev pub text_fault : List ℕ → Option CaptureFault
text_fault xs = fault_by is_bit xs

-- two lines: `0` to `3`
abbrev pub is_pair : ℕ → Bool
is_pair x = (x == 48) || ((x == 49) || ((x == 50) || (x == 51)))

-- of a mark `v` the bits `v mod 2` and `v / 2`
abbrev pub mark_pair : ℕ → Bool × Bool
mark_pair x = ((x - 48) % 2 == 1, (x - 48) / 2 == 1)

abbrev pub text_pairs : List ℕ → List (Bool × Bool)
text_pairs xs = map mark_pair (marks_by is_pair xs)

abbrev pub text_pairs_fault : List ℕ → Option CaptureFault
text_pairs_fault xs = fault_by is_pair xs

-- two lines with a clock each: `0` or `1` on the first, `o` or `i` on the second
abbrev pub is_arrival : ℕ → Bool
is_arrival x = is_bit x || ((x == 111) || (x == 105))

-- the bit of a mark, and whether it is one of the second line
abbrev pub mark_arrival : ℕ → Bool × Bool
mark_arrival x = ((x == 49) || (x == 105), (x == 111) || (x == 105))

abbrev pub text_arrivals : List ℕ → List (Bool × Bool)
text_arrivals xs = map mark_arrival (marks_by is_arrival xs)

abbrev pub text_arrivals_fault : List ℕ → Option CaptureFault
text_arrivals_fault xs = fault_by is_arrival xs

-- the first `n` octets have no fault, and eight marks
abbrev pub EightBy : (ℕ → Bool) → ℕ → List ℕ → Type 0
EightBy is_mark n xs =
    (n ≤ length xs) × (fault_by is_mark (take n xs) ≡ None) × (length (marks_by is_mark (take n xs)) ≡ 8)

-- they give eight bits
abbrev pub EightIn : ℕ → List ℕ → Type 0
EightIn n xs = EightBy is_bit n xs

-- or eight pairs
abbrev pub EightPairsIn : ℕ → List ℕ → Type 0
EightPairsIn n xs = EightBy is_pair n xs

-- after the first `taken` octets fewer than `n` follow, or one that is no mark and no space
abbrev pub TextEnds : (ℕ → Bool) → ℕ → List ℕ → ℕ → Type 0
TextEnds is_mark n xs taken =
    (length xs < taken + n)
    ⊎ ((is_mark (slice_index xs taken) ≡ false) × (is_space (slice_index xs taken) ≡ false))

-- text: a `0` or `1` is a bit
abbrev pub text_capture : List ℕ → Capture
text_capture xs = record { bits = text_bits xs; fault = text_fault xs }

-- text of two lines: a `0` to `3` is a pair
abbrev pub text_pair_capture : List ℕ → PairCapture
text_pair_capture xs = record { bits = text_pairs xs; fault = text_pairs_fault xs }

-- text of two lines with a clock each: a `0`, `1`, `o` or `i` is a bit that arrives
abbrev pub text_arrival_capture : List ℕ → PairCapture
text_arrival_capture xs = record { bits = text_arrivals xs; fault = text_arrivals_fault xs }

-- no bit has the place 2^60, where the first has the place of the origin
abbrev pub capped : {A : Type 0} → ℕ → CaptureOf A → CaptureOf A
capped origin c =
    if nat_lt (most_places - origin) (length c.bits)
    then record { bits = take (most_places - origin) c.bits; fault = Some place_limit } else c

-- however a text is cut, its bits are the same
abbrev pub TextGrows : Type 0
TextGrows = (xs ys : List ℕ) → GrowsTo (text_capture xs) (text_capture (xs ++ ys))

abbrev pub TextPairsGrow : Type 0
TextPairsGrow = (xs ys : List ℕ) → GrowsTo (text_pair_capture xs) (text_pair_capture (xs ++ ys))

abbrev pub TextArrivalsGrow : Type 0
TextArrivalsGrow = (xs ys : List ℕ) → GrowsTo (text_arrival_capture xs) (text_arrival_capture (xs ++ ys))

-- and so with places
abbrev pub CappedGrows : Type 0
CappedGrows = (origin : ℕ) (c d : Capture) → GrowsTo c d → GrowsTo (capped origin c) (capped origin d)

abbrev pub CappedPairsGrow : Type 0
CappedPairsGrow = (origin : ℕ) (c d : PairCapture) → GrowsTo c d → GrowsTo (capped origin c) (capped origin d)
