use Rattle.std.proofs.Common.{◌≡◌, ◌+◌, ◌-◌, ◌*◌, ◌%◌, ◌<◌, ◌≤◌, ◌^◌, ◌++◌, ℕ, Bool, List, length, take, drop, map}
use Rattle.std.proofs.Common.{true, inr, refl, sym, ap, slice_index, ◌∙◌, arith}
use Rattle.std.specs.Int.{bit_at, trailing_ones, w64}
use Rattle.std.specs.List.{list_all}
use Rattle.std.specs.Prelude.{bit_and}
use Rattle.std.proofs.lemmas.List.{length-drop, length-take}
use Rattle.std.proofs.lemmas.Nat.{and_mask, one_shl}
use Rattle.std.proofs.lemmas.Nat.Bits.{bit_at-trailing_ones}
use Rattle.bus_bits.specs.Octet.{bits_of}
use Rattle.bus_formats.specs.Capture.{is_arrival, mark_arrival}
use Rattle.bus_formats.specs.Internal.Packs.{IsPackedBy, bits_of_both, lines_of_both, packed_bits}
use Rattle.bus_formats.specs.declared.text_block.Packing.{Packing}
use Rattle.bus_bits.proofs.OctetLemmas.{bits-low}
use Rattle.bus_formats.proofs.TextBlockLemmas.{first-none, front-given, front-marks, ones-few, packed-more}
use Rattle.bus_formats.proofs.arrival_planes.part_many.Goals as goal

-- no more than 32 of 32 marks are ones in a row
ones-most : (n : ℕ) → n < 2 ^ 32 → trailing_ones w64 n ≤ 32
ones-most n small =
    ones-few 32 n (trailing_ones w64 n) small (bit_at-trailing_ones w64 n (omega (arith, small))).2

mask-is : (n count : ℕ) → count ≤ 32 → bit_and n (1 * 2 ^ count % 2 ^ 64 - 1) ≡ n % 2 ^ count
mask-is n count few = ap (λ (m : ℕ). bit_and n (m - 1)) (one_shl count 64 (omega (arith, few))) ∙ and_mask n count

-- the first of the 32 octets are packed into one of the blocks
module _ (value : ℕ → Bool) (text block after os front : List ℕ) (p q : Packing) (count marks ones : ℕ) where
  one-more : IsPackedBy is_arrival value text block p → os ≡ take (length text - p.taken) (drop p.taken text)
      → front ≡ take 32 os → count ≤ 32 → 32 ≤ length os → q.taken ≡ p.taken + count → q.filled < length after
      → q.held < 8 → q.rest < 2 ^ q.held
      → packed_bits after q ≡ packed_bits block p ++ bits_of count (bit_and ones (1 * 2 ^ count % 2 ^ 64 - 1))
      → bits_of 32 ones ≡ map value front → list_all is_arrival (take count front) ≡ true
      → IsPackedBy is_arrival value text after q
  one-more packed same chunk few enough taken room held small put ones-are all =
      packed-more is_arrival value text block after p q count _ packed taken
      (rw (← same) (omega (arith, few, enough))) room held small put
      (rw (← same) (front-given is_arrival value os front 32 count ones _ chunk few ones-are all
      (ap (bits_of count) (mask-is ones count few) ∙ bits-low count ones)))

-- how many of the 32 octets are taken
few-of : (marks count : ℕ) → marks < 2 ^ 32 → count ≡ trailing_ones w64 marks → count ≤ 32
few-of marks count small is = omega (arith, is, ones-most marks small)

all-of : (marks count : ℕ) (front : List ℕ) → marks < 2 ^ 32 → count ≡ trailing_ones w64 marks →
    bits_of 32 marks ≡ map is_arrival front → list_all is_arrival (take count front) ≡ true
all-of marks count front small is are =
    front-marks is_arrival 32 count marks front (few-of marks count small is) are
    (λ i below. (bit_at-trailing_ones w64 marks (omega (arith, small))).2 i (omega (arith, below, is)))

pub append_bits-next-requires-clause-few : goal.append_bits-next-requires-clause-few
append_bits-next-requires-clause-few c =
    omega (arith, few-of c.marks_of-marks.result.marks _ c.marks_of-marks.ensures.few.2 c.trailing_ones-count.ensures)

pub append_bits-next-requires-clause-taken : goal.append_bits-next-requires-clause-taken
append_bits-next-requires-clause-taken c =
    let text = c.args.text.now in
    omega (
      arith,
      few-of c.marks_of-marks.result.marks _ c.marks_of-marks.ensures.few.2 c.trailing_ones-count.ensures,
      ap (λ (q : Packing). q.taken) c.bits_of.ensures,
      c.in-Some.ensures.cases.enough,
      length-take (length text - c.args.parting.taken) (drop c.args.parting.taken text),
      length-drop c.args.parting.taken text,
    )

pub append_bits-of_lines-requires-clause-few : goal.append_bits-of_lines-requires-clause-few
append_bits-of_lines-requires-clause-few c =
    omega (arith, few-of c.marks_of-marks.result.marks _ c.marks_of-marks.ensures.few.2 c.trailing_ones-count.ensures)

-- both are packed to the same place
same-places : (f h g k n : ℕ) → 8 * f + h ≡ n → 8 * g + k ≡ n → h < 8 → k < 8 → (f ≡ g) × (h ≡ k)
same-places f h g k n one other few fewer =
    (omega (arith, one, other, few, fewer), omega (arith, one, other, few, fewer))

pub returns-clause-parted : goal.returns-clause-parted
returns-clause-parted c =
    let p = c.args.parting in
    let text = c.args.text.now in
    let os : List ℕ = take (length text - p.taken) (drop p.taken text) in
    let marks = c.marks_of-marks in
    let count = c.trailing_ones-count.result in
    let few = few-of marks.result.marks count marks.ensures.few.2 c.trailing_ones-count.ensures in
    let all = all-of marks.result.marks count c.in-Some.front.now marks.ensures.few.2 c.trailing_ones-count.ensures
    marks.ensures.marks in
    let chunk = c.in-Some.ensures.cases in
    let next = c.append_bits-next in
    let others = c.append_bits-of_lines in
    let before = c.requires.parted in
    let first = rw c.bits_of.ensures at next.ensures in
    let second = rw c.lines_of.ensures at others.ensures in
    let places = same-places next.result.filled next.result.held others.result.filled others.result.held
    (8 * p.filled + p.held + count) first.count second.count next.ensures.held others.ensures.held in
    record {
      of_bits = one-more (λ x. (mark_arrival x).0) text c.args.bits.now next.new.block os c.in-Some.front.now
          (bits_of_both p) next.result count marks.result.marks marks.result.bits before.of_bits refl chunk.same few
          chunk.enough first.taken
          (omega (arith, first.count, next.ensures.held, before.of_bits.few, c.requires.room, next.ensures.len, few))
          next.ensures.held next.ensures.rest first.bits marks.ensures.bits all;
      of_lines = rw (places.0, places.1, first.taken, ← second.taken)
          (one-more (λ x. (mark_arrival x).1) text c.args.lines.now others.new.block os c.in-Some.front.now
          (lines_of_both p) others.result count marks.result.marks marks.result.lines before.of_lines refl chunk.same
          few chunk.enough second.taken
          (omega (
            arith,
            second.count,
            others.ensures.held,
            before.of_lines.few,
            c.requires.room,
            c.requires.same,
            others.ensures.len,
            few,
          ))
          others.ensures.held others.ensures.rest second.bits marks.ensures.lines all);
    }

pub returns-clause-most : goal.returns-clause-most
returns-clause-most c = λ none.
    let p = c.args.parting in
    let text = c.args.text.now in
    let marks = c.marks_of-marks in
    let chunk = c.in-Some.ensures.cases in
    let ones = bit_at-trailing_ones w64 marks.result.marks (omega (arith, marks.ensures.few.2)) in
    let taken = ap (λ (q : Packing). q.taken) c.bits_of.ensures in
    let count : trailing_ones w64 marks.result.marks ≡ 0 =
    omega (arith, none, taken, c.append_bits-next.ensures.taken, c.trailing_ones-count.ensures) in
    let some : p.taken < length text =
    omega (arith, chunk.enough, length-take (length text - p.taken) (drop p.taken text), length-drop p.taken text) in
    inr (ap (λ n. is_arrival (slice_index text n)) none
    ∙ first-none is_arrival 32 text c.in-Some.front.now p.taken marks.result.marks some (omega arith) chunk.same
    marks.ensures.marks (ap (bit_at marks.result.marks) (sym count) ∙ ones.1))
