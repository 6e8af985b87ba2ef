use Rattle.std.proofs.Common.{◌≡◌, ◌-◌, ◌*◌, ◌%◌, ◌<◌, ◌≤◌, ◌==◌, ◌^◌, ℕ, List, length, take, drop, inr, refl, sym, ap}
use Rattle.std.proofs.Common.{slice_index, ◌∙◌, arith}
use Rattle.std.specs.Int.{bit_at, trailing_ones, w64}
use Rattle.std.proofs.lemmas.List.{length-take, length-drop}
use Rattle.std.proofs.lemmas.Nat.{and_mask, one_shl}
use Rattle.std.proofs.lemmas.Nat.Bits.{bit_at-trailing_ones}
use Rattle.std.specs.Prelude.{bit_and}
use Rattle.bus_bits.specs.Octet.{bits_of}
use Rattle.bus_bits.specs.Text.{is_bit}
use Rattle.bus_bits.proofs.OctetLemmas.{bits-low}
use Rattle.bus_formats.proofs.TextBlockLemmas.{first-none, front-given, front-marks, ones-few, packed-more}
use Rattle.bus_formats.proofs.TextMarksLemmas.{all-front}
use Rattle.bus_formats.proofs.text_block.pack_sixteen.Goals as goal

pub returns-then-marks-eq65535-clause-packed : goal.returns-then-marks-eq65535-clause-packed
returns-then-marks-eq65535-clause-packed c =
    let p = c.args.packing in
    let text = c.args.text.now in
    let os : List ℕ = take (length text - p.taken) (drop p.taken text) in
    let front = c.in-Some.front.now in
    let marks = c.marks_of_sixteen-marks in
    let put = c.append_bits in
    let chunk = c.in-Some.ensures.cases in
    packed-more is_bit (λ x. x == 49) text c.args.block.now put.new.block p put.result 16 (bits_of 16 marks.result.ones)
    c.requires.packed
    put.ensures.taken chunk.enough
    (omega (arith, put.ensures.count, put.ensures.held, c.requires.packed.few, c.requires.room, put.ensures.len))
    put.ensures.held put.ensures.rest put.ensures.bits
    (front-given is_bit (λ x. x == 49) os front 16 16 marks.result.ones (bits_of 16 marks.result.ones) chunk.same
    (omega arith)
    marks.ensures.ones
    (all-front front 16 marks.result.bits (ap length chunk.same ∙ omega (arith, length-take 16 os, chunk.enough))
    c.if-marks-eq65535.true marks.ensures.bits) refl)

-- no more than sixteen of sixteen marks are ones in a row
ones-most : (n : ℕ) → n < 2 ^ 16 → trailing_ones w64 n ≤ 16
ones-most n small =
    ones-few 16 n (trailing_ones w64 n) small (bit_at-trailing_ones w64 n (omega (arith, small))).2

pub append_bits-requires-2-clause-few : goal.append_bits-requires-2-clause-few
append_bits-requires-2-clause-few c =
    let marks = c.marks_of_sixteen-marks in
    omega (arith, c.trailing_ones-count.ensures, ones-most marks.result.bits marks.ensures.few.1)

pub returns-clause-packed : goal.returns-clause-packed
returns-clause-packed c =
    let p = c.args.packing in
    let text = c.args.text.now in
    let os : List ℕ = take (length text - p.taken) (drop p.taken text) in
    let front = c.in-Some.front.now in
    let marks = c.marks_of_sixteen-marks in
    let count = c.trailing_ones-count.result in
    let put = c.append_bits-2 in
    let chunk = c.in-Some.ensures.cases in
    let ones = bit_at-trailing_ones w64 marks.result.bits (omega (arith, marks.ensures.few.1)) in
    let each : (i : ℕ) → i < count → bit_at marks.result.bits i ≡ 1 =
    λ i below. ones.2 i (omega (arith, below, c.trailing_ones-count.ensures)) in
    let few : count ≤ 16 =
    omega (arith, c.trailing_ones-count.ensures, ones-most marks.result.bits marks.ensures.few.1) in
    let mask : bit_and marks.result.ones (1 * 2 ^ count % 2 ^ 64 - 1) ≡ marks.result.ones % 2 ^ count =
    ap (λ (n : ℕ). bit_and marks.result.ones (n - 1)) (one_shl count 64 (omega (arith, few)))
    ∙ and_mask marks.result.ones count in
    packed-more is_bit (λ x. x == 49) text c.args.block.now put.new.block p put.result count _ c.requires.packed
    put.ensures.taken
    (omega (arith, few, chunk.enough))
    (omega (arith, put.ensures.count, put.ensures.held, c.requires.packed.few, c.requires.room, put.ensures.len, few))
    put.ensures.held put.ensures.rest put.ensures.bits
    (front-given is_bit (λ x. x == 49) os front 16 count marks.result.ones _ chunk.same few marks.ensures.ones
    (front-marks is_bit 16 count marks.result.bits front few marks.ensures.bits each)
    (ap (bits_of count) mask ∙ bits-low count marks.result.ones))

pub returns-clause-room : goal.returns-clause-room
returns-clause-room c =
    let marks = c.marks_of_sixteen-marks in
    omega (
      arith,
      c.trailing_ones-count.ensures,
      ones-most marks.result.bits marks.ensures.few.1,
      c.append_bits-2.ensures.count,
      c.append_bits-2.ensures.held,
      c.requires.packed.few,
    )

pub returns-clause-most : goal.returns-clause-most
returns-clause-most c = λ none.
    let p = c.args.packing in
    let text = c.args.text.now in
    let marks = c.marks_of_sixteen-marks in
    let chunk = c.in-Some.ensures.cases in
    let ones = bit_at-trailing_ones w64 marks.result.bits (omega (arith, marks.ensures.few.1)) in
    let count : trailing_ones w64 marks.result.bits ≡ 0 =
    omega (arith, none, c.append_bits-2.ensures.taken, c.trailing_ones-count.ensures) in
    let some : p.taken < length text =
    omega (arith, chunk.enough, length-take (length text - p.taken) (drop p.taken text), length-drop p.taken text) in
    inr (ap (λ n. is_bit (slice_index text n)) none
    ∙ first-none is_bit 16 text c.in-Some.front.now p.taken marks.result.bits some (omega arith) chunk.same
    marks.ensures.bits
    (ap (bit_at marks.result.bits) (sym count) ∙ ones.1))
