use Rattle.std.proofs.Common.{◌-◌, ◌/◌, ◌==◌, ℕ, Bool, List, ◌++◌, length, take, drop, refl, ap, ◌∙◌, arith}
use Rattle.std.proofs.lemmas.List.{length-take}
use Rattle.bus_bits.specs.Octet.{bits_of}
use Rattle.bus_bits.specs.Text.{is_bit}
use Rattle.bus_formats.specs.Internal.Packs.{packed_bits}
use Rattle.bus_formats.proofs.TextBlockLemmas.{bits-halves, front-given, packed-more}
use Rattle.bus_formats.proofs.TextMarksLemmas.{all-front}
use Rattle.bus_formats.proofs.text_block.pack_sixty_four.Goals as goal

pub returns-clause-packed : goal.returns-clause-packed
returns-clause-packed c =
    let p = c.args.packing in
    let text = c.args.text.now in
    let os : List ℕ = take (length text - p.taken) (drop p.taken text) in
    let front = c.in-Some.front.now in
    let marks = c.marks_of_sixty_four-marks in
    let half = c.append_bits-half in
    let put = c.append_bits in
    let chunk = c.in-Some.ensures.cases in
    packed-more is_bit (λ x. x == 49) text c.args.block.now put.new.block p put.result 64 (bits_of 64 marks.result.ones)
    c.requires.packed
    (omega (arith, half.ensures.taken, put.ensures.taken)) chunk.enough
    (omega (
      arith,
      half.ensures.count,
      half.ensures.held,
      half.ensures.len,
      put.ensures.count,
      put.ensures.held,
      put.ensures.len,
      c.requires.packed.few,
      c.requires.room,
    )) put.ensures.held put.ensures.rest
    (put.ensures.bits ∙ (ap (λ (z : List Bool). z ++ bits_of 32 (marks.result.ones / 4294967296)) half.ensures.bits
    ∙ bits-halves (packed_bits c.args.block.now p) marks.result.ones))
    (front-given is_bit (λ x. x == 49) os front 64 64 marks.result.ones (bits_of 64 marks.result.ones) chunk.same
    (omega arith)
    marks.ensures.ones
    (all-front front 64 marks.result.bits (ap length chunk.same ∙ omega (arith, length-take 64 os, chunk.enough))
    c.if-marks.false marks.ensures.bits) refl)
