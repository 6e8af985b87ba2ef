use Rattle.std.proofs.Common.{◌≡◌, ◌==◌, take, refl, sym, ap, ◌∙◌, arith}
use Rattle.std.specs.List.{list_all}
use Rattle.bus_bits.specs.Text.{is_bit}
use Rattle.bus_formats.proofs.EightBitsLemmas.{bit-marks}
use Rattle.bus_formats.proofs.FrontLemmas.{first_chunk_front}
use Rattle.bus_formats.proofs.EightBitsOfNineLemmas.{all_kept, marks_text, eight-marks, marks-eight, front-others}
use Rattle.bus_formats.proofs.EightBitsOfNineLemmas.{text-given}
use Rattle.bus_formats.proofs.text_bits.TextBits.of_eight.Goals as goal

pub returns-then-other_bits-ne0-clause-some : goal.returns-then-other_bits-ne0-clause-some
returns-then-other_bits-ne0-clause-some c =
    let xs = c.args.octets.now in
    let ys = c.in_ok-front.front.now in
    let first = first_chunk_front xs ys c.type_inv.octets c.in_ok-front.ensures.cases in
    let none = front-others 254 is_bit bit-marks (omega arith) xs ys c.other_bits.result first c.other_bits.ensures in (
      λ is-some. absurd (cc),
      λ eight. absurd (c.if-other_bits-ne0.true (none.1 (eight-marks is_bit xs eight))),
    )

pub gathered-requires : goal.gathered-requires
gathered-requires c =
    let xs = c.args.octets.now in
    let ys = c.in_ok-front.front.now in
    let first = first_chunk_front xs ys c.type_inv.octets c.in_ok-front.ensures.cases in
    ap (list_all is_bit) first.same
    ∙ (front-others 254 is_bit bit-marks (omega arith) xs ys c.other_bits.result first c.other_bits.ensures).0
    c.if-other_bits-ne0.false

pub returns-clause-given : goal.returns-clause-given
returns-clause-given c =
    λ o is before clean.
    let xs = c.args.octets.now in
    let ys = c.in_ok-front.front.now in
    let first = first_chunk_front xs ys c.type_inv.octets c.in_ok-front.ensures.cases in
    let all = (front-others 254 is_bit bit-marks (omega arith) xs ys c.other_bits.result first c.other_bits.ensures).0
    c.if-other_bits-ne0.false in
    let same : c.gathered.result ≡ o = cc in
    rw (← same)
    (text-given is_bit (λ y. y == 49) xs ys 8 _ (marks_text is_bit (take 8 xs) all)
    (all_kept is_bit (take 8 xs) all ∙ sym first.same) c.gathered.ensures before clean)

pub returns-clause-some : goal.returns-clause-some
returns-clause-some c =
    let xs = c.args.octets.now in
    let ys = c.in_ok-front.front.now in
    let first = first_chunk_front xs ys c.type_inv.octets c.in_ok-front.ensures.cases in
    let all = (front-others 254 is_bit bit-marks (omega arith) xs ys c.other_bits.result first c.other_bits.ensures).0
    c.if-other_bits-ne0.false in
    (λ is-some. marks-eight is_bit xs c.in_ok-front.ensures.cases.enough all, λ eight. refl)
