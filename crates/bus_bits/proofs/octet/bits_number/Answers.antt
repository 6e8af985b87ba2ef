use Rattle.std.proofs.Common.{◌≡◌, ◌+◌, ◌*◌, ◌%◌, ◌<◌, ◌^◌, Bool, true, false, [], ◌∷◌, length, take, get_or, refl, sym}
use Rattle.std.proofs.Common.{ap, ◌∙◌, arith}
use Rattle.std.specs.Prelude.{bit_or}
use mir.Val.{bool_byte}
use Rattle.std.specs.Int.Bits.{or_shifted_r}
use Rattle.std.proofs.lemmas.Nat.{shl_whole}
use Rattle.std.proofs.lemmas.List.{take_more, length-take}
use Rattle.bus_bits.specs.Octet.{number}
use Rattle.bus_bits.proofs.OctetLemmas.{number-lt, number-append}
use Rattle.bus_bits.proofs.octet.bits_number.Goals as goal

byte_small : (b : Bool) → bool_byte b < 2 ^ 1
byte_small true = omega arith
byte_small false = omega arith

number_one : (b : Bool) → number (b ∷ []) ≡ bool_byte b
unfolding number
number_one true = refl
number_one false = refl

pub loop-bit-init : goal.loop-bit-init
unfolding number
loop-bit-init c = record { value = refl; place = refl }

pub loop-bit-preserved : goal.loop-bit-preserved
loop-bit-preserved c =
    let i = c.loop-bit.bit-index in
    let place = c.loop-bit.place in
    let n = c.loop-bit.number in
    let xs = c.args.bits.now in
    let x = get_or xs i false in
    let f = c.from.result in
    let byte : f ≡ bool_byte x = c.from.ensures in
    let one : f < 2 ^ 1 = rw byte (byte_small x) in
    let size : length (take i xs) ≡ place =
    omega (arith, length-take i xs, c.loop-bit-test.true, c.loop-bit.invariant.place) in
    let low : n < 2 ^ place = rw (c.loop-bit.invariant.value, ← size) (number-lt (take i xs)) in
    let same : f * 2 ^ place % 2 ^ 64 ≡ f * 2 ^ place =
    shl_whole f 1 place 64 one (omega (arith, c.requires, c.loop-bit-test.true, c.loop-bit.invariant.place)) in
    let put : bit_or n (f * 2 ^ place) ≡ n + f * 2 ^ place = or_shifted_r f place n low ∙ omega arith in
    let next : number (take (i + 1) xs) ≡ number (take i xs) + number (x ∷ []) * 2 ^ length (take i xs) =
    ap number (take_more xs i false c.loop-bit-test.true) ∙ number-append (take i xs) (x ∷ []) in
    record {
      value = ap (bit_or n) same ∙ put
          ∙ sym (next ∙ rw (number_one x, size, ← byte, ← c.loop-bit.invariant.value) refl);
      place = omega (arith, c.loop-bit.invariant.place);
    }

pub returns-clause-small : goal.returns-clause-small
returns-clause-small c =
    let i = c.loop-bit.bit-index in
    let xs = c.args.bits.now in
    let size : length (take i xs) ≡ length xs = omega (arith, length-take i xs, c.loop-bit-test.false) in
    rw (c.loop-bit.invariant.value, ← size) (number-lt (take i xs))
