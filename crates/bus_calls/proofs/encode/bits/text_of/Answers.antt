use Rattle.std.proofs.Common.{List, ℕ, [], ◌∷◌, ◌++◌, map, ap, ◌∙◌}
use Rattle.bus_calls.specs.Encode.{bit_char, bits_text}
use Rattle.std.proofs.lemmas.List.{take_all}
use Rattle.bus_calls.proofs.encode.bits.text_of.Goals as goal

pub returns : goal.returns
unfolding bits_text
returns c = c.push-2.ensures.items ∙ ap (λ (l : List ℕ). l ++ 10 ∷ [])
    (c.loop-bit.invariant ∙ ap (map bit_char) (take_all c.loop-bit.bit-index c.args.bits.now c.loop-bit-test.false))
