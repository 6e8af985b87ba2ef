use Rattle.std.proofs.Common.{arith, ◌≡◌, ◌∙◌, ap, sym, ◌+◌, ◌/◌, ◌%◌, ◌++◌, ◌∷◌, [], length, decimal, append_assoc}
use Rattle.std.proofs.Common.{length-append}
use Rattle.itoa.proofs.Decimal.{pair, decimal_four}
use Rattle.bus_text.proofs.NumberLemmas.{mid-written}
use Rattle.bus_text.proofs.places.set_last_four.Goals as goal

pub returns : goal.returns
returns c place long fits new-fits is =
    let front = decimal (place / 10000) in
    let four = pair (place % 10000 / 100) ++ pair (place % 10000 % 100) in
    let new = c.copy_from_slice.new.self in
    let parts : c.args.text.now ≡ front ++ (four ++ 32 ∷ []) =
    is ∙ ap (λ text. text ++ 32 ∷ []) (decimal_four place long fits) ∙ append_assoc front four (32 ∷ []) in
    let size : length c.args.text.now ≡ length front + 5 =
    ap length parts ∙ length-append front (four ++ 32 ∷ []) in
    mid-written front four (32 ∷ []) new c.args.text.now _ _ parts (omega (arith, size)) (omega (arith, size))
    ∙ sym (append_assoc front new (32 ∷ []))
    ∙ ap (λ text. text ++ 32 ∷ [])
    (ap (λ last. front ++ last) c.copy_from_slice.ensures.after
    ∙ c.last_four.ensures (place / 10000) (omega (arith, long)) new-fits)
