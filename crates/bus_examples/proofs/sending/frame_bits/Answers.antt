use Rattle.std.proofs.Common.{◌≡◌, ◌++◌, Some, List, [], Bool, subst, refl}
use Rattle.bus_line.specs.Mark.{flag}
use Rattle.bus_line.specs.Line.{raw_bits}
use Rattle.bus_examples.proofs.SendingLemmas.{only_length, is_of}
use Rattle.bus_examples.proofs.sending.frame_bits.Goals as goal

same-list : (m n : List Bool) → Some m ≡ Some n → m ≡ n
same-list m n e = cc

pub returns-clause-bits : goal.returns-clause-bits
returns-clause-bits c =
    subst (λ (l : List Bool). c.frame.new.sink.bits.items ≡ l ++ (flag ++ (raw_bits c.args.octets.now ++ flag)))
    c.new.ensures
    (same-list _ _ (c.in_ok-frame.ensures.calls.encoded.took [] c.new-encoder.ensures))

pub returns-in_err-frame-clause-no_other : goal.returns-in_err-frame-clause-no_other
returns-in_err-frame-clause-no_other c =
    let f = c.frame in
    let e = c.in_err-frame.field-0.0 in
    let only = only_length c.args.octets.now c.new-encoder.result f.new.self _ f.new.sink f.result e c.in_err-frame.was
    c.new-encoder.ensures f.ensures.bound c.new.ensures refl f.ensures.calls in
    λ failed. is_of c.from_residual.result e only c.from_residual.ensures.1
