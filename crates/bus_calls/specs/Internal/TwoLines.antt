-- What the proofs know of two lines.
use Rattle.std.specs.Prelude.{ℕ, Bool}
use Rattle.bus_formats.specs.Packed.{PairsAfter, pair_head_fault}
use Rattle.bus_fcs.specs.Check.{CheckView}
use Rattle.bus_watch.specs.Pairs as pairs
use Rattle.bus_watch.specs.Pairs.{PairState}
use Rattle.bus_calls.specs.Captures.{form_of_two}
use Rattle.bus_calls.specs.Internal.Headed.{IsHeaded}
use Rattle.bus_calls.specs.Internal.Kinds.{KindView}

abbrev pub two_line_kind : {C : Type 0} → CheckView C → KindView (PairState C) (Bool × Bool) (Bool × Bool) ℕ
two_line_kind view = record {
  watch = pairs.two_lines view;
  form = form_of_two;
  rest = λ a. 0;
  is_fed = λ a ps. Unit {0};
  is_body = λ left xs. IsHeaded pair_head_fault PairsAfter left xs;
}
