-- What the proofs know of one line.
use Rattle.std.specs.Prelude.{ℕ, Bool}
use Rattle.bus_formats.specs.Packed.{PackedAfter, head_fault}
use Rattle.bus_fcs.specs.Check.{CheckView}
use Rattle.bus_watch.specs.After as after
use Rattle.bus_watch.specs.After.{AnalyserState}
use Rattle.bus_calls.specs.Captures.{form_of_one}
use Rattle.bus_calls.specs.Internal.Headed.{IsHeaded}
use Rattle.bus_calls.specs.Internal.Kinds.{KindView}

abbrev pub one_line_kind : {C : Type 0} → CheckView C → KindView (AnalyserState C) Bool Bool ℕ
one_line_kind view = record {
  watch = after.one_line view;
  form = form_of_one;
  rest = λ a. 0;
  is_fed = λ a b. Unit {0};
  is_body = λ left xs. IsHeaded head_fault PackedAfter left xs;
}
