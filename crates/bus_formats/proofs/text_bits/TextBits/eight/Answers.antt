use Rattle.std.proofs.Common.{◌≡◌, ◌==◌, IsSome, refl, sym, subst}
use Rattle.bus_bits.specs.Text.{is_bit}
use Rattle.bus_bits.proofs.CaseLemmas.{no-some}
use Rattle.bus_formats.proofs.EightBitsLemmas.{bit-marks}
use Rattle.bus_formats.proofs.EightBitsOfNineLemmas.{text-given}
use Rattle.bus_formats.proofs.text_bits.TextBits.eight.Goals as goal

pub returns-in_err-eight-clause-some : goal.returns-in_err-eight-clause-some
returns-in_err-eight-clause-some c = (
  λ is-some. absurd (no-some c.from_residual.result c.from_residual.ensures is-some),
  λ either. absurd (no-some c.eight_marks.result c.in_err-eight.was
      ((c.eight_marks.ensures.some is_bit bit-marks).1 either)),
)

pub gathered-requires : goal.gathered-requires
gathered-requires c = (c.eight_marks.ensures.marks is_bit bit-marks c.in_ok-eight.eight c.in_ok-eight.was).2

pub returns-clause-given : goal.returns-clause-given
returns-clause-given c =
    λ e is xs clean.
    let os = c.args.octets.now in
    let eight = c.in_ok-eight.eight in
    let marked = c.eight_marks.ensures.marks is_bit bit-marks eight c.in_ok-eight.was in
    let taken : eight.taken ≡ e.taken = cc in
    let octet : c.gathered.result ≡ e.octet = cc in
    rw (← taken, ← octet)
    (text-given is_bit (λ y. y == 49) os eight.marks eight.taken _ marked.0 marked.1 c.gathered.ensures xs clean)

pub returns-clause-fewest : goal.returns-clause-fewest
returns-clause-fewest c =
    λ e is.
    let eight = c.in_ok-eight.eight in
    let taken : eight.taken ≡ e.taken = cc in
    rw (← taken) (c.eight_marks.ensures.fewest is_bit bit-marks eight c.in_ok-eight.was)

pub returns-clause-some : goal.returns-clause-some
returns-clause-some c = (
  λ is-some. (c.eight_marks.ensures.some is_bit bit-marks).0 (subst IsSome (sym c.in_ok-eight.was) refl),
  λ either. refl,
)
