use Rattle.std.proofs.Common.{◌≡◌, IsSome, refl, sym, subst}
use Rattle.bus_formats.specs.Capture.{is_pair, mark_pair}
use Rattle.bus_bits.proofs.CaseLemmas.{no-some}
use Rattle.bus_formats.proofs.EightBitsLemmas.{pair-marks}
use Rattle.bus_formats.proofs.EightBitsOfNineLemmas.{text-given}
use Rattle.bus_formats.proofs.text_pairs.TextPairs.eight.Goals as goal

pub returns-in_err-eight-clause-some : goal.returns-in_err-eight-clause-some
returns-in_err-eight-clause-some c = (
  λ is-some. absurd (no-some c.from_residual.result c.from_residual.ensures is-some),
  λ either. absurd (no-some c.eight_marks.result c.in_err-eight.was
      ((c.eight_marks.ensures.some is_pair pair-marks).1 either)),
)

pub gathered_pairs-first-requires : goal.gathered_pairs-first-requires
gathered_pairs-first-requires c =
    (c.eight_marks.ensures.marks is_pair pair-marks c.in_ok-eight.eight c.in_ok-eight.was).2

pub returns-clause-given : goal.returns-clause-given
returns-clause-given c =
    λ e is xs clean.
    let os = c.args.octets.now in
    let eight = c.in_ok-eight.eight in
    let marked = c.eight_marks.ensures.marks is_pair pair-marks eight c.in_ok-eight.was in
    let taken : eight.taken ≡ e.taken = cc in
    let first : c.gathered_pairs-first.result.0 ≡ e.first = cc in
    let second : c.gathered_pairs-first.result.1 ≡ e.second = cc in
    rw (← taken, ← first, ← second)
    (text-given is_pair mark_pair os eight.marks eight.taken _ marked.0 marked.1 c.gathered_pairs-first.ensures xs
    clean)

pub returns-clause-fewest : goal.returns-clause-fewest
returns-clause-fewest c =
    λ e is.
    let eight = c.in_ok-eight.eight in
    let taken : eight.taken ≡ e.taken = cc in
    rw (← taken) (c.eight_marks.ensures.fewest is_pair pair-marks eight c.in_ok-eight.was)

pub returns-clause-some : goal.returns-clause-some
returns-clause-some c = (
  λ is-some. (c.eight_marks.ensures.some is_pair pair-marks).0 (subst IsSome (sym c.in_ok-eight.was) refl),
  λ either. refl,
)
