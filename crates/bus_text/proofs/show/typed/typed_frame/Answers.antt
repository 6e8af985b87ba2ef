use Rattle.std.proofs.Common.{◌≡◌, length, true, sym, ap, ◌∙◌, subst, arith}
use Rattle.std.specs.List.{AllPass}
use Rattle.hex.specs.Hex.{decode_of, is_hex_digit}
use Rattle.bus_text.proofs.ShowLemmas.{no_hex, too_short, too_long, sized_frame}
use Rattle.bus_text.proofs.show.typed.typed_frame.Goals as goal
use Rattle.bus_text.proofs.show.typed.typed_frame.Goals.{then-count-lt4-via-then-count-lt4}
use Rattle.bus_text.proofs.show.typed.typed_frame.Goals.{then-count-lt4-via-else-count-lt4+then-count-gt-MOST}

pub returns-then-not-is_hex-clause-octets : goal.returns-then-not-is_hex-clause-octets
returns-then-not-is_hex-clause-octets c =
    let same = c.as_bytes-digits.ensures.value in
    no_hex c.args.hex.now (λ some even all.
    let hex : c.is_hex.result ≡ true =
    c.is_hex.ensures.1 (
      omega (arith, some, ap length same),
      omega (arith, even, ap length same),
      subst (AllPass is_hex_digit) (sym same) all,
    ) in
    cc hex)

pub returns-then-count-lt4-clause-octets : goal.returns-then-count-lt4-clause-octets
returns-then-count-lt4-clause-octets c =
    let same = c.as_bytes-digits.ensures.value in
    let s = c.args.hex.now in
    let is = c.is_hex.ensures.0 c.if-not-is_hex.false in
    let all : AllPass is_hex_digit s = subst (AllPass is_hex_digit) same is.2 in
    elim c.then-count-lt4.branch [
      | then-count-lt4-via-then-count-lt4 w ↦ too_short s (omega (arith, is.0, ap length same))
          (omega (arith, is.1, ap length same)) all (omega (arith, w.if-count-lt4.true, ap length same))
      | then-count-lt4-via-else-count-lt4+then-count-gt-MOST w ↦ too_long s (omega (arith, is.1, ap length same)) all
          (omega (arith, w.if-count-gt-MOST.true, ap length same))
    ]

pub returns-clause-octets : goal.returns-clause-octets
returns-clause-octets c =
    let same = c.as_bytes-digits.ensures.value in
    (sized_frame c.args.hex.now c.octets_of.result.items (ap decode_of (sym same) ∙ c.octets_of.ensures)
    (omega (arith, c.if-count-lt4.false, ap length same)) (omega (arith, c.if-count-gt-MOST.false, ap length same))).0

pub returns-clause-at_least : goal.returns-clause-at_least
returns-clause-at_least c =
    let same = c.as_bytes-digits.ensures.value in
    (sized_frame c.args.hex.now c.octets_of.result.items (ap decode_of (sym same) ∙ c.octets_of.ensures)
    (omega (arith, c.if-count-lt4.false, ap length same)) (omega (arith, c.if-count-gt-MOST.false, ap length same))).1
