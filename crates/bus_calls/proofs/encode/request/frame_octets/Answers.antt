use Rattle.std.proofs.Common.{◌≡◌, true, arith}
use Rattle.bus_calls.proofs.OrderLemmas.{no_frame, too_short, too_long, framed}
use Rattle.bus_calls.proofs.encode.request.frame_octets.Goals as goal
use Rattle.bus_calls.proofs.encode.request.frame_octets.Goals.{then-count-lt2-via-then-count-lt2}
use Rattle.bus_calls.proofs.encode.request.frame_octets.Goals.{then-count-lt2-via-else-count-lt2+then-count-gt-MOST}

pub returns-then-not-is_hex-clause-octets : goal.returns-then-not-is_hex-clause-octets
returns-then-not-is_hex-clause-octets c =
    no_frame c.args.number c.args.digits.now (λ some even all.
    let hex : c.is_hex.result ≡ true = c.is_hex.ensures.1 (some, even, all) in
    cc hex)

pub returns-then-count-lt2-clause-octets : goal.returns-then-count-lt2-clause-octets
returns-then-count-lt2-clause-octets c =
    let digits = c.args.digits.now in
    let is = c.is_hex.ensures.0 c.if-not-is_hex.false in
    elim c.then-count-lt2.branch [
      | then-count-lt2-via-then-count-lt2 w ↦ too_short c.args.number digits is.0 is.1 is.2
          (omega (arith, w.if-count-lt2.true))
      | then-count-lt2-via-else-count-lt2+then-count-gt-MOST w ↦ too_long c.args.number digits is.1 is.2
          (omega (arith, w.if-count-gt-MOST.true))
    ]

pub returns-clause-octets : goal.returns-clause-octets
returns-clause-octets c =
    (framed c.args.number c.args.digits.now c.octets_of.result.items c.octets_of.ensures
    (omega (arith, c.if-count-lt2.false)) (omega (arith, c.if-count-gt-MOST.false))).0

pub returns-clause-at_least : goal.returns-clause-at_least
returns-clause-at_least c =
    (framed c.args.number c.args.digits.now c.octets_of.result.items c.octets_of.ensures
    (omega (arith, c.if-count-lt2.false)) (omega (arith, c.if-count-gt-MOST.false))).1
