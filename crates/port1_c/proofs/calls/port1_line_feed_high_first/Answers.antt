use Rattle.std.proofs.Common.{◌≡◌, ◌-◌, ◌∷◌, [], arith}
use Rattle.bus_bits.specs.Bits.{bits_from}
use Rattle.port1_c.specs.Bits.{high_first}
use Rattle.port1_c.proofs.OctetLemmas.{bits-of-reversed}
use Rattle.port1_c.proofs.DecidesLemmas.{advances-same}
use Rattle.port1_c.proofs.calls.port1_line_feed_high_first.Goals as goal

taken : (c : goal.After-feed) → bits_from (c.reverse_bits.result ∷ []) c.args.at.now (c.feed.new.at - c.args.at.now)
    ≡ high_first c.args.octet c.args.at.now (c.feed.new.at - c.args.at.now)
taken c =
    let at = c.args.at.now in
    bits-of-reversed c.args.octet c.reverse_bits.result at (c.feed.new.at - at) c.reverse_bits.ensures
    (omega (arith, c.feed.ensures.bound))

pub returns-clause-advances : goal.returns-clause-advances
returns-clause-advances c = λ sound.
    advances-same c.feed.new.report (taken c) (c.feed.ensures.advances sound)
