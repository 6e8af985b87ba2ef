use Rattle.std.proofs.Common.{◌≡◌, take, arith}
use Rattle.std.proofs.lemmas.List.{take_all}
use Rattle.bus_tap.proofs.LaneLemmas.{bits-are}
use Rattle.bus_tap.proofs.gather.ByLanesGather.gather.Goals as goal

pub returns : goal.returns
returns c = λ i inside.
    let octets = c.args.octets.now in
    let all : take 64 octets ≡ octets = take_all 64 octets (omega (arith, c.requires.long)) in
    rw all (bits-are octets c.args.at i c.requires.long c.requires.at inside)
