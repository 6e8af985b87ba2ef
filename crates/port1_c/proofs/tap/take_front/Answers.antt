use Rattle.std.proofs.Common.{◌≡◌, ◌+◌, ◌-◌, ◌*◌, ◌≤◌, ◌<◌, ℕ, length, map, take, drop, ap, arith}
use Rattle.bus_tap.specs.Recorded.{record_at}
use Rattle.bus_tap.specs.Tapped.{channels}
use Rattle.port1_c.specs.Tap.{samples_from}
use Rattle.port1_c.proofs.TapLemmas.{levels-alike, samples-octets}
use Rattle.port1_c.proofs.tap.take_front.Goals as goal

pub returns-then-takes_blocks-clause-taken : goal.returns-then-takes_blocks-clause-taken
returns-then-takes_blocks-clause-taken c =
    let octets = c.args.octets.now in
    let at = c.args.at in
    let all : c.args.end * 1 ≤ length octets = rw (c.if-width-eq1.true) at c.requires.within in
    let within : at + 64 ≤ length octets = omega (arith, all, c.if-end-at-ge-BLOCK.true) in
    let size : at + 64 - at ≡ 64 = omega arith in
    let same : samples_from c.args.width octets at 64 ≡ take (at + 64 - at) (drop at octets) =
    rw (c.if-width-eq1.true, size) (samples-octets octets at 64 within) in
    rw (ap (map (channels c.args.wires.now)) same) c.take_block.ensures.taken

pub returns-clause-taken : goal.returns-clause-taken
returns-clause-taken c =
    let alike = c.alike-count.ensures in
    let n = c.take_some.result in
    let same : (k : ℕ) → k < n
    → record_at c.args.width c.args.octets.now (c.args.at + k) ≡ c.sample_at-sample.result =
    λ k inside. alike.same k (omega (arith, inside, c.take_some.ensures.count.0)) in
    rw (levels-alike c.args.wires.now c.args.width c.args.octets.now c.args.at c.sample_at-sample.result _ n same
    c.channels-levels.ensures) c.take_some.ensures.taken
