use Rattle.std.proofs.Common.{◌≡◌, ◌+◌, ◌-◌, replicate, arith}
use Rattle.std.proofs.lemmas.List.{length-replicate}
use Rattle.bus_tap.specs.Sampled.{bits_of_edges, with_sample}
use Rattle.bus_tap.specs.Tapped.{AdvancesTap}
use Rattle.port1_c.proofs.TapLemmas.{tapped-more}
use Rattle.port1_c.proofs.tap.take_some.Goals as goal

pub returns-clause-taken : goal.returns-clause-taken
returns-clause-taken c = λ from rule start ls long tapped.
    let old = c.args.tap.now in
    let n = c.in-Ok.taken.samples in
    let ts = with_sample (c.samples.result - 1) (bits_of_edges c.in-Ok.taken.edges) in
    let last : old.samples + n - 1 ≡ c.samples.result - 1 =
    omega (arith, c.samples.ensures, c.in-Ok.ensures.taken.2.samples, length-replicate n c.args.levels) in
    let advances : AdvancesTap old (replicate n c.args.levels) ts c.consume.new.self =
    rw last at c.in-Ok.ensures.taken.2 in
    tapped-more from old c.consume.new.self rule c.args.stops.now c.put_sample.new.stops start c.args.arrivals.now
    c.put_sample.new.arrivals ls (replicate n c.args.levels) ts 32 c.args.arrived.now c.put_sample.new.count long
    c.requires.room advances c.put_sample.ensures tapped
