use Rattle.std.proofs.Common.{◌≡◌, ◌+◌, ◌-◌, ◌*◌, ap, ◌∙◌, take, drop, arith}
use Rattle.bus_tap.specs.Recorded.{record_number}
use Rattle.port1_c.proofs.tap.sample_at.Goals as goal

pub returns : goal.returns
returns c =
    let begin = c.args.at * c.args.width in
    let size : begin + c.args.width - begin ≡ c.args.width = omega arith in
    c.number_of.ensures ∙ ap (λ n. record_number (take n (drop begin c.args.octets.now))) size
