use Rattle.std.proofs.Common.{append_assoc}
use Rattle.std.proofs.lemmas.List.{map-append}
use Rattle.bus_line.specs.declared.line.Line.TheVariants.{First, Second}
use Rattle.bus_tap.specs.Sampled.{Timed, bit_on}
use Rattle.bus_sample.proofs.marks.Marks.put_sample.Goals as goal

pub returns-clause-put : goal.returns-clause-put
returns-clause-put c = λ start now most ts marked.
    rw (
      map-append {B = Timed} (λ x. (c.args.sample, x)) (bit_on First c.args.edges.first)
          (bit_on Second c.args.edges.second),
      ← append_assoc,
    ) (c.put_bit-2.ensures.put start now most _ (c.put_bit.ensures.put start now most ts marked))
