use Rattle.bus_line.specs.declared.line.Line.TheVariants.{First}
use Rattle.bus_pairing.specs.declared.pair_kept.PairKept.{PairKept}
use Rattle.bus_pairing.proofs.HistoryLemmas.{appended}
use Rattle.bus_pairing.proofs.conversation.keep.next_place.Goals as goal

pub returns-clause-items : goal.returns-clause-items
returns-clause-items c frame =
    let ring = c.args.ring.now in
    let blank : PairKept = record { line = First; kept = c.blank.result } in
    rw (c.len.ensures.len, c.push_back.ensures.items) (appended ring.capacity ring.items blank frame)
