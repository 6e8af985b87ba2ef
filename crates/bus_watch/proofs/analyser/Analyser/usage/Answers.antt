use Rattle.bus_watch.proofs.HeadlineLemmas.{whole-run}
use Rattle.bus_watch.proofs.analyser.Analyser.usage.Goals as goal

pub returns-clause-headline : goal.returns-clause-headline
returns-clause-headline g c =
    whole-run g.C.Check.check c.args.self.now
    (record { buffered = c.buffered.result; history_len = c.history_len.result; spent = c.spent.result })
    c.any_cut.ensures c.reports_are.ensures.are c.seen_grows.ensures.reports (record {
      room = c.buffered.ensures.bound;
      buffered = c.buffered.ensures.stored;
      kept = c.history_len.ensures.value;
      deep = c.history_len.ensures.depth;
      ledger = c.spent.ensures.ledger;
      seventeen = c.spent.ensures.seventeen;
      four = c.spent.ensures.four;
      three = λ cheap b reached. (c.spent.ensures.three cheap b reached).1;
    })
