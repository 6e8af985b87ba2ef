use Rattle.bus_clocks.proofs.HeadlineLemmas.{whole-run}
use Rattle.bus_clocks.proofs.analyser.TwoClockAnalyser.usage.Goals as goal

pub returns-clause-headline : goal.returns-clause-headline
returns-clause-headline g c =
    whole-run g.C.Check.check c.args.self.now
    (record {
      first_buffered = c.buffered.result;
      second_buffered = c.buffered-2.result;
      history_len = c.history_len.result;
      spent = c.spent.result;
    }) c.any_cut_of_arrivals.ensures c.reports_are.ensures.are
    c.seen_grows.ensures.reports c.arrivals_are.ensures.apart (record {
      first_room = c.buffered.ensures.bound;
      second_room = c.buffered-2.ensures.bound;
      first_buffered = c.buffered.ensures.stored;
      second_buffered = c.buffered-2.ensures.stored;
      kept = c.history_len.ensures.value;
      deep = c.history_len.ensures.depth;
      ledger = c.spent.ensures.ledger;
      four = c.spent.ensures.four;
      three = λ cheap xs reached. (c.spent.ensures.three cheap xs reached).1;
    })
