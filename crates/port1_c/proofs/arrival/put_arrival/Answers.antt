use Rattle.std.proofs.Common.{rules, arith}
use Rattle.port1_c.proofs.TapLemmas.{put-more}
use Rattle.port1_c.proofs.arrival.put_arrival.Goals as goal

pub returns-clause-put : goal.returns-clause-put
returns-clause-put c = record {
  long = search rules;
  put = λ start ys number long from. rw (from, number, c.of.ensures)
      (put-more start ys (c.args.line, c.args.bit) (omega (arith, number, long, c.requires.room)));
}
