use Rattle.bus_calls.proofs.EncodeStateLemmas.{known_encodes}
use Rattle.bus_calls.proofs.encode.encode_frames.Goals as goal

pub returns-clause-encoded : goal.returns-clause-encoded
returns-clause-encoded g c =
    let run = c.read_to_end-ending.ensures in (
      run.0,
      run.1,
      c.flush.ensures c.args.reads (g.R.Read.remaining c.read_to_end-ending.new.r)
          (g.W.Write.contents c.args.w.now) run.0 run.2,
    )

pub returns-clause-known : goal.returns-clause-known
returns-clause-known g c =
    let run = c.read_to_end-ending.ensures in
    let start = g.W.Write.contents c.args.w.now in
    known_encodes c.args.reads (g.R.Read.remaining c.args.r.now) (g.R.Read.remaining c.read_to_end-ending.new.r) start
    (g.W.Write.contents c.flush.new.w) run.0 c.flush.result run.1
    (c.flush.ensures c.args.reads (g.R.Read.remaining c.read_to_end-ending.new.r) start run.0 run.2)
