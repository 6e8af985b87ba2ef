use Rattle.std.proofs.Common.{rules}
use Rattle.bus_text.proofs.KnownBytesLemmas.{appends_rest}
use Rattle.bus_text.proofs.put.put_text.Goals as goal

pub loop-sent-preserved : goal.loop-sent-preserved
loop-sent-preserved g c = record {
  sent = search rules;
  out = appends_rest _ _ _ c.args.text.now c.loop-sent.sent c.in-Ok.n c.loop-sent.invariant.out c.in-Ok.ensures.bytes;
}
