use Rattle.std.proofs.Common.{◌≡◌, true}
use Rattle.bus_calls.proofs.EncodeStateLemmas.{flush_fails}
use Rattle.bus_calls.proofs.encode.reader.LineReader.flush.Goals as goal

pub returns-in-Err : goal.returns-in-Err
returns-in-Err g c = λ reads after start xs ends.
    flush_fails reads after start (g.W.Write.contents c.args.w.now) (g.W.Write.contents c.flush.new.self)
    c.args.self.now.written xs c.args.ending
    (λ n is. let cut : c.is_cut.result ≡ true = c.is_cut.ensures.1 (n, is) in cc) c.in-Err.ensures.bytes ends
