use Rattle.std.proofs.Common.{arith}
use Rattle.std.proofs.lemmas.Result.{on_ok_weaker, on_err_weaker}
use Rattle.bus_watch.proofs.PairFedLemmas.{offered-more, either-way}
use Rattle.bus_watch.proofs.pair.feed.offer_both.Goals as goal

pub returns-in-Ok-clause-ok : goal.returns-in-Ok-clause-ok
returns-in-Ok-clause-ok g c =
    on_ok_weaker c.offer-in-Ok.result (λ second. offered-more c.in-Ok.ensures.ok second) c.offer-in-Ok.ensures.ok

pub returns-in-Ok-clause-err : goal.returns-in-Ok-clause-err
returns-in-Ok-clause-err g c =
    on_err_weaker c.offer-in-Ok.result
    (λ second. (1, omega arith, omega arith, offered-more c.in-Ok.ensures.ok second)) c.offer-in-Ok.ensures.err

pub returns-in-Err-clause-err : goal.returns-in-Err-clause-err
returns-in-Err-clause-err g c =
    either-way c.offer-in-Err.result
    (λ second. (1, omega arith, omega arith, offered-more c.in-Err.ensures.err second))
    (λ second. (2, omega arith, omega arith, offered-more c.in-Err.ensures.err second))
    c.offer-in-Err.ensures.ok c.offer-in-Err.ensures.err
