use Rattle.std.proofs.Common.{◌≡◌, ℕ, true, false, sym, ◌∙◌}
use Rattle.bus_sample.specs.declared.fault.SampleFault.TheVariants.{Write}
use Rattle.bus_sample.proofs.CloseLemmas.{closed-whole, closed-cut}
use Rattle.bus_sample.proofs.reader.SampleRun.close_behind.Goals as goal

pub returns-in-Ok-clause-samples : goal.returns-in-Ok-clause-samples
returns-in-Ok-clause-samples g c = λ after start xs ends.
    let none : (sent : ℕ) → c.args.fault ≡ Write sent → ⊥ =
    λ sent is. (let clash : false ≡ true = sym c.if-is_cut.false ∙ c.is_cut.ensures.1 (sent, is) in absurd (cc)) in
    closed-whole after start (g.W.Write.contents c.args.w.now) (g.W.Write.contents c.close.new.w) c.args.self.now
    c.requires.size xs c.args.fault none (c.in-Ok.ensures.closed start) ends

pub returns-in-Err-clause-samples : goal.returns-in-Err-clause-samples
returns-in-Err-clause-samples g c = λ after start xs ends.
    let none : (sent : ℕ) → c.args.fault ≡ Write sent → ⊥ =
    λ sent is. (let clash : false ≡ true = sym c.if-is_cut.false ∙ c.is_cut.ensures.1 (sent, is) in absurd (cc)) in
    closed-cut after start (g.W.Write.contents c.args.w.now) (g.W.Write.contents c.close.new.w) c.args.self.now
    c.requires.size xs c.args.fault c.in-Err.cut.sent none (c.in-Err.ensures.closed start) ends
