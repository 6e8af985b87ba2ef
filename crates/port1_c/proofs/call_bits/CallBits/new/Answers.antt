use Rattle.port1_c.proofs.PutLemmas.{all-clear}
use Rattle.port1_c.proofs.call_bits.CallBits.new.Goals as goal

pub invariant_of-result-clause-clear : goal.invariant_of-result-clause-clear
invariant_of-result-clause-clear c i past = all-clear 313 i
