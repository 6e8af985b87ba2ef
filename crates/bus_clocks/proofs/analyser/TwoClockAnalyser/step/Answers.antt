use Rattle.bus_clocks.proofs.analyser.TwoClockAnalyser.step.Goals as goal

pub returns-in-First-clause-sees : goal.returns-in-First-clause-sees
returns-in-First-clause-sees g c = rw (c.in-First.is) c.push_first.ensures.sees

pub returns-in-Second-clause-sees : goal.returns-in-Second-clause-sees
returns-in-Second-clause-sees g c = rw (c.in-Second.is) c.push_second.ensures.sees
