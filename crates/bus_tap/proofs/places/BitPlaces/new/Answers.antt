use Rattle.std.proofs.Common.{arith}
use Rattle.bus_tap.proofs.places.BitPlaces.new.Goals as goal

pub returns-clause-keeps : goal.returns-clause-keeps
returns-clause-keeps c = record {
  reached = omega arith;
  recent = λ k inside near. absurd (omega (arith, inside));
  opened = λ k is. absurd (cc);
}
