use Rattle.std.proofs.Common.{◌≡◌, ◌++◌, take}
use Rattle.bus_calls.proofs.packed.PackedCapture.gather.Given as goal

abbrev pub invariant-loop-octet : goal.invariant-loop-octet
invariant-loop-octet g l = record {
  head : l.self.head.items ≡ l.initial.self.head.items ++ take l.octet-index l.octets;
  body : l.self.body ≡ l.initial.self.body;
}
