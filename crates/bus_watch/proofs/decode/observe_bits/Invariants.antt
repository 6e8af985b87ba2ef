use Rattle.std.proofs.Common.{◌-◌, ◌+◌, ◌≤◌, ℕ}
use Rattle.bus_bits.specs.Bits.{bits_from}
use Rattle.bus_watch.specs.Decodes.{DecodesMany, KeepsUp}
use Rattle.bus_watch.proofs.decode.observe_bits.Given as goal

-- the bits so far were taken, and what is seen at them was told
abbrev pub invariant-loop-at : goal.invariant-loop-at
invariant-loop-at g l = record {
  some : l.from ≤ l.at;
  within : l.at ≤ l.past;
  reports : DecodesMany g.C.Check.check l.fn.line l.fn.decoder l.fn.conversation
      (bits_from l.fn.octets l.from (l.at - l.from))
      l.decoder l.conversation
      (λ ss. g.L.ReportObserver.observes l.fn.conversation.dictionary l.fn.observer l.fn.out ss l.observer l.out);
  left : (more : ℕ) → g.L.ReportObserver.has_room l.fn.observer (l.past - l.from + more) →
      g.L.ReportObserver.has_room l.observer (l.past - l.at + more);
  keeps_up : KeepsUp g.C.Check.check l.decoder l.conversation;
}

abbrev pub decreases-loop-at : goal.decreases-loop-at
decreases-loop-at g l = l.past - l.at
