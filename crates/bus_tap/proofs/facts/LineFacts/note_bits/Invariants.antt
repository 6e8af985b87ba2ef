use Rattle.bus_tap.proofs.BlockLemmas.{HasNoted}
use Rattle.bus_tap.proofs.facts.LineFacts.note_bits.Given as goal

-- the bits so far are noted
abbrev pub invariant-loop-left : goal.invariant-loop-left
invariant-loop-left l = HasNoted l.jump l.from l.rises l.initial.self l.self l.left

abbrev pub decreases-loop-left : goal.decreases-loop-left
decreases-loop-left l = l.left
