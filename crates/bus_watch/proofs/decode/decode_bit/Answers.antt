use Rattle.std.proofs.Common.{◌≡◌, ◌-◌, ◌^◌, ◌++◌, [], ◌∷◌, length, inl, inr, arith}
use Rattle.std.proofs.lemmas.Bool.{cases_lt}
use Rattle.std.proofs.lemmas.List.{length_push}
use Rattle.bus_watch.proofs.decode.decode_bit.Goals as goal

pub record-requires-clause-decided : goal.record-requires-clause-decided
record-requires-clause-decided g c =
    let b = c.requires.reached.bits in
    let d = c.args.decoder.now in
    let new = c.advance.new.self in
    let led = c.in_ok-event.ensures.advances.decides.leads in
    let bits = b ++ c.args.bit ∷ [] in
    let last : length b ≡ length bits - 1 = omega (arith, length_push b c.args.bit) in
    record {
      bits = bits;
      due = rw (led.longest, led.origin, ← last) (c.in_ok-event.ensures.answer b c.requires.reached.after);
    }

pub record-requires-clause-room : goal.record-requires-clause-room
record-requires-clause-room g c =
    c.requires.room (elim (cases_lt c.args.decoder.now.place (2 ^ 60))
    [ inl near ↦ near | inr far ↦ absurd (let refused = c.in_ok-event.ensures.limit.1 far in cc) ])
