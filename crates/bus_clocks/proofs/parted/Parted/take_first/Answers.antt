use Rattle.std.proofs.Common.{◌/◌, ◌++◌, length, bit_and, refl, sym, ap, ◌∙◌, arith, append-nil}
use Rattle.std.proofs.Common.{length-append}
use Rattle.bus_bits.specs.Octet.{bits_of}
use Rattle.bus_bits.proofs.OctetLemmas.{length-bits}
use Rattle.bus_formats.proofs.TextBlockLemmas.{bits-halves}
use Rattle.bus_clocks.proofs.TurnsLemmas.{parts-more}
use Rattle.bus_clocks.proofs.RoomLemmas.{own-count}
use Rattle.bus_clocks.proofs.parted.Parted.take_first.Goals as goal

pub append-requires-clause-room : goal.append-requires-clause-room
append-requires-clause-room c =
    omega (arith, ap length c.requires.1.first, own-count c.requires.0, c.requires.2)

pub append-requires-2-clause-room : goal.append-requires-2-clause-room
append-requires-2-clause-room c = omega (
  arith,
  ap length c.append.ensures,
  length-append c.args.self.now.first (bits_of 32 (bit_and c.args.bits 4294967295)),
  length-bits 32 (bit_and c.args.bits 4294967295),
  ap length c.requires.1.first,
  own-count c.requires.0,
  c.requires.2,
)

pub returns : goal.returns
returns c = λ xs zs parts room ones twos.
    let p = c.args.self.now in
    let none = ap length twos in
    parts-more xs zs p c.append-2.new.self p.second p.before
    (omega (arith, room, own-count zs, ap length ones ∙ length-bits 64 c.args.bits, none)) parts
    (c.append-2.ensures ∙ (ap (λ b. b ++ bits_of 32 (c.args.bits / 4294967296)) c.append.ensures
    ∙ (bits-halves p.first c.args.bits ∙ ap (λ b. p.first ++ b) (sym ones))))
    (sym (append-nil p.second) ∙ ap (λ b. p.second ++ b) (sym twos)) parts.long (λ k below. refl)
    (λ k below. absurd (omega (arith, below, none)))
