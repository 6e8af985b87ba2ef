use Rattle.std.proofs.Common.{◌≡◌, ◌+◌, ◌<◌, ◌++◌, ℕ, length, Some, inl, inr, sym, ap, ◌∙◌, arith}
use Rattle.std.specs.Prelude.{slice_get, slice_set}
use Rattle.std.proofs.lemmas.Bool.{cases_lt}
use Rattle.std.proofs.lemmas.List.{length-set}
use Rattle.bus_bits.specs.Octet.{bits_of}
use Rattle.bus_bits.proofs.OctetLemmas.{length-bits}
use Rattle.bus_line.specs.declared.line.Line.TheVariants.{First, Second}
use Rattle.bus_tap.specs.Arrival.{own}
use Rattle.bus_clocks.proofs.PartsLemmas.{get-beside, get-same}
use Rattle.bus_clocks.proofs.TurnsLemmas.{parts-more}
use Rattle.bus_clocks.proofs.RoomLemmas.{own-count}
use Rattle.bus_clocks.proofs.parted.Parted.take_turns.Goals as goal

pub bounds-self-from : goal.bounds-self-from
bounds-self-from c = omega (
  arith,
  c.count-from.ensures.value,
  ap length c.requires.parts.1.second,
  own-count c.requires.parts.0,
  c.requires.parts.2,
  c.loop-turn-test.true,
)

pub loop-turn-preserved : goal.loop-turn-preserved
loop-turn-preserved c =
    let at = c.count-from.result + c.loop-turn.turn in
    let now = c.count.result + c.args.ahead + c.loop-turn.turn in
    let before = c.loop-turn.self.before in
    let so_far = c.loop-turn.invariant in
    let inside : at < length before = omega (
      arith,
      so_far.long,
      c.requires.parts.1.long,
      c.count-from.ensures.value,
      ap length c.requires.parts.1.second,
      own-count c.requires.parts.0,
      c.requires.parts.2,
      c.loop-turn-test.true,
    ) in
    record {
      first = so_far.first;
      second = so_far.second;
      long = length-set before at now ∙ so_far.long;
      had = λ k below. get-beside before at k now (λ same. omega (arith, same, below)) ∙ so_far.had k below;
      more = λ k below. elim (cases_lt k c.loop-turn.turn) [
        | inl earlier ↦
            get-beside before at (c.count-from.result + k) now (λ same. omega (arith, same, earlier))
            ∙ so_far.more k earlier
        | inr last ↦
            (let is : k ≡ c.loop-turn.turn = omega (arith, last, below) in
            ap (λ (i : ℕ). slice_get (slice_set before at now) (c.count-from.result + i)) is
            ∙ (get-same before at now inside ∙ ap (λ (i : ℕ). Some (c.count.result + c.args.ahead + i)) (sym is)))
      ];
    }

pub append-requires-clause-room : goal.append-requires-clause-room
append-requires-clause-room c = omega (
  arith,
  ap length c.loop-turn.invariant.first,
  ap length c.requires.parts.1.first,
  own-count c.requires.parts.0,
  c.requires.parts.2,
)

pub append-requires-2-clause-room : goal.append-requires-2-clause-room
append-requires-2-clause-room c = omega (
  arith,
  ap length c.loop-turn.invariant.second,
  ap length c.requires.parts.1.second,
  own-count c.requires.parts.0,
  c.requires.parts.2,
)

pub returns : goal.returns
returns c = λ xs zs parts room ones twos turns.
    let p = c.args.self.now in
    let all = c.loop-turn.invariant in
    let first = ap length ones ∙ length-bits 32 c.args.first in
    let second = ap length twos ∙ length-bits 32 c.args.second in
    let from : c.count-from.result ≡ length (own Second xs) = c.count-from.ensures.value ∙ ap length parts.second in
    let ahead : c.count.result ≡ length (own First xs) = c.count.ensures.value ∙ ap length parts.first in
    let end : c.loop-turn.turn ≡ 32 = omega (arith, c.loop-turn-test.false, c.loop-turn.auto.turn-end) in
    parts-more xs zs p c.append.new.self c.append-2.new.self c.loop-turn.self.before
    (omega (arith, room, own-count zs, first, second)) parts
    (c.append.ensures ∙ (ap (λ b. b ++ bits_of 32 c.args.first) all.first ∙ ap (λ b. p.first ++ b) (sym ones)))
    (c.append-2.ensures ∙ (ap (λ b. b ++ bits_of 32 c.args.second) all.second ∙ ap (λ b. p.second ++ b) (sym twos)))
    (all.long ∙ parts.long)
    (λ k below. all.had k (omega (arith, below, from)))
    (λ k below.
    let few : k < 32 = omega (arith, below, second) in
    ap (λ (n : ℕ). slice_get c.loop-turn.self.before (n + k)) (sym from)
    ∙ (all.more k (omega (arith, few, end)) ∙ ap Some (omega (arith, ahead, turns k few))))
