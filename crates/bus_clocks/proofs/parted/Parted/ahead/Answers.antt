use Rattle.std.proofs.Common.{◌≡◌, ◌-◌, ◌<◌, suc, length, sym, ap, ◌∙◌, arith}
use Rattle.std.proofs.lemmas.Option.{get_or_from_slice_get}
use Rattle.bus_line.specs.declared.line.Line.TheVariants.{First, Second}
use Rattle.bus_tap.specs.Arrival.{own, firsts_before}
use Rattle.bus_clocks.specs.Internal.Parts.{upto}
use Rattle.bus_clocks.proofs.PartsLemmas.{firsts-upto}
use Rattle.bus_clocks.proofs.RoomLemmas.{own-count}
use Rattle.bus_clocks.proofs.parted.Parted.ahead.Goals as goal

pub offset_bounds-self-seconds : goal.offset_bounds-self-seconds
offset_bounds-self-seconds c =
    let parts = c.requires.parts.1 in
    omega (
      arith,
      c.requires.within,
      ap length parts.second,
      own-count c.requires.parts.0,
      parts.few,
    )

pub bounds-self-seconds : goal.bounds-self-seconds
bounds-self-seconds c =
    let parts = c.requires.parts.1 in
    omega (
      arith,
      c.requires.within,
      ap length parts.second,
      own-count c.requires.parts.0,
      parts.few,
      c.if-seconds-eq0.false,
    )

pub returns : goal.returns
returns c = λ xs parts.
    let k = c.args.seconds - 1 in
    let next : suc k ≡ c.args.seconds = omega (arith, c.if-seconds-eq0.false) in
    let inside : k < length (own Second xs) = omega (
      arith,
      c.requires.within,
      ap length parts.second,
      c.if-seconds-eq0.false,
    ) in
    get_or_from_slice_get c.args.self.now.before k (firsts_before k xs) 0 (parts.before k inside)
    ∙ (sym (firsts-upto k xs inside) ∙ ap (λ n. length (own First (upto n xs))) next)
