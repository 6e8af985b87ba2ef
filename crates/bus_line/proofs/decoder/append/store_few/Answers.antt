use Rattle.std.proofs.Common.{◌++◌, ◌-◌, List, ℕ, ap, ◌∙◌, subst, arith}
use Rattle.std.specs.Int.{w32, to_le_bytes}
use Rattle.std.specs.Int.Bits.{and_mask}
use Rattle.bus_line.proofs.TracksAppendLemmas.{four-octets, stores-both}
use Rattle.bus_line.proofs.decoder.append.store_few.Goals as goal

pub returns : goal.returns
returns g c =
    let n = c.args.octets in
    let four = c.to_le_bytes-four.ensures ∙ (ap (to_le_bytes w32) (and_mask n 32) ∙ four-octets n) in
    stores-both 4 (c.args.count - 4) n c.args.count (omega (arith, c.if-count-lt4.false))
    (record {
      stored = c.push_four.ensures ∙ ap (λ (os : List ℕ). g.F.FrameBuffer.octets c.args.frame.now ++ os) four;
      checked = λ before is.
          subst (λ (os : List ℕ). g.C.Check.check.folded c.fold_four.new.self (before ++ os)) four
          (c.fold_four.ensures.folded before is);
    })
    c.store_three-2.ensures
