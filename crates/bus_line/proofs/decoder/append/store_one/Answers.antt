use Rattle.std.proofs.Common.{◌≡◌, ◌/◌, ◌%◌, [], ◌∷◌, ◌++◌, List, ℕ, ap, ◌∙◌, subst, arith}
use Rattle.std.specs.Prelude.{bit_and}
use Rattle.std.specs.Int.Bits.{and_mask}
use Rattle.bus_line.specs.Internal.Settled.{low_octets}
use Rattle.bus_line.proofs.decoder.append.store_one.Goals as goal

pub returns : goal.returns
returns g c =
    let n = c.args.octets in
    let one : c.args.count ≡ 1 = omega (arith, c.if-count-eq0.false, c.requires.few) in
    let lowest : n % 256 ≡ n / 1 % 256 = omega arith in
    let same : bit_and n 255 ∷ [] ≡ low_octets 1 n = ap (λ (o : ℕ). o ∷ []) (and_mask n 8 ∙ lowest) in
    rw one (record {
      stored = c.push.ensures ∙ ap (λ (os : List ℕ). g.F.FrameBuffer.octets c.args.frame.now ++ os) same;
      checked = λ before is.
          subst (λ (os : List ℕ). g.C.Check.check.folded c.fold.new.self (before ++ os)) same
          (c.fold.ensures.folded before is);
    })
