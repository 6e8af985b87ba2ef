use Rattle.std.proofs.Common.{◌==◌, refl}
use Rattle.bus_bits.specs.Text.{is_bit}
use Rattle.bus_formats.proofs.TextBlockLemmas.{packed-none}
use Rattle.bus_formats.proofs.text_bits.TextBits.pack.Goals as goal

pub loop-now-init : goal.loop-now-init
loop-now-init c = record {
  packed = packed-none is_bit (λ x. x == 49) c.args.text.now c.args.block.now c.requires.some;
  len = refl;
}
