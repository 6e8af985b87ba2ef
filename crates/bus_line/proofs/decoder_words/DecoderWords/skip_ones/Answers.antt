use Rattle.bus_line.proofs.TimeFillLemmas.{ones-none}
use Rattle.bus_line.proofs.decoder_words.DecoderWords.skip_ones.Goals as goal

pub returns-then-self-ne65535-clause-bits : goal.returns-then-self-ne65535-clause-bits
returns-then-self-ne65535-clause-bits c = ones-none c.args.octets.now c.args.from
