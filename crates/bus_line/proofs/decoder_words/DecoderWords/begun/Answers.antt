use Rattle.std.proofs.Common.{rules}
use Rattle.bus_line.proofs.decoder_words.DecoderWords.begun.Goals as goal

pub returns-then-first-self : goal.returns-then-first-self
returns-then-first-self c = search rules
