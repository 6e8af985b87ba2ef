use Rattle.std.proofs.Common.{◌≡◌, ◌+◌, ◌-◌, ◌/◌, ◌%◌, ◌++◌, ℕ, length, length-append, ap, ◌∙◌, subst, arith, min}
use Rattle.bus_bits.proofs.OctetLemmas.{least}
use Rattle.bus_line.specs.Words.{state}
use Rattle.bus_line.specs.Internal.Settled.{low_octets}
use Rattle.bus_line.proofs.TracksAppendLemmas.{holds-last, length-octets_of}
use Rattle.bus_line.proofs.decoder_words.DecoderWords.store_last.Goals as goal

pub returns-clause-holds : goal.returns-clause-holds
returns-clause-holds g c = λ bits holds within.
    let w = c.args.self.now in
    let m = c.min-stored.result in
    let held = g.F.FrameBuffer.octets c.begin.new.frame in
    let stored = c.store_few.ensures in
    let count : m ≡ min (length bits / 8 % 8) (w.longest + 2 - length held) =
    omega (
      arith,
      c.min-stored.ensures,
      least (w.data_bits / 8 % 8) (w.longest + 2 - c.len.result),
      c.len.ensures,
      holds.count,
    ) in
    holds-last _ (state w c.begin.new.check held)
    (state w c.store_few.new.check (g.F.FrameBuffer.octets c.store_few.new.frame)) m bits
    (c.begin.ensures.keeps bits holds) within count
    (stored.stored ∙ ap (λ (n : ℕ). held ++ low_octets m n) holds.partial)
    (λ xs folded. subst (λ (n : ℕ). g.C.Check.check.folded c.store_few.new.check (xs ++ low_octets m n)) holds.partial
    (stored.checked xs folded))

pub returns-clause-sound : goal.returns-clause-sound
returns-clause-sound g c =
    let w = c.args.self.now in
    let held = g.F.FrameBuffer.octets c.begin.new.frame in
    let m = c.min-stored.result in
    record {
      within = c.requires.sound.within;
      room = omega (
        arith,
        ap length c.store_few.ensures.stored,
        length-append held (low_octets m w.partial),
        length-octets_of m w.partial,
        c.min-stored.ensures,
        least (w.data_bits / 8 % 8) (w.longest + 2 - c.len.result),
        c.len.ensures,
        c.begin.ensures.sound.room,
      );
    }
