use Rattle.std.proofs.Common.{arith}
use Rattle.bus_line.proofs.TracksAppendLemmas.{appended-few, appended-word}
use Rattle.bus_line.proofs.WordsLemmas.{settles-told}
use Rattle.bus_line.proofs.decoder_words.DecoderWords.append.Goals as goal

pub returns-then-held-more-lt64-clause-appends : goal.returns-then-held-more-lt64-clause-appends
returns-then-held-more-lt64-clause-appends g c =
    let w = c.args.self.now in
    let told = settles-told w.settles_at c.requires.sound.within.settles_late in
    appended-few g.C.Check.check w c.args.check.now (g.F.FrameBuffer.octets c.args.frame.now) c.args.more.count
    c.args.more.bits c.args.more.few c.args.more.small (λ soon. c.requires.early (omega (arith, told, soon)))
    c.if-held-more-lt64.true

pub returns-clause-appends : goal.returns-clause-appends
returns-clause-appends g c =
    let w = c.args.self.now in
    let octets = g.F.FrameBuffer.octets in
    let told = settles-told w.settles_at c.requires.sound.within.settles_late in
    appended-word g.C.Check.check w c.args.check.now (octets c.args.frame.now) c.args.more.count c.args.more.bits
    c.args.more.few c.args.more.small (λ soon. c.requires.early (omega (arith, told, soon)))
    c.begin.new.check c.store.new.check (octets c.begin.new.frame) (octets c.store.new.frame)
    c.if-held-more-lt64.false c.begin.ensures.keeps c.store.ensures.stores
