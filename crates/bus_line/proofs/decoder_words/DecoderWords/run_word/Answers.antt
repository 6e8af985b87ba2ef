use Rattle.bus_line.proofs.AdvancesToLemmas.{worded}
use Rattle.bus_line.proofs.decoder_words.DecoderWords.run_word.Goals as goal

pub returns-clause-reaches : goal.returns-clause-reaches
returns-clause-reaches g c =
    let run = c.up_to_stop-run in
    worded c.args.word.bits c.args.word.count run.result.count run.result.is_stop run.ensures.count.0
    run.ensures.count.1 c.requires.word.few c.requires.word.small run.ensures.before run.ensures.none
    (c.shift-due.ensures.consumes c.args.check.now (g.F.FrameBuffer.octets c.args.frame.now) _
    c.append.ensures.appends)
