use Rattle.std.proofs.Common.{◌∙◌}
use Rattle.bus_line.proofs.SettledKeptLemmas.{settled-word}
use Rattle.bus_line.proofs.decoder.settled.data_in_word.Goals as goal

pub returns-clause-value : goal.returns-clause-value
returns-clause-value c =
    c.unmarked.ensures.value ∙ c.without_lowest.ensures.same ∙ c.of.ensures.same
    ∙ (settled-word c.args.word c.inserted_zeros.result c.args.count c.requires c.inserted_zeros.ensures).0

pub of-requires-clause-marked : goal.of-requires-clause-marked
of-requires-clause-marked c =
    (settled-word c.args.word c.inserted_zeros.result c.args.count c.requires c.inserted_zeros.ensures).1
