use Rattle.std.proofs.Common.{◌%◌}
use Rattle.bus_sample.proofs.reader.SampleRun.put_record.Goals as goal

pub returns-in-Samples-clause-taken : goal.returns-in-Samples-clause-taken
returns-in-Samples-clause-taken g c = λ start ss taken.
    rw (c.in-Samples.is) (c.put_run.ensures.taken c.args.number c.channels-levels.ensures start ss taken)

pub returns-in-Runs-clause-taken : goal.returns-in-Runs-clause-taken
returns-in-Runs-clause-taken g c = λ start ss taken.
    rw (c.in-Runs.is)
    (c.put_run-in-Runs.ensures.taken (c.args.number % 256) c.channels-levels-in-Runs.ensures start ss taken)
