use Rattle.std.proofs.Common.{◌++◌, [], sym, ap, append-nil}
use Rattle.std.proofs.lemmas.Result.{err_from_is_err_and}
use Rattle.bus_sample.specs.Recording.{recorded}
use Rattle.bus_sample.proofs.reader.SampleRun.read_buffer.Goals as goal

pub returns-in_err-read_octets-clause-read : goal.returns-in_err-read_octets-clause-read
returns-in_err-read_octets-clause-read g c =
    let raised = err_from_is_err_and c.from_residual.result c.from_residual.ensures.1 in
    rw (raised.1, raised.2) (λ start xs read. c.in_err-read_octets.ensures.read start xs read)

pub returns-in-Ok-clause-read : goal.returns-in-Ok-clause-read
returns-in-Ok-clause-read g c = λ start xs read.
    let now = c.in_ok-read_octets.ensures.read start xs read in record {
      taken = record {
        tap = now.taken.tap;
        marks = record {
          page = c.in-Ok.ensures.turned start _ now.taken.marks.page;
          column = now.taken.marks.column;
          stops = now.taken.marks.stops;
          given = now.taken.marks.given;
        };
      };
      part = now.part;
    }

pub returns-in-Err-clause-read : goal.returns-in-Err-clause-read
returns-in-Err-clause-read g c = λ start xs read.
    let now = c.in_ok-read_octets.ensures.read start xs read in
    let form = ap (λ o. o.form) c.read_octets.ensures.options in
    let samples = recorded c.args.self.now.options.form (xs ++ c.args.octets.now) in (
      samples,
      ([], sym (append-nil samples)),
      c.in-Err.ensures.turned start _ (rw form at now.taken.marks.page),
    )
