use Rattle.std.proofs.Common.{◌≤◌, sym, ◌∙◌, arith}
use Rattle.bus_sample.specs.Recording.{size_of}
use Rattle.bus_sample.proofs.RecordLemmas.{recorded-none, cut-none}
use Rattle.bus_sample.proofs.reader.SampleRun.new.Goals as goal

pub returns-clause-fresh : goal.returns-clause-fresh
returns-clause-fresh c = λ start.
    let form = c.args.options.now.form in
    let some : 1 ≤ size_of form = omega (arith, c.if-size-lt1.false, c.size.ensures) in
    record {
      taken = rw (recorded-none form some) (record { tap = c.new.ensures.after; marks = c.new-2.ensures.none start });
      part = c.new-3.ensures ∙ sym (cut-none form);
    }
