use Rattle.std.proofs.Common.{◌≡◌, None, arith, [], refl, sym, ap, subst}
use Rattle.bus_formats.specs.Capture.{CaptureOf}
use Rattle.bus_calls.specs.Internal.Watching.{FeedAfter, WatchAfter}
use Rattle.bus_calls.specs.Internal.Sessions.{SourceAfter, IsReadAs}
use Rattle.bus_calls.specs.declared.reader.Source.{Source}
use Rattle.bus_calls.specs.declared.run.CaptureRun.{CaptureRun}
use Rattle.bus_calls.proofs.ReadingLemmas.{watched-none}
use Rattle.bus_calls.proofs.reader.CaptureReader.new.Goals as goal
use Rattle.bus_calls.proofs.reader.CaptureReader.new.Goals.{then-options, else-options}

pub returns-clause-fresh : goal.returns-clause-fresh
returns-clause-fresh g c =
    λ start.
    let kind = g.T.CaptureKind.kind in
    let law = c.laws.ensures in
    let run : CaptureRun g.row.T.Denot = record { analyser = c.in_ok-analyser.analyser; reporter = c.new-2.result } in
    let made = c.in_ok-analyser.ensures in
    let none : FeedAfter kind start start run [] = record {
      rule = made.3.none;
      bits = subst (WatchAfter kind start start run) (sym (law.form.fed_none (kind.rest run.analyser)))
          (watched-none kind law start run made.2.is_after c.new-2.ensures.none (c.new-2.ensures.blank start));
    } in
    let followed = λ (d : CaptureOf g.row.T-Symbol.Denot) (e : d ≡ record { bits = []; fault = None }).
    subst (λ (x : CaptureOf g.row.T-Symbol.Denot). FeedAfter kind start start run x.bits) (sym e) none in
    elim c.if-options.branch [
      | then-options w ↦ subst (λ (s : Source g.row.T-Body.Denot). SourceAfter kind start start s run [])
          (sym w.source-is)
          (record {
            at = refl;
            clean = ap (λ (d : CaptureOf g.row.T-Symbol.Denot). d.fault) law.form.blank;
            bits = followed (kind.form.text []) law.form.blank;
          })
      | else-options w ↦ subst (λ (s : Source g.row.T-Body.Denot). SourceAfter kind start start s run [])
          (sym w.source-is)
          (record {
            read = subst (λ b. IsReadAs kind w.new.result.head.items b []) (sym w.new.ensures.1)
                (w.new.ensures.0, omega arith);
            bits = followed (kind.form.packed []) (law.form.short [] (omega arith)).0;
          })
    ]
