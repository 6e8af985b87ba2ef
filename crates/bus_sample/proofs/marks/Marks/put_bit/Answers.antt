use Rattle.std.proofs.Common.{◌≡◌, ◌++◌, ◌∙◌, ap, append-nil}
use Rattle.bus_tap.specs.Arrival.{Arrival}
use Rattle.bus_tap.specs.Stopped.{stop_fill, with_stops}
use Rattle.bus_tap.specs.declared.stop.StopRule.{StopRule}
use Rattle.bus_sample.specs.Internal.Runs.{HasText}
use Rattle.bus_sample.specs.declared.marks.Marks.{Marks}
use Rattle.bus_sample.proofs.MarksLemmas.{marked-next}
use Rattle.bus_sample.proofs.marks.Marks.put_bit.Goals as goal
use Rattle.bus_sample.proofs.marks.Marks.put_bit.Goals.{then-push, else-push}

pub returns-clause-put : goal.returns-clause-put
returns-clause-put c = λ start now most ts marked.
    let x : Arrival = (c.args.line, c.in-Some.bit) in
    let advances = c.push.ensures c.in-Some.bit in
    let text : HasText start now c.if-push.self (with_stops most ts ++ stop_fill c.push.result c.args.line) =
    elim c.if-push.branch [
      | then-push w ↦
          rw (w.self-is, w.if-push.true)
          (w.put_ones.ensures.put start now (with_stops most ts)
          (record { page = marked.page; column = marked.column }))
      | else-push w ↦
          rw (w.self-is, w.if-push.false, append-nil (with_stops most ts))
          (record { page = marked.page; column = marked.column })
    ] in
    let same : c.if-push.self.stops ≡ c.push.new.self = elim c.if-push.branch [
      | then-push w ↦ ap (λ (m : Marks). m.stops) w.self-is ∙ w.put_ones.ensures.stops
      | else-push w ↦ ap (λ (m : Marks). m.stops) w.self-is
    ] in
    let stops = c.put_mark.ensures.stops ∙ same in
    rw (c.in-Some.is) (marked-next start now c.args.self.now c.put_mark.new.self most ts (c.args.sample, x)
    (stop_fill c.push.result c.args.line) marked (advances.stops ts marked.stops)
    (c.put_mark.ensures.put start now _ x c.mark.ensures text) (rw stops (advances.after ts marked.stops))
    (ap (λ (r : StopRule). r.most) stops ∙ advances.most))
