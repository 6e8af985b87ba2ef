use Rattle.std.proofs.Common.{[], ◌∷◌, ◌++◌, length, sym, ap, ◌∙◌, subst, append-nil}
use Rattle.bus_formats.specs.Capture.{bad_mark}
use Rattle.bus_calls.specs.Captures.{fed_by}
use Rattle.bus_calls.specs.Internal.Watching.{FeedAfter}
use Rattle.bus_text.specs.declared.fault.ToolFault.TheVariants as fault
use Rattle.bus_calls.proofs.CapturesLemmas.{fault-in}
use Rattle.bus_calls.proofs.SessionsTextLemmas.{mark-taken}
use Rattle.bus_calls.proofs.text.analyse_octet.Goals as goal

pub returns-in-Ok-Some-clause-taken : goal.returns-in-Ok-Some-clause-taken
returns-in-Ok-Some-clause-taken g c =
    λ start xs at f.
    mark-taken c.laws.ensures _ (xs ++ c.args.octet ∷ []) c.analyse_symbol.result c.requires.places
    c.analyse_symbol.ensures.same f.bits.bits (rw c.in-Ok-Some.field-0-is at (c.in-Ok-Some.ensures xs f.clean))
    (c.analyse_symbol.ensures.taken start _ f.bits)

pub returns-in-Ok-None-clause-taken : goal.returns-in-Ok-None-clause-taken
returns-in-Ok-None-clause-taken g c =
    λ start xs at f.
    let kind = g.T.CaptureKind.kind in
    let given = rw c.in-Ok-None.field-0-is at (c.in-Ok-None.ensures xs f.clean) in
    record {
      clean = given.0;
      bits = subst (FeedAfter kind start (g.W.Write.contents c.args.w.now) c.args.run.now)
          (sym (given.1 ∙ append-nil (kind.form.text xs).bits)) f.bits;
    }

pub returns-in-Err-clause-taken : goal.returns-in-Err-clause-taken
returns-in-Err-clause-taken g c =
    λ start xs at f.
    let kind = g.T.CaptureKind.kind in
    let rest = kind.rest c.args.run.now.analyser in
    let given = c.in-Err.ensures xs f.clean in
    fault-in kind c.laws.ensures start _ c.args.run.now
    (fed_by kind.form rest (kind.form.text (xs ++ c.args.octet ∷ [])))
    (kind.form.fed rest (kind.form.text xs).bits)
    (bad_mark (length xs)) (fault.BadMark c.args.at)
    c.requires (sym (ap bad_mark at)) (ap (kind.form.fed rest) given.1) given.0 f.bits.bits
