use Rattle.std.proofs.Common.{List, [], ◌∷◌, ◌++◌, sym, ap, ◌∙◌}
use Rattle.bus_formats.specs.Capture.{CaptureOf}
use Rattle.bus_formats.specs.Packed.{packed_fault_of}
use Rattle.bus_calls.specs.Captures.{fed_by}
use Rattle.bus_calls.proofs.CapturesLemmas.{fault-in}
use Rattle.bus_calls.proofs.SessionsPackedLemmas.{faulty-stops, octets-taken}
use Rattle.bus_calls.proofs.packed.decode_octet.Goals as goal

pub returns-in-Ok-clause-taken : goal.returns-in-Ok-clause-taken
returns-in-Ok-clause-taken g c =
    λ start xs followed.
    let b = (g.T.CaptureKind.kind.form.packed xs).bits in
    let given = c.in-Ok.ensures xs followed.read in
    octets-taken c.laws.ensures _ (xs ++ c.args.octet ∷ []) c.decode_octet.new.body c.analyse_symbols.result
    c.requires.places c.analyse_symbols.ensures.same followed.bits.bits
    (given.0, given.1 ∙ ap (λ (x : List g.row.T-Symbol.Denot). b ++ x) (sym c.as_slice.ensures))
    (c.analyse_symbols.ensures.taken start _ followed.bits)

pub returns-in-Err-clause-taken : goal.returns-in-Err-clause-taken
returns-in-Err-clause-taken g c =
    λ start xs followed.
    let kind = g.T.CaptureKind.kind in
    let more = kind.form.packed (xs ++ c.args.octet ∷ []) in
    let rest = kind.rest c.args.run.now.analyser in
    let b = (kind.form.packed xs).bits in
    let is = c.in-Err.ensures xs followed.read in
    faulty-stops kind start _ c.args.run.now _ c.body_fault.result
    (fault-in kind c.laws.ensures start _ c.args.run.now (fed_by kind.form rest more) (kind.form.fed rest b)
    (packed_fault_of c.in-Err.fault) c.body_fault.result
    c.requires c.body_fault.ensures (ap (λ (d : CaptureOf g.row.T-Symbol.Denot). kind.form.fed rest d.bits) is)
    (ap (λ (d : CaptureOf g.row.T-Symbol.Denot). d.fault) is) followed.bits.bits)
