use Rattle.std.proofs.Common.{ℕ, ◌-◌, ◌<◌, ◌≡◌, List, ◌++◌, length, take, drop, Some, Ok, Err, refl, sym, ap, ◌∙◌}
use Rattle.std.proofs.Common.{subst, arith, length-append, append-nil}
use Rattle.std.proofs.lemmas.Result.{err_from_is_err_and}
use Rattle.std.proofs.lemmas.List.{take_all}
use Rattle.bus_formats.specs.declared.packed_head.HeadFault.{HeadFault}
use Rattle.bus_formats.specs.Capture.{CaptureOf}
use Rattle.bus_formats.specs.Packed.{head_fault_of}
use Rattle.bus_text.specs.declared.fault.ToolFault.{ToolFault}
use Rattle.bus_calls.specs.Internal.Sessions.{IsReadAs}
use Rattle.bus_calls.specs.Captures.{IsSameFault}
use Rattle.bus_line.proofs.DecidesLemmas.{is-none}
use Rattle.bus_calls.proofs.SessionsPackedLemmas.{err-mapped, ok-mapped, head-filled}
use Rattle.bus_calls.proofs.packed.PackedCapture.fill_head.Goals as goal

pub returns-then-is_some-clause-read : goal.returns-then-is_some-clause-read
returns-then-is_some-clause-read g c = λ xs read.
    let none = sym (append-nil xs) in (
      subst (IsReadAs g.T.CaptureKind.kind c.args.self.now.head.items c.args.self.now.body) none read,
      ap (λ (ys : List ℕ). (g.T.CaptureKind.kind.form.packed ys).bits) (sym none),
    )

pub returns-then-octets-missing-clause-read : goal.returns-then-octets-missing-clause-read
returns-then-octets-missing-clause-read g c = λ xs is-read.
    let kind = g.T.CaptureKind.kind in
    let os = c.args.octets.now in
    let items = c.gather.new.self.head.items in
    let law = c.laws.ensures.form in
    let none = is-none c.args.self.now.body (sym c.is_some.ensures ∙ c.if-is_some.false) in
    let read = subst (λ b. IsReadAs kind c.args.self.now.head.items b xs) none is-read in
    let short : length (xs ++ os) < 16 =
    omega (arith, c.if-octets-missing.true, c.len-missing.ensures.value, ap length read.0, length-append xs os) in
    let all : items ≡ xs ++ os = c.gather.ensures.items ∙ ap (λ (ys : List ℕ). ys ++ os) read.0 in
    let bits : (kind.form.packed (xs ++ os)).bits ≡ (kind.form.packed xs).bits =
    ap (λ (d : CaptureOf g.row.T-Symbol.Denot). d.bits)
    ((law.short (xs ++ os) short).0 ∙ sym (law.short xs read.1).0) in
    rw (take_all (length os) os (omega arith)) (
      subst (λ b. IsReadAs kind items b (xs ++ os)) (sym (c.gather.ensures.body ∙ none)) (all, short),
      bits,
    )

pub returns-in_err-map_err-clause-read : goal.returns-in_err-map_err-clause-read
returns-in_err-map_err-clause-read g c =
    let failed = err_from_is_err_and c.from_residual.result c.from_residual.ensures.1 in
    rw (failed.1, failed.2) (λ xs is-read.
    let kind = g.T.CaptureKind.kind in
    let fault = c.in_err-map_err.field-0.0 in
    let refused = err-mapped _ _ (λ (e : HeadFault) (t : ToolFault). IsSameFault t (head_fault_of e)) c.read_head.result
    (Err fault) fault refl c.in_err-map_err.ensures.cases c.read_head.ensures in
    let none = is-none c.args.self.now.body (sym c.is_some.ensures ∙ c.if-is_some.false) in
    let read = subst (λ b. IsReadAs kind c.args.self.now.head.items b xs) none is-read in
    let os = c.args.octets.now in
    let n = c.len-missing.result in
    let filled = head-filled c.args.self.now.head.items xs os c.head.result n read.0 c.len-missing.ensures.value read.1
    (omega arith) (c.head.ensures ∙ c.gather-2.ensures.items) in
    let silent = ap (λ (d : CaptureOf g.row.T-Symbol.Denot). d.bits) (c.laws.ensures.form.short xs read.1).0 in (
      head_fault_of refused.0,
      refused.1,
      ap kind.form.packed (sym filled.1) ∙ refused.2 (drop (16 - n) os)
          ∙ ap (λ (b : List g.row.T-Symbol.Denot). record { bits = b; fault = Some (head_fault_of refused.0) })
          (sym silent),
    ))

pub returns-clause-read : goal.returns-clause-read
returns-clause-read g c = λ xs is-read.
    let kind = g.T.CaptureKind.kind in
    let none = is-none c.args.self.now.body (sym c.is_some.ensures ∙ c.if-is_some.false) in
    let read = subst (λ b. IsReadAs kind c.args.self.now.head.items b xs) none is-read in
    let n = c.len-missing.result in
    let front = take (16 - n) c.args.octets.now in
    let head : c.head.result ≡ xs ++ front =
    c.head.ensures ∙ c.gather-2.ensures.items ∙ ap (λ (ys : List ℕ). ys ++ front) read.0 in
    let made = ok-mapped _ _ (λ (e : HeadFault) (t : ToolFault). IsSameFault t (head_fault_of e)) c.read_head.result
    (Ok c.in_ok-map_err.field-0) c.in_ok-map_err.field-0 refl c.in_ok-map_err.ensures.cases c.read_head.ensures in
    let silent = ap (λ (d : CaptureOf g.row.T-Symbol.Denot). d.bits) (c.laws.ensures.form.short xs read.1).0 in (
      subst (kind.is_body c.in_ok-map_err.field-0) head made.0,
      ap (λ (ys : List ℕ). (kind.form.packed ys).bits) (sym head) ∙ made.1 ∙ sym silent,
    )
