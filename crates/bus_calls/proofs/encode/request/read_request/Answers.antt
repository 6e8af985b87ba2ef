use Rattle.std.proofs.Common.{◌≡◌, Bool, List, ℕ, length, take, drop, codes, sym, ap, ◌∙◌}
use Rattle.std.proofs.lemmas.Result.{err_from_is_err_and}
use Rattle.bus_calls.specs.Encode.{is_word}
use Rattle.bus_calls.proofs.OrderLemmas.{call-none, call-flag, call-idle, call-other, call-frame}
use Rattle.bus_calls.proofs.encode.request.read_request.Goals as goal

-- what the test of a line for a text tells, of the word that the text is
word_is : (line word text : List ℕ) (result b : Bool) → text ≡ word → result ≡ is_word text line → result ≡ b
    → is_word word line ≡ b
word_is line word text result b is-word told is = rw (← is-word, ← told) is

-- and the test of the front of a line
front_is : (line word text : List ℕ) (b : Bool) → text ≡ word → is_word text (take (length text) line) ≡ b
    → is_word word (take (length word) line) ≡ b
front_is line word text b is-word told = rw (← is-word) told

-- and what stands behind that front
rest_is : (line word text rest : List ℕ) → text ≡ word → rest ≡ drop (length text) line → rest ≡ drop (length word) line
rest_is line word text rest is-word told = told ∙ ap (λ (w : List ℕ). drop (length w) line) is-word

pub returns-then-is_empty-clause-value : goal.returns-then-is_empty-clause-value
returns-then-is_empty-clause-value c =
    call-none c.args.number c.args.line.now c.requires (sym c.is_empty.ensures ∙ c.if-is_empty.true)

pub returns-then-eq-clause-value : goal.returns-then-eq-clause-value
returns-then-eq-clause-value c =
    let flag = word_is c.args.line.now (codes "flag") _ _ _ c.as_slice.ensures c.eq.ensures c.if-eq.true in
    call-flag c.args.number c.args.line.now c.requires (sym c.is_empty.ensures ∙ c.if-is_empty.false) flag

pub returns-then-eq-2-clause-value : goal.returns-then-eq-2-clause-value
returns-then-eq-2-clause-value c =
    let flag = word_is c.args.line.now (codes "flag") _ _ _ c.as_slice.ensures c.eq.ensures c.if-eq.false in
    let idle = word_is c.args.line.now (codes "idle") _ _ _ c.as_slice-2.ensures c.eq-2.ensures c.if-eq-2.true in
    call-idle c.args.number c.args.line.now c.requires (sym c.is_empty.ensures ∙ c.if-is_empty.false) flag idle

pub returns-in_default-clause-value : goal.returns-in_default-clause-value
returns-in_default-clause-value c =
    let flag = word_is c.args.line.now (codes "flag") _ _ _ c.as_slice.ensures c.eq.ensures c.if-eq.false in
    let idle = word_is c.args.line.now (codes "idle") _ _ _ c.as_slice-2.ensures c.eq-2.ensures c.if-eq-2.false in
    let frame = front_is c.args.line.now (codes "frame ") _ _ c.as_slice-3.ensures c.in_default.ensures.cases in
    call-other c.args.number c.args.line.now c.requires (sym c.is_empty.ensures ∙ c.if-is_empty.false) flag idle frame

pub returns-clause-value : goal.returns-clause-value
returns-clause-value c =
    let flag = word_is c.args.line.now (codes "flag") _ _ _ c.as_slice.ensures c.eq.ensures c.if-eq.false in
    let idle = word_is c.args.line.now (codes "idle") _ _ _ c.as_slice-2.ensures c.eq-2.ensures c.if-eq-2.false in
    let frame = front_is c.args.line.now (codes "frame ") _ _ c.as_slice-3.ensures c.in-Some.ensures.cases.0 in
    let rest = rest_is c.args.line.now (codes "frame ") _ _ c.as_slice-3.ensures c.in-Some.ensures.cases.1 in
    let read =
    call-frame c.args.number c.args.line.now c.requires (sym c.is_empty.ensures ∙ c.if-is_empty.false) flag idle
    frame in
    rw (read, ← rest) c.in_ok-frame_octets.ensures.octets

pub returns-in_err-frame_octets-clause-value : goal.returns-in_err-frame_octets-clause-value
returns-in_err-frame_octets-clause-value c =
    let raised = err_from_is_err_and c.from_residual.result c.from_residual.ensures.1 in
    let flag = word_is c.args.line.now (codes "flag") _ _ _ c.as_slice.ensures c.eq.ensures c.if-eq.false in
    let idle = word_is c.args.line.now (codes "idle") _ _ _ c.as_slice-2.ensures c.eq-2.ensures c.if-eq-2.false in
    let frame = front_is c.args.line.now (codes "frame ") _ _ c.as_slice-3.ensures c.in-Some.ensures.cases.0 in
    let rest = rest_is c.args.line.now (codes "frame ") _ _ c.as_slice-3.ensures c.in-Some.ensures.cases.1 in
    let read =
    call-frame c.args.number c.args.line.now c.requires (sym c.is_empty.ensures ∙ c.if-is_empty.false) flag idle
    frame in
    rw (raised.1, raised.2, read, ← rest) c.in_err-frame_octets.ensures.octets
