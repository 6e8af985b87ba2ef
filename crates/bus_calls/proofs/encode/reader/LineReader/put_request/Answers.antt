use Rattle.bus_calls.proofs.EncodeStateLemmas.{put_encoded, put_halts}
use Rattle.bus_calls.proofs.encode.reader.LineReader.put_request.Goals as goal

pub returns-in-Ok-clause-put : goal.returns-in-Ok-clause-put
returns-in-Ok-clause-put g c = λ start calls encoded.
    put_encoded _ _ encoded (c.call_text-text.ensures.after calls encoded.after)
    (c.call_text-text.ensures.text calls encoded.after) c.as_slice.ensures.value c.len.ensures.value
    c.in-Ok.ensures.whole

pub returns-in-Err-clause-put : goal.returns-in-Err-clause-put
returns-in-Err-clause-put g c = λ start calls encoded.
    put_halts _ c.in-Err.cut.sent _ encoded (c.call_text-text.ensures.text calls encoded.after)
    c.as_slice.ensures.value c.in-Err.ensures.short c.in-Err.ensures.part
