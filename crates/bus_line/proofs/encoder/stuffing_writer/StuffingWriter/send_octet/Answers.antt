use Rattle.std.proofs.Common.{◌≡◌, ◌+◌, ◌++◌, [], ◌∷◌, length, take, drop, get_or, false, arith, sym, ap, ◌∙◌, subst}
use Rattle.std.proofs.lemmas.List.{length-take, take_more}
use Rattle.bus_bits.specs.Octet.{bits_of}
use Rattle.bus_bits.proofs.OctetLemmas.{length-bits}
use Rattle.bus_line.specs.Internal.StuffingWriter.{Cut}
use Rattle.bus_line.specs.Internal.Inserting.{raw_after, run_after}
use Rattle.bus_line.proofs.InsertingLemmas.{on_err, next-of, raw-few, run-append, data-sent, data-cut-before}
use Rattle.bus_line.proofs.InsertingLemmas.{data-cut-behind}
use Rattle.bus_line.proofs.encoder.stuffing_writer.StuffingWriter.send_octet.Goals as goal

pub send_data-requires-clause-room : goal.send_data-requires-clause-room
send_data-requires-clause-room g c =
    let i = c.loop-bit.bit-index in
    let bits = c.octet_bits-bits.result in
    omega (arith, c.loop-bit.invariant.sent.written, raw-few c.args.self.now.run (take i bits), length-take i bits)

pub returns-in_err-send_data-clause-cut : goal.returns-in_err-send_data-clause-cut
returns-in_err-send_data-clause-cut g c =
    let i = c.loop-bit.bit-index in
    let bits = c.octet_bits-bits.result in
    let parts : bits_of 8 c.args.octet ≡ (take i bits ++ get_or bits i false ∷ []) ++ drop (i + 1) bits =
    sym c.octet_bits-bits.ensures ∙ next-of bits i false
    (omega (arith, ap length c.octet_bits-bits.ensures, length-bits 8 c.args.octet)) in
    on_err c.from_residual.result
    (subst (λ z. Cut g.S.BitSink.sink (raw_after c.args.self.now.run z) c.args.self.now
    c.send_data.new.self c.args.sink.now c.send_data.new.sink) (sym parts)
    (data-cut-before c.args.self.now.run (take i bits ++ get_or bits i false ∷ []) (drop (i + 1) bits)
    (data-cut-behind c.args.self.now.run (take i bits) (get_or bits i false ∷ []) c.loop-bit.invariant.sent
    c.loop-bit.invariant.run c.in_err-send_data.ensures.cut)))

pub loop-bit-preserved : goal.loop-bit-preserved
loop-bit-preserved g c =
    let i = c.loop-bit.bit-index in
    let bits = c.octet_bits-bits.result in
    let next : take (i + 1) bits ≡ take i bits ++ get_or bits i false ∷ [] =
    take_more bits i false (omega (arith, ap length c.octet_bits-bits.ensures, length-bits 8 c.args.octet)) in
    rw next (record {
      sent = data-sent c.args.self.now.run (take i bits) (get_or bits i false ∷ [])
          c.loop-bit.invariant.sent c.loop-bit.invariant.run c.in_ok-send_data.ensures.sent;
      run = c.in_ok-send_data.ensures.run
          ∙ (ap (λ n. run_after n (get_or bits i false ∷ [])) c.loop-bit.invariant.run
          ∙ sym (run-append _ (take i bits) (get_or bits i false ∷ [])));
    })
