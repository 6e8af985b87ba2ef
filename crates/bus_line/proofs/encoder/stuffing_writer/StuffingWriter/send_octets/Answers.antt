use Rattle.std.proofs.Common.{◌+◌, ◌++◌, take, drop, get_or, refl, arith, sym, ap, ◌∙◌, subst}
use Rattle.std.proofs.lemmas.List.{length-take}
use Rattle.bus_bits.specs.Octet.{bits_of, bits_of_octets}
use Rattle.bus_bits.proofs.OctetLemmas.{length-bits_of_octets}
use Rattle.bus_line.specs.Internal.StuffingWriter.{Cut}
use Rattle.bus_line.specs.Internal.Inserting.{raw_after, run_after}
use Rattle.bus_line.proofs.InsertingLemmas.{on_err, raw-few, run-append, data-sent, data-cut-before, data-cut-behind}
use Rattle.bus_line.proofs.InsertingLemmas.{octets-next, octets-split, sent-nil}
use Rattle.bus_line.proofs.encoder.stuffing_writer.StuffingWriter.send_octets.Goals as goal

pub loop-octet-init : goal.loop-octet-init
unfolding bits_of_octets
loop-octet-init g c =
    record { sent = sent-nil; run = refl }

pub send_octet-requires-clause-room : goal.send_octet-requires-clause-room
send_octet-requires-clause-room g c =
    let os = take c.loop-octet.octet-index c.args.octets.now in
    omega (
      arith,
      c.loop-octet.invariant.sent.written,
      raw-few c.args.self.now.run (bits_of_octets os),
      length-bits_of_octets os,
      length-take c.loop-octet.octet-index c.args.octets.now,
    )

pub returns-in_err-send_octet-clause-cut : goal.returns-in_err-send_octet-clause-cut
returns-in_err-send_octet-clause-cut g c =
    let i = c.loop-octet.octet-index in
    let os = c.args.octets.now in
    on_err c.from_residual.result
    (subst (λ z. Cut g.S.BitSink.sink (raw_after c.args.self.now.run z) c.args.self.now
    c.send_octet.new.self c.args.sink.now c.send_octet.new.sink) (sym (octets-split os i c.loop-octet-test.true))
    (data-cut-before c.args.self.now.run (bits_of_octets (take i os) ++ bits_of 8 (get_or os i 0))
    (bits_of_octets (drop (i + 1) os))
    (data-cut-behind c.args.self.now.run (bits_of_octets (take i os)) (bits_of 8 (get_or os i 0))
    c.loop-octet.invariant.sent c.loop-octet.invariant.run c.in_err-send_octet.ensures.cut)))

pub loop-octet-preserved : goal.loop-octet-preserved
loop-octet-preserved g c =
    let i = c.loop-octet.octet-index in
    let os = c.args.octets.now in
    rw (octets-next os i c.loop-octet-test.true) (record {
      sent = data-sent c.args.self.now.run (bits_of_octets (take i os)) (bits_of 8 (get_or os i 0))
          c.loop-octet.invariant.sent c.loop-octet.invariant.run c.in_ok-send_octet.ensures.sent;
      run = c.in_ok-send_octet.ensures.run
          ∙ (ap (λ n. run_after n (bits_of 8 (get_or os i 0))) c.loop-octet.invariant.run
          ∙ sym (run-append _ (bits_of_octets (take i os)) (bits_of 8 (get_or os i 0))));
    })
