use Rattle.bus_clocks.proofs.analyser.decode.Goals as goal

pub returns-clause-decodes : goal.returns-clause-decodes
returns-clause-decodes g c =
    record { advances = c.in_ok-event.ensures.advances; answer = c.in_ok-event.ensures.answer }
