use Rattle.std.proofs.Common.{refl}
use Rattle.bus_fcs.specs.Folded.{by_tables}
use Rattle.bus_tap.proofs.LinesLemmas.{lines-first}
use Rattle.port1_c.specs.Clocks.{lines_told}
use Rattle.port1_c.proofs.clocks.Port1Clocks.push_first.Goals as goal

pub returns-clause-pushes : goal.returns-clause-pushes
returns-clause-pushes c =
    lines-first by_tables (lines_told c.args.self.now)
    (lines_told (record {
      first = c.decode.new.line;
      second = c.args.self.now.second;
      places = c.reach.new.self;
    })) c.args.bit c.in_ok-event.event c.in_ok-event.ensures.decides refl c.reach.ensures.value
