use Rattle.std.proofs.Common.{refl}
use Rattle.bus_fcs.specs.Folded.{by_tables}
use Rattle.bus_tap.proofs.LinesLemmas.{lines-second}
use Rattle.port1_c.specs.Clocks.{lines_told}
use Rattle.port1_c.proofs.clocks.Port1Clocks.push_second.Goals as goal

pub returns-clause-pushes : goal.returns-clause-pushes
returns-clause-pushes c =
    lines-second by_tables (lines_told c.args.self.now)
    (lines_told (record {
      first = c.args.self.now.first;
      second = c.decode.new.line;
      places = c.note.new.self;
    })) c.args.bit c.in_ok-event.event c.located_option.result c.args.self.now.second.words.place
    c.begins-opens.result c.requires.sound.first.within.place_fits
    (record {
      decodes = c.in_ok-event.ensures.decides;
      at_place = refl;
      notes = c.note.ensures.notes;
      begins = c.begins-opens.ensures;
    }) c.located_option.ensures.located refl
