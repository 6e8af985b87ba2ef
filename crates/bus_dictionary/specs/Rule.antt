-- What an entry says of frames of its type, without names.
use Rattle.bus_dictionary.specs.Entry.{FrameType}
use Rattle.bus_dictionary.specs.declared.rules.Rule.{Rule}

abbrev pub rule_of : FrameType → Rule
rule_of e = record { size = e.size; answered = e.answered; window = e.window }
