-- What went out of one call.
use Rattle.std.specs.Prelude.{◌≡◌, ℕ, ◌+◌, ◌<◌, Bool, List, length, take}
use Rattle.bus_line.specs.declared.encoder.stuffing_writer.StuffingWriter.{StuffingWriter}
use Rattle.bus_line.specs.Told.{told}
use Rattle.bus_line.specs.BitSink.{BitSinkView}

module _ {S : Type 0} (sink : BitSinkView S) where
  -- the sink took these bits, and they were counted
  pub record Sent (bits : List Bool) (old new : StuffingWriter) (before after : S) : Type 0 where
    pub took : sink.taken after ≡ told (sink.taken before) bits
    pub kept : sink.refusals after ≡ sink.refusals before
    pub written : new.written ≡ old.written + length bits

  -- the sink took the first `count` of these bits, which were counted, and refused the one after them
  pub record Cut (bits : List Bool) (old new : StuffingWriter) (before after : S) : Type 0 where
    pub count : ℕ
    pub within : count < length bits
    pub took : sink.taken after ≡ told (sink.taken before) (take count bits)
    pub failed : sink.refusals after ≡ sink.refusals before + 1
    pub written : new.written ≡ old.written + count
