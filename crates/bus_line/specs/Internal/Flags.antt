-- Flags that follow a flag.
use Rattle.std.specs.Prelude.{◌≡◌, ℕ, zero, suc, ◌+◌, ◌*◌, ◌<◌, Bool, List, [], ◌++◌}
use Rattle.bus_line.specs.declared.decoder_words.DecoderWords.{DecoderWords}
use Rattle.bus_line.specs.Mark.{flag}

-- so many flags, one right after another
abbrev pub flags : ℕ → List Bool
flags zero = []
flags (suc k) = flags k ++ flag

-- the last bit ends a flag
pub record EndsInFlag (b : List Bool) : Type 0 where
  pub front : List Bool
  pub all : b ≡ front ++ flag

-- so many flags more lead from old to new
pub record SkipsFlags (old : DecoderWords) (count : ℕ) (new : DecoderWords) : Type 0 where
  pub none : count ≡ 0 → new ≡ old
  pub some : 0 < count
      → new ≡ record old { place = old.place + 8 * count; last_bits = 32382; settles_at = old.place + 8 * count + 8 }
