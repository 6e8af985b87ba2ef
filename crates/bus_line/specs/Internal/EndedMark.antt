-- What a bit ends, found from it and from the ones before it.
use Rattle.std.specs.Prelude.{◌≡◌, ◌≢◌, ℕ, ◌<◌, Bool, true, false}
use Rattle.bus_line.specs.declared.decoder.ended_mark.EndedMark.{EndedMark}
use Rattle.bus_line.specs.declared.decoder.ended_mark.EndedMark.TheVariants.{FlagMark, AbortMark, IdleMark, Other}

-- where `run` ones stand at the end of `count` bits
abbrev pub HasEnded : Bool → ℕ → ℕ → EndedMark → Type 0
HasEnded bit run count FlagMark = (bit ≡ false) × (run ≡ 6) × (6 < count)
HasEnded bit run count AbortMark = (bit ≡ true) × (run ≡ 6)
HasEnded bit run count IdleMark = (bit ≡ true) × (run ≡ 14)
HasEnded bit run count Other = (bit ≡ false → run ≡ 6 → 6 < count → ⊥) × (bit ≡ true → (run ≢ 6) × (run ≢ 14))
