-- Packed captures, of one line or of two, after their heads.
use Rattle.std.specs.Prelude.{◌≡◌, ℕ, List, ◌++◌, length, Option, None}
use Rattle.bus_formats.specs.Capture.{CaptureFault}
use Rattle.bus_formats.specs.Packed.{head_bits}

-- these octets are a head without a fault and others after it, at which so many bits or pairs are left, as `After`
-- says it of a head's count and these others
pub record IsHeaded (fault : List ℕ → Option CaptureFault) (After : ℕ → List ℕ → ℕ → Type 0) (left : ℕ)
    (xs : List ℕ) : Type 0 where
  pub head : List ℕ
  pub body : List ℕ
  pub all : xs ≡ head ++ body
  pub long : length head ≡ 16
  pub good : fault head ≡ None
  pub after : After (head_bits head) body left
