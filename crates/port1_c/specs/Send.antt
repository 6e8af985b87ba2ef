-- What a C caller's memory says of a sender.
use Rattle.std.specs.Prelude.{◌≡◌, ◌≢◌, ◌↔◌, ◌⊎◌, ◌<◌, ◌≤◌, ◌+◌, ◌*◌, ◌^◌, ◌++◌, ℕ, Bool, All, List, [], ◌∷◌, None}
use Rattle.std.specs.Prelude.{length, replicate, if◌then◌else◌}
use Rattle.std.specs.List.{last_or}
use Rattle.bus_line.specs.Due.{reports}
use Rattle.bus_line.specs.Line.{Call, Idle, ends_with_flag, line_of_calls, line_behind}
use Rattle.bus_line.specs.Sent.{CanBeRead, idle_at, is_idle_call, sent}
use Rattle.port1_c.specs.Bits.{PutsBits}
use Rattle.port1_c.specs.declared.sender.Port1Sender.{Port1Sender}
use Rattle.port1_c.specs.declared.status.TheConstants.{OK, BAD_STATE, BAD_ARGUMENT, NO_ROOM}

-- a sender may stand after these calls
abbrev pub SenderAfter : Port1Sender → List Call → Type 0
SenderAfter s calls = s.behind_flag ≡ (if ends_with_flag (last_or None calls) then 1 else 0)

-- so many idles, one after another
abbrev pub idles : ℕ → List Call
idles n = replicate n Idle

-- what the line gains by these calls
abbrev pub gained : List Call → List Call → List Bool
gained calls more = line_behind (last_or None calls) more

-- what a call that sends is given, or leaves: the sender, the octets, the next bit of these, and a number of bits
pub record Sending : Type 0 where
  pub sender : Port1Sender
  pub octets : List ℕ
  pub at : ℕ
  pub bits : ℕ

-- what a call that is to send these returned, and what it did: from bit `at` on, what the line gains came into the
-- octets, and nothing else
pub record Sends (more : List Call) (status : ℕ) (old new : Sending) : Type 0 where
  pub argument : status ≡ BAD_ARGUMENT ↔ 8 * length old.octets < old.at
  pub state : status ≡ BAD_STATE ↔ (old.at ≤ 8 * length old.octets) × (1 < old.sender.behind_flag)
  pub room : (status ≡ OK) ⊎ (status ≡ NO_ROOM)
      → (status ≡ NO_ROOM ↔ (8 * length old.octets < old.at + new.bits) ⊎ (2 ^ 64 ≤ old.at + new.bits))
  pub kept : status ≢ OK → (new.sender ≡ old.sender) × (new.octets ≡ old.octets) × (new.at ≡ old.at)
  pub untold : status ≢ OK → status ≢ NO_ROOM → new.bits ≡ old.bits
  pub told : (status ≡ OK) ⊎ (status ≡ NO_ROOM)
      → (calls : List Call) → SenderAfter old.sender calls → new.bits ≡ length (gained calls more)
  pub moved : status ≡ OK → new.at ≡ old.at + new.bits
  pub gains : status ≡ OK
      → (calls : List Call) → SenderAfter old.sender calls → PutsBits old.octets old.at (gained calls more) new.octets
  pub follows : status ≡ OK
      → (calls : List Call) → SenderAfter old.sender calls → SenderAfter new.sender (calls ++ more)

-- idles after calls are read back as one idle, and after an idle as none
abbrev pub IdlesAreReadBack : Type 0
IdlesAreReadBack =
    (longest : ℕ) (calls : List Call) (n : ℕ) → All (CanBeRead longest) calls → 0 < n
    → reports longest (line_of_calls (calls ++ idles n))
    ≡ sent calls ++ (if is_idle_call (last_or None calls) then [] else idle_at (length (line_of_calls calls)) ∷ [])
