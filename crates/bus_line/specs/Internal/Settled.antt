-- Many bits at once: where they stop, and what they settle.
use Rattle.std.specs.Prelude.{◌≡◌, ◌≢◌, ℕ, zero, suc, ◌+◌, ◌-◌, ◌*◌, ◌/◌, ◌%◌, ◌^◌, ◌<◌, ◌≤◌, ◌==◌, ◌⊎◌, Bool, List, []}
use Rattle.std.specs.Prelude.{◌∷◌, ◌++◌, length, take, drop, min, if◌then◌else◌}
use Rattle.bus_bits.specs.Octet.{number}
use Rattle.bus_fcs.specs.Check.{CheckView}
use Rattle.bus_line.specs.Run.{ones_at_end}
use Rattle.bus_line.specs.Due.{current, first_of}
use Rattle.bus_line.specs.LineState.{LineState, stored_of}
use Rattle.bus_line.specs.Internal.LineView.{settles_from}
use Rattle.bus_line.specs.Internal.Tracks.{HasTaken, Holds, HoldsFor, Counts, padded, words_room}

-- none of the first `n` bits stands after exactly six ones or exactly fourteen
abbrev pub HasNoStop : List Bool → List Bool → ℕ → Type 0
HasNoStop b bits n = (i : ℕ) → i < n → (ones_at_end (b ++ take i bits) ≢ 6) × (ones_at_end (b ++ take i bits) ≢ 14)

-- sixteen bits before the new ones, and these, the oldest lowest
abbrev pub IsWord : ℕ → List Bool → List Bool → Type 0
IsWord w b bits = w ≡ number (drop (length b) (padded (b ++ bits)))

-- the word shows exactly six ones, or fourteen, before the new bit `i`
abbrev pub IsStop : ℕ → ℕ → Type 0
IsStop w i = (w / 2 ^ (9 + i) % 128 ≡ 126) ⊎ (w / 2 ^ (1 + i) % 32768 ≡ 32766)

-- of the first `k` bits after the eight lowest those that are no 0 after five ones, the oldest first
abbrev pub data_in_word : ℕ → ℕ → List Bool
data_in_word word zero = []
data_in_word word (suc k) =
    data_in_word word k ++ (if word / 2 ^ (3 + k) % 64 == 31 then [] else (word / 2 ^ (8 + k) % 2 == 1) ∷ [])

-- of the lowest `k` bits those that `marks` does not mark, the lowest first
abbrev pub kept : ℕ → ℕ → ℕ → List Bool
kept bits marks zero = []
kept bits marks (suc k) = kept bits marks k ++ (if marks / 2 ^ k % 2 == 1 then [] else (bits / 2 ^ k % 2 == 1) ∷ [])

-- more bits were taken, and not yet settled
pub record LagsBy {C : Type 0} (view : CheckView C) (d : LineState C)
    (b bits : List Bool) : Type 0 where
  pub has_taken : HasTaken d (b ++ bits)
  pub first : d.first ≡ first_of d.origin (current b)
  pub piece : HoldsFor view.folded d b (current b)
  pub counts : Counts view.cost d b

-- how many octets more of a piece of `n` data bits are stored, where `k` come after them
abbrev pub octets_more : ℕ → ℕ → ℕ → ℕ
octets_more longest n k = min ((n + k) / 8) (longest + 2) - min (n / 8) (longest + 2)

-- the lowest `k` octets of a number, the lowest first
abbrev pub low_octets : ℕ → ℕ → List ℕ
low_octets zero n = []
low_octets (suc k) n = low_octets k n ++ (n / 2 ^ (8 * k) % 256) ∷ []

-- these octets of a number were put after those that were there, and folded
pub record StoresLow {C : Type 0} (folded : C → List ℕ → Type 0) (k n : ℕ) (old : C) (held : List ℕ) (new : C)
    (all : List ℕ) : Type 0 where
  pub stored : all ≡ held ++ low_octets k n
  pub checked : (before : List ℕ) → folded old before → folded new (before ++ low_octets k n)

-- the buffer has the first of these octets, and their check
pub record HoldsOctets {C : Type 0} (folded : C → List ℕ → Type 0) (limit : ℕ) (d : LineState C) (os : List ℕ) : Type 0
  where
    pub held : d.octets ≡ take limit os
    pub checked : folded d.check (take limit os)

-- eight octets of a piece were stored and folded, if there is room for all of them
abbrev pub StoresWord : {C : Type 0} → (C → List ℕ → Type 0) → LineState C → ℕ → LineState C → Type 0
StoresWord folded old word new =
    (os : List ℕ) → length os % 8 ≡ 0 → HoldsOctets folded (words_room old.longest) old os
    → HoldsOctets folded (words_room old.longest) new (os ++ low_octets 8 word)

-- data bits were appended to the piece, and counted; before one is settled nothing changed
pub record AppendsBits {C : Type 0} (view : CheckView C) (old : LineState C) (more : List Bool)
    (new : LineState C) : Type 0 where
  pub none : old.place ≤ settles_from old.first → new ≡ old
  pub holds : (bits : List Bool) → Holds view.folded old bits → Holds view.folded new (bits ++ more)
  pub settled : new.spent.assembled ≡ old.spent.assembled + length more
  pub filled : new.spent.stored ≡ old.spent.stored + octets_more old.longest old.data_bits (length more)
  pub waits : stored_of old.longest new.data_bits
      ≡ stored_of old.longest old.data_bits + octets_more old.longest old.data_bits (length more)
  pub kept : new
      ≡ record old {
        data_bits = new.data_bits;
        partial = new.partial;
        octets = new.octets;
        check = new.check;
        spent = record old.spent { assembled = new.spent.assembled; stored = new.spent.stored };
      }
