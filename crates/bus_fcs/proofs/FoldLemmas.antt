-- The register after eight octets or four at once.
use Rattle.std.proofs.Common.{◌≡◌, ℕ, ◌+◌, ◌*◌, ◌<◌, List, [], ◌∷◌, ◌++◌, length, append-nil, ◌∙◌, arith}
use Rattle.std.proofs.Common.{append_assoc, bit_xor}
use Rattle.std.specs.List.{All}
use Rattle.std.specs.Int.{w32, w64, from_le_bytes}
use Rattle.std.specs.Int.Bits.{xor_zero_r}
use Rattle.std.proofs.lemmas.List.Elements.{All-head, All-tail}
use Rattle.bus_fcs.specs.Internal.Register.{crc_steps, IsStateAfter}
use Rattle.bus_fcs.proofs.RegisterLemmas.{state_more, turns_none, octet-first}

-- octets as one number, the first the lowest
unfoldable word : List ℕ → ℕ
word [] = 0
word (o ∷ os) = word os * 256 + o

word-eight : (os : List ℕ) → length os ≡ 8 → from_le_bytes w64 os ≡ word os
unfolding word
word-eight (s ∷ t ∷ u ∷ v ∷ w ∷ x ∷ y ∷ z ∷ []) eight = omega arith
word-eight (s ∷ t ∷ u ∷ v ∷ w ∷ x ∷ y ∷ z ∷ a ∷ b) eight = absurd (omega arith)
word-eight (s ∷ t ∷ u ∷ v ∷ w ∷ x ∷ y ∷ []) eight = absurd (omega arith)
word-eight (s ∷ t ∷ u ∷ v ∷ w ∷ x ∷ []) eight = absurd (omega arith)
word-eight (s ∷ t ∷ u ∷ v ∷ w ∷ []) eight = absurd (omega arith)
word-eight (s ∷ t ∷ u ∷ v ∷ []) eight = absurd (omega arith)
word-eight (s ∷ t ∷ u ∷ []) eight = absurd (omega arith)
word-eight (s ∷ t ∷ []) eight = absurd (omega arith)
word-eight (s ∷ []) eight = absurd (omega arith)
word-eight [] eight = absurd (omega arith)

word-four : (os : List ℕ) → length os ≡ 4 → from_le_bytes w32 os ≡ word os
unfolding word
word-four (s ∷ t ∷ u ∷ v ∷ []) four = omega arith
word-four (s ∷ t ∷ u ∷ v ∷ w ∷ os) four = absurd (omega arith)
word-four (s ∷ t ∷ u ∷ []) four = absurd (omega arith)
word-four (s ∷ t ∷ []) four = absurd (omega arith)
word-four (s ∷ []) four = absurd (omega arith)
word-four [] four = absurd (omega arith)

-- octets more, in one word
state-word : (os before : List ℕ) (s : ℕ) → All (λ o. o < 256) os → IsStateAfter s before
    → IsStateAfter (crc_steps (8 * length os) (bit_xor s (word os))) (before ++ os)
unfolding word
state-word [] before s small is-state =
    let same : crc_steps 0 (bit_xor s 0) ≡ s = turns_none (bit_xor s 0) ∙ xor_zero_r s in
    rw (same, append-nil before) is-state
state-word (o ∷ os) before s small is-state =
    let octet : o < 256 = All-head (λ n. n < 256) o os small in
    let first = state_more s o before octet is-state in
    let others = All-tail (λ n. n < 256) o os small in
    let rest = state-word os (before ++ o ∷ []) (crc_steps 8 (bit_xor s o)) others first in
    rw (octet-first (length os) s o (word os) octet) (rw append_assoc at rest)

pub state-eight : (s w : ℕ) (os before : List ℕ) → length os ≡ 8 → All (λ o. o < 256) os
    → w ≡ from_le_bytes w64 os → IsStateAfter s before
    → IsStateAfter (crc_steps 64 (bit_xor s w)) (before ++ os)
state-eight s w os before eight small is is-state =
    rw (is ∙ word-eight os eight) (rw eight at (state-word os before s small is-state))

pub state-four : (s w : ℕ) (os before : List ℕ) → length os ≡ 4 → All (λ o. o < 256) os → w ≡ from_le_bytes w32 os
    → IsStateAfter s before → IsStateAfter (crc_steps 32 (bit_xor s w)) (before ++ os)
state-four s w os before four small is is-state =
    rw (is ∙ word-four os four) (rw four at (state-word os before s small is-state))
