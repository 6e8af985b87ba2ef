-- What a sender puts into the octets.
use Rattle.std.proofs.Common.{◌≡◌, ◌≢◌, ℕ, zero, suc, ◌+◌, ◌-◌, ◌*◌, ◌≤◌, ◌<◌, replicate, Bool, true, false, List, []}
use Rattle.std.proofs.Common.{◌∷◌, ◌++◌, length, drop, Option, None, Some, refl, sym, ap, subst, ◌∙◌, arith}
use Rattle.std.proofs.Common.{◌^◌, ◌⊎◌, ◌↔◌, inl, inr, length-append, append-nil}
use Rattle.std.specs.Bool.{if◌then◌else◌}
use Rattle.std.specs.List.{last_or}
use Rattle.std.proofs.Math.Seq.{drop-append_seam}
use Rattle.bus_line.specs.Line.{Call, Flag, Idle, Frame, ends_with_flag, gain, line_behind, raw_bits}
use Rattle.bus_line.specs.Mark.{flag}
use Rattle.bus_bits.specs.Bits.{bits_from}
use Rattle.port1_c.specs.Bits.{PutsBits}
use Rattle.port1_c.specs.Send.{SenderAfter, Sending, Sends, gained, idles}
use Rattle.port1_c.specs.declared.sender.Port1Sender.{Port1Sender}
use Rattle.port1_c.specs.declared.status.TheConstants.{OK, NO_ROOM}
use Rattle.bus_bits.proofs.BitLemmas.{bits-more, length-from}

last-push : (o : Option Call) (calls : List Call) (call : Call) → last_or o (calls ++ call ∷ []) ≡ Some call
last-push o [] call = refl
last-push o (c ∷ calls) call = last-push (Some c) calls call

-- a sender says of the last call whether it ends with a flag
pub follows-on : (s : Port1Sender) (calls : List Call) (call : Call) →
    s.behind_flag ≡ (if ends_with_flag (Some call) then 1 else 0) → SenderAfter s (calls ++ call ∷ [])
follows-on s calls call e =
    e ∙ ap (λ (o : Option Call). if ends_with_flag o then 1 else 0) (sym (last-push None calls call))

-- what the line gains by calls came into the octets
abbrev pub Gains : Port1Sender → List ℕ → ℕ → List Call → List ℕ → Type 0
Gains sender old at more new = (calls : List Call) → SenderAfter sender calls → PutsBits old at (gained calls more) new

pub flag-gains : (s : Port1Sender) (old new : List ℕ) (at : ℕ) → PutsBits old at (bits_from (126 ∷ 0 ∷ []) 0 8) new →
    Gains s old at (Flag ∷ []) new
unfolding bits_from
flag-gains s old new at p calls f = p

pub idle-gains : (s : Port1Sender) (old new : List ℕ) (at : ℕ) →
    PutsBits old at (bits_from (255 ∷ 127 ∷ 0 ∷ []) 0 15) new → Gains s old at (Idle ∷ []) new
unfolding bits_from
idle-gains s old new at p calls f = p

module _ (o octets : List ℕ) (count : ℕ) (framed : bits_from octets 0 count ≡ flag ++ (raw_bits o ++ flag)) where
  pub has-flag : 8 ≤ count
  has-flag =
      let l : length (bits_from octets 0 count) ≡ length flag + length (raw_bits o ++ flag) =
      ap length framed ∙ length-append flag (raw_bits o ++ flag) in
      omega (arith, l, length-from octets 0 count)

  behind : bits_from octets 8 (count - 8) ≡ raw_bits o ++ flag
  behind =
      let n : count ≡ 8 + (count - 8) = omega (arith, has-flag) in
      let k : 8 ≡ length (bits_from octets 0 8) = sym (length-from octets 0 8) in
      sym (drop-append_seam (bits_from octets 0 8) (bits_from octets 8 (count - 8)))
      ∙ ap (λ (m : ℕ). drop m (bits_from octets 0 8 ++ bits_from octets 8 (count - 8))) (sym k)
      ∙ ap (drop 8) (sym (bits-more octets 0 8 (count - 8)) ∙ ap (bits_from octets 0) (sym n) ∙ framed)

  -- the bits of a frame, with the flag that opens it where no flag opens it yet
  with-opening : (b : Bool) (first : ℕ) → first ≡ (if b then 8 else 0) →
      bits_from octets first (count - first) ≡ (if b then [] else flag) ++ (raw_bits o ++ flag)
  with-opening true first e = ap (λ (k : ℕ). bits_from octets k (count - k)) e ∙ behind
  with-opening false first e = let n : count - first ≡ count =
      omega (arith, e) in ap (bits_from octets first) n ∙ ap (λ (k : ℕ). bits_from octets k count) e ∙ framed

  first-is : (b : Bool) (state first : ℕ) → state ≡ (if b then 1 else 0) → (state ≡ 1 → first ≡ 8) →
      (state ≢ 1 → first ≡ 0) → first ≡ (if b then 8 else 0)
  first-is true state first e one other = one e
  first-is false state first e one other = other (λ f. omega (arith, e, f))

  pub frame-bits : (s : Port1Sender) (calls : List Call) (first : ℕ) → SenderAfter s calls →
      (s.behind_flag ≡ 1 → first ≡ 8) → (s.behind_flag ≢ 1 → first ≡ 0)
      → bits_from octets first (count - first) ≡ gained calls (Frame o ∷ [])
  frame-bits s calls first f one other =
      let b = ends_with_flag (last_or None calls) in
      with-opening b first (first-is b s.behind_flag first f one other) ∙ sym (append-nil (gain calls (Frame o)))

  pub frame-count : (s : Port1Sender) (calls : List Call) (first : ℕ) → SenderAfter s calls →
      (s.behind_flag ≡ 1 → first ≡ 8) → (s.behind_flag ≢ 1 → first ≡ 0)
      → count - first ≡ length (gained calls (Frame o ∷ []))
  frame-count s calls first f one other = sym (length-from octets first (count - first))
      ∙ ap length (frame-bits s calls first f one other)

  pub frame-gains : (s : Port1Sender) (old new : List ℕ) (at first : ℕ) → (s.behind_flag ≡ 1 → first ≡ 8) →
      (s.behind_flag ≢ 1 → first ≡ 0)
      → PutsBits old at (bits_from octets first (count - first)) new → Gains s old at (Frame o ∷ []) new
  frame-gains s old new at first one other p calls f =
      subst (λ (bits : List Bool). PutsBits old at bits new) (frame-bits s calls first f one other) p

-- octets of ones have the bits of idles
ones-are-idles : (k : ℕ) → k < 8 → (before : Option Call) →
    bits_from (replicate 15 255) 0 (15 * k) ≡ line_behind before (idles k)
unfolding bits_from
ones-are-idles zero l before = refl
ones-are-idles (suc zero) l before = refl
ones-are-idles (suc (suc zero)) l before = refl
ones-are-idles (suc (suc (suc zero))) l before = refl
ones-are-idles (suc (suc (suc (suc zero)))) l before = refl
ones-are-idles (suc (suc (suc (suc (suc zero))))) l before = refl
ones-are-idles (suc (suc (suc (suc (suc (suc zero)))))) l before = refl
ones-are-idles (suc (suc (suc (suc (suc (suc (suc zero))))))) l before = refl
ones-are-idles (suc (suc (suc (suc (suc (suc (suc (suc k)))))))) l before = absurd (omega (arith, l))

pub idles-gain : (s : Port1Sender) (old new : List ℕ) (at k n : ℕ) → k < 8 → n ≡ 15 * k →
    PutsBits old at (bits_from (replicate 15 255) 0 n) new → Gains s old at (idles k) new
idles-gain s old new at k n l e p calls f =
    subst (λ (bits : List Bool). PutsBits old at bits new)
    (ap (bits_from (replicate 15 255) 0) e ∙ ones-are-idles k l (last_or None calls)) p

pub idles-count : (s : Port1Sender) (k n : ℕ) → k < 8 → n ≡ 15 * k
    → (calls : List Call) → SenderAfter s calls → n ≡ length (gained calls (idles k))
idles-count s k n few same calls follows =
    same ∙ (sym (length-from (replicate 15 255) 0 (15 * k)) ∙ ap length (ones-are-idles k few (last_or None calls)))

last-row : (n : ℕ) → last_or (Some Idle) (idles n) ≡ Some Idle
last-row zero = refl
last-row (suc n) = last-row n

last-idles : (o : Option Call) (calls : List Call) (n : ℕ) → last_or o (calls ++ idles (suc n)) ≡ Some Idle
last-idles o [] n = last-row n
last-idles o (c ∷ calls) n = last-idles (Some c) calls n

-- after idles no flag may open a frame
pub follows-idles : (s : Port1Sender) (calls : List Call) (k : ℕ) → 0 < k → s.behind_flag ≡ 0 →
    SenderAfter s (calls ++ idles k)
follows-idles s calls zero l e = absurd (omega (arith, l))
follows-idles s calls (suc n) l e =
    e ∙ ap (λ (o : Option Call). if ends_with_flag o then 1 else 0) (sym (last-idles None calls n))

pub follows-no-idles : (s : Port1Sender) (calls : List Call) (k : ℕ) → k ≡ 0 → SenderAfter s calls
    → SenderAfter s (calls ++ idles k)
follows-no-idles s calls k none follows =
    subst (λ (n : ℕ). SenderAfter s (calls ++ idles n)) (sym none)
    (subst (SenderAfter s) (sym (append-nil calls)) follows)

-- ---- a call that was not refused before it sent

module _ (more : List Call) (status : ℕ) (old new : Sending) (inside : old.at ≤ 8 * length old.octets)
    (good : old.sender.behind_flag ≤ 1)
    (room : status ≡ NO_ROOM ↔ (8 * length old.octets < old.at + new.bits) ⊎ (2 ^ 64 ≤ old.at + new.bits))
    (told : (calls : List Call) → SenderAfter old.sender calls → new.bits ≡ length (gained calls more)) where
  pub sends-all : status ≡ OK → new.at ≡ old.at + new.bits → Gains old.sender old.octets old.at more new.octets
      → ((calls : List Call) → SenderAfter old.sender calls → SenderAfter new.sender (calls ++ more))
      → Sends more status old new
  sends-all done moved gains follows = record {
    argument = (λ is. absurd (omega (arith, is, done)), λ past. absurd (omega (arith, inside, past)));
    state = (λ is. absurd (omega (arith, is, done)), λ bad. absurd (omega (arith, good, bad.1)));
    room = λ _. room;
    kept = λ not-done. absurd (not-done done);
    untold = λ not-done. absurd (not-done done);
    told = λ _. told;
    moved = λ _. moved;
    gains = λ _. gains;
    follows = λ _. follows;
  }

  pub sends-none : (status ≡ OK) ⊎ (status ≡ NO_ROOM) → status ≢ OK → new.sender ≡ old.sender
      → (new.octets ≡ old.octets) × (new.at ≡ old.at) → Sends more status old new
  sends-none either not-done same-sender kept =
      let full : status ≡ NO_ROOM = elim either [ inl done ↦ absurd (not-done done) | inr full ↦ full ] in
      record {
        argument = (λ is. absurd (omega (arith, is, full)), λ past. absurd (omega (arith, inside, past)));
        state = (λ is. absurd (omega (arith, is, full)), λ bad. absurd (omega (arith, good, bad.1)));
        room = λ _. room;
        kept = λ _. (same-sender, kept.0, kept.1);
        untold = λ _ some-room. absurd (some-room full);
        told = λ _. told;
        moved = λ done. absurd (not-done done);
        gains = λ done. absurd (not-done done);
        follows = λ done. absurd (not-done done);
      }
