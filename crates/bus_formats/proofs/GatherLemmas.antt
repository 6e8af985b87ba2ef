-- Octets after others, and the symbols that are gathered from them.
use Rattle.std.proofs.Common.{◌≡◌, ℕ, ◌+◌, ◌-◌, List, [], ◌++◌, length, take, drop, Option, None, sym, ap, ◌∙◌}
use Rattle.std.proofs.Common.{arith, append_assoc, append-nil}
use Rattle.std.proofs.Math.Seq.{take-add}
use Rattle.std.proofs.lemmas.List.{take_all, length-drop}
use Rattle.bus_formats.specs.Capture.{CaptureFault}

-- some octets after those before them
pub octets-next : (xs os : List ℕ) (i n : ℕ) → (xs ++ take i os) ++ take n (take (length os - i) (drop i os))
    ≡ xs ++ take (i + n) os
octets-next xs os i n =
    append_assoc xs (take i os) _ ∙ ap (λ (ys : List ℕ). xs ++ (take i os ++ take n ys))
    (take_all (length os - i) (drop i os) (omega (arith, length-drop i os)))
    ∙ ap (λ (ys : List ℕ). xs ++ ys) (sym (take-add i n os))

module _ {A : Type 0} (bits : List ℕ → List A) (fault : List ℕ → Option CaptureFault) where
  -- no octets give no symbols
  pub none-given : (xs os : List ℕ) (all : List A) → all ≡ [] → fault xs ≡ None
      → (fault (xs ++ take 0 os) ≡ None) × (bits (xs ++ take 0 os) ≡ bits xs ++ all)
  none-given xs os all none clean = rw (none, append-nil xs) (clean, sym (append-nil (bits xs)))

  -- more octets give more of them
  pub more-given : (xs os : List ℕ) (i n : ℕ) (had more all : List A) → all ≡ had ++ more
      → (fault (xs ++ take i os) ≡ None) × (bits (xs ++ take i os) ≡ bits xs ++ had)
      → ((ys : List ℕ) → fault ys ≡ None → (fault (ys ++ take n (take (length os - i) (drop i os))) ≡ None)
      × (bits (ys ++ take n (take (length os - i) (drop i os))) ≡ bits ys ++ more))
      → (fault (xs ++ take (i + n) os) ≡ None) × (bits (xs ++ take (i + n) os) ≡ bits xs ++ all)
  more-given xs os i n had more all both before given =
      let now = given (xs ++ take i os) before.0 in
      let joined = octets-next xs os i n in
      rw (← joined, both) (now.0, now.1 ∙ rw before.1 (append_assoc (bits xs) had more))
