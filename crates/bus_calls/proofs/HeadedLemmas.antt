-- Packed captures of one line or of two, after their heads.
use Rattle.std.proofs.Common.{◌≡◌, ℕ, true, false, nat_lt, if◌then◌else◌, Bool, List, [], ◌++◌, length, drop, Option}
use Rattle.std.proofs.Common.{Some, None, Result, Ok, Err, MatchResult, refl, sym, ap, ◌∙◌, append_assoc, append-nil}
use Rattle.std.proofs.Common.{subst}
use Rattle.bus_formats.specs.Capture.{CaptureOf, CaptureFault, short_head}
use Rattle.bus_formats.specs.Packed.{capture_by, filled, head_bits, headed, packed_fault_of, whole_by}
use Rattle.bus_formats.specs.declared.packed_bits.PackedFault.{PackedFault}
use Rattle.bus_calls.specs.Internal.Headed.{IsHeaded}

-- the end of the input adds no symbol
pub whole-bits : {A : Type 0} (fault : Option CaptureFault) (body : ℕ → List ℕ → CaptureOf A) (xs : List ℕ) →
    (whole_by (capture_by fault body xs) xs).bits ≡ (capture_by fault body xs).bits
whole-bits {A} fault body xs = elim (nat_lt (length xs) 16) as (λ b. (whole b).bits ≡ (part b).bits) [
  | true ↦ refl
  | false ↦ refl
]
  where
    part : Bool → CaptureOf A
    part b = if b then record { bits = []; fault = None } else headed fault (body (head_bits xs) (drop 16 xs))

    whole : Bool → CaptureOf A
    whole b = if b then record { bits = []; fault = Some short_head } else filled (head_bits xs) (part b)

module _ {A : Type 0} (capture : List ℕ → CaptureOf A) (body : ℕ → List ℕ → CaptureOf A)
    {fault : List ℕ → Option CaptureFault} {After : ℕ → List ℕ → ℕ → Type 0} {Whole : List ℕ → List ℕ → Type 0}
    (law : (head xs : List ℕ) → length head ≡ 16
    → (capture (head ++ xs) ≡ headed (fault head) (body (head_bits head) xs)) × Whole head xs) where
  -- a good head and what follows it, with some octets more
  pub headed-more : {left : ℕ} {xs : List ℕ} (ys : List ℕ) (parts : IsHeaded fault After left xs) →
      capture (xs ++ ys) ≡ body (head_bits parts.head) (parts.body ++ ys)
  headed-more ys parts =
      ap capture (ap (λ (zs : List ℕ). zs ++ ys) parts.all ∙ append_assoc parts.head parts.body ys)
      ∙ (law parts.head (parts.body ++ ys) parts.long).0
      ∙ ap (λ f. headed f (body (head_bits parts.head) (parts.body ++ ys))) parts.good

  -- and with none
  pub headed-here : {left : ℕ} {xs : List ℕ} (parts : IsHeaded fault After left xs) →
      capture xs ≡ body (head_bits parts.head) parts.body
  headed-here {left} {xs} parts = ap capture (sym (append-nil xs)) ∙ headed-more [] parts
      ∙ ap (body (head_bits parts.head)) (append-nil parts.body)

  -- it has no fault
  pub head-clean : ((n : ℕ) (xs : List ℕ) (left : ℕ) → After n xs left → (body n xs).fault ≡ None) →
      (left : ℕ) (xs : List ℕ) → IsHeaded fault After left xs → (capture xs).fault ≡ None
  head-clean clean left xs parts = ap (λ (c : CaptureOf A). c.fault) (headed-here parts)
      ∙ clean (head_bits parts.head) parts.body left parts.after

  -- a good head alone gives no symbols where no octets after it give none
  pub head-alone : (n left : ℕ) (head : List ℕ) → length head ≡ 16 → (fault head ≡ None) × (n ≡ head_bits head) →
      After n [] left → ((k : ℕ) → (body k []).bits ≡ []) → IsHeaded fault After left head × ((capture head).bits ≡ [])
  head-alone n left head long good after none =
      let parts : IsHeaded fault After left head = record {
        head = head;
        body = [];
        all = sym (append-nil head);
        long = long;
        good = good.0;
        after = subst (λ (k : ℕ). After k [] left) good.1 after;
      } in
      (parts, ap (λ (c : CaptureOf A). c.bits) (headed-here parts) ∙ none (head_bits head))

  -- more octets follow the same head
  pub head-followed : {left : ℕ} (later : ℕ) {xs : List ℕ} (ys : List ℕ) (parts : IsHeaded fault After left xs) →
      After (head_bits parts.head) (parts.body ++ ys) later → IsHeaded fault After later (xs ++ ys)
  head-followed later ys parts after = record {
    head = parts.head;
    body = parts.body ++ ys;
    all = ap (λ (zs : List ℕ). zs ++ ys) parts.all ∙ append_assoc parts.head parts.body ys;
    long = parts.long;
    good = parts.good;
    after = after;
  }

  -- more octets were taken
  pub octets-read : {left : ℕ} (later : ℕ) {xs : List ℕ} (ys : List ℕ) (bits : List A)
      → ((n : ℕ) (zs : List ℕ) → After n zs left → After n (zs ++ ys) later
      × ((body n (zs ++ ys)).bits ≡ (body n zs).bits ++ bits))
      → IsHeaded fault After left xs → IsHeaded fault After later (xs ++ ys)
      × ((capture (xs ++ ys)).bits ≡ (capture xs).bits ++ bits)
  octets-read later ys bits given parts =
      let is = given (head_bits parts.head) parts.body parts.after in (
        head-followed later ys parts is.0,
        ap (λ (c : CaptureOf A). c.bits) (headed-more ys parts) ∙ is.1
            ∙ ap (λ (b : List A). b ++ bits) (sym (ap (λ (c : CaptureOf A). c.bits) (headed-here parts))),
      )

  -- or refused
  pub octet-read : {T : Type 0} (items : T → List A) {left : ℕ} (later : ℕ) {xs : List ℕ} (ys : List ℕ)
      (r : Result T PackedFault)
      → ((n : ℕ) (zs : List ℕ) → After n zs left → MatchResult r
      (λ b. After n (zs ++ ys) later × ((body n (zs ++ ys)).bits ≡ (body n zs).bits ++ items b))
      (λ f. body n (zs ++ ys) ≡ record { bits = (body n zs).bits; fault = Some (packed_fault_of f) }))
      → IsHeaded fault After left xs → MatchResult r
      (λ b. IsHeaded fault After later (xs ++ ys) × ((capture (xs ++ ys)).bits ≡ (capture xs).bits ++ items b))
      (λ f. capture (xs ++ ys) ≡ record { bits = (capture xs).bits; fault = Some (packed_fault_of f) })
  octet-read items later ys (Ok b) given parts = octets-read later ys (items b) given parts
  octet-read items later ys (Err f) given parts =
      headed-more ys parts ∙ given (head_bits parts.head) parts.body parts.after
      ∙ ap (λ (c : CaptureOf A). record { bits = c.bits; fault = Some (packed_fault_of f) }) (sym (headed-here parts))
