-- Captures that grow by more octets, and their places.
use Rattle.std.proofs.Common.{◌≡◌, ℕ, ◌+◌, ◌-◌, ◌^◌, ◌<◌, ◌≤◌, inl, inr}
use Rattle.std.proofs.Common.{List, [], ◌++◌, length, take, Some, None, refl, sym, ap, ◌∙◌}
use Rattle.std.proofs.Common.{arith, append_assoc, length-append}
use Rattle.std.proofs.lemmas.List.{append-nil, take-append-le}
use Rattle.bus_bits.proofs.CaseLemmas.{lt_true, le_false, le_or_lt}
use Rattle.bus_bits.proofs.ListLemmas.{take_past}
use Rattle.bus_formats.specs.Capture.{CaptureOf, place_limit, GrowsTo, capped}

-- ---- more octets

-- nothing new
pub same_grows : {A : Type 0} (c d : CaptureOf A) → d ≡ c → GrowsTo c d
same_grows {A} c d is = ([], ap (λ (x : CaptureOf A). x.bits) is ∙ sym (append-nil c.bits), λ f clean. is)

-- more bits
pub clean_grows : {A : Type 0} (c d : CaptureOf A) (rest : List A) → c.fault ≡ None → d.bits ≡ c.bits ++ rest →
    GrowsTo c d
clean_grows c d rest clean more = (rest, more, λ f fault. absurd (cc))

pub grows_along : {A : Type 0} (c c' d d' : CaptureOf A) → c ≡ c' → d ≡ d' → GrowsTo c' d' → GrowsTo c d
grows_along c c' d d' front end grows = rw (front, end) grows

-- first to one, and then to another
pub grows-trans : {A : Type 0} (c d e : CaptureOf A) → GrowsTo c d → GrowsTo d e → GrowsTo c e
grows-trans {A} c d e first next = (
  first.0 ++ next.0,
  next.1 ∙ ap (λ (x : List A). x ++ next.0) first.1 ∙ append_assoc c.bits first.0 next.0,
  λ f clean. let kept : d ≡ c = first.2 f clean in next.2 f (ap (λ (x : CaptureOf A). x.fault) kept ∙ clean) ∙ kept,
)

-- ---- places

pub placed_cut : {A : Type 0} (origin : ℕ) (c : CaptureOf A) → 2 ^ 60 - origin < length c.bits
    → capped origin c ≡ record { bits = take (2 ^ 60 - origin) c.bits; fault = Some place_limit }
placed_cut origin c over = rw (lt_true (2 ^ 60 - origin) (length c.bits) over) refl

pub capped_all : {A : Type 0} (origin : ℕ) (c : CaptureOf A) → length c.bits ≤ 2 ^ 60 - origin → capped origin c ≡ c
capped_all origin c fit = rw (le_false (2 ^ 60 - origin) (length c.bits) fit) refl

pub capped-grows : {A : Type 0} (origin : ℕ) (c d : CaptureOf A) → GrowsTo c d →
    GrowsTo (capped origin c) (capped origin d)
capped-grows {A} origin c d grows =
    let room = 2 ^ 60 - origin in
    let size : length d.bits ≡ length c.bits + length grows.0 = ap length grows.1 ∙ length-append c.bits grows.0 in
    elim (le_or_lt (length c.bits) room) [
      | inr over ↦ let same-front : take room d.bits ≡ take room c.bits =
          ap (take room) grows.1 ∙ take-append-le room c.bits grows.0 (omega arith) in
          same_grows (capped origin c) (capped origin d) (
          placed_cut origin d (omega arith) ∙ rw same-front (sym (placed_cut origin c over)))
      | inl fit ↦ elim (le_or_lt (length d.bits) room) [
        | inl all ↦ grows_along (capped origin c) c (capped origin d) d (capped_all origin c fit)
            (capped_all origin d all) grows
        | inr cut ↦ grows_along (capped origin c) c (capped origin d)
            (record { bits = take room d.bits; fault = Some place_limit })
            (capped_all origin c fit) (placed_cut origin d cut) (
              take (room - length c.bits) grows.0,
              ap (take room) grows.1 ∙ take_past room c.bits grows.0 fit,
              λ f clean. let no-longer : length d.bits ≡ length c.bits =
                  ap (λ (x : CaptureOf A). length x.bits) (grows.2 f clean) in absurd (omega arith),
            )
      ]
    ]
