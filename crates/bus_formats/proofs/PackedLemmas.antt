-- Packed captures, one octet more and any cut.
use Rattle.std.proofs.Common.{◌≡◌, ℕ, zero, suc, ◌+◌, ◌-◌, ◌*◌, ◌/◌, ◌%◌, ◌<◌, ◌≤◌, ◌==◌, inl, inr, Bool, true}
use Rattle.std.proofs.Common.{false, List, [], ◌∷◌, ◌++◌, length, take, drop, slice_range, Option, Some, None}
use Rattle.std.proofs.Common.{refl, sym, ap, ◌∙◌, subst, arith, length-append, append_assoc}
use Rattle.std.proofs.lemmas.List.{append-nil, length-take, take_all, drop_all, take_at, take-append-le, drop-append-le}
use Rattle.std.proofs.lemmas.List.{length-drop, drop_at}
use Rattle.std.proofs.Math.Seq.{take-append-add, drop-append-add}
use Rattle.std.specs.Int.{w64, from_le_bytes, next_multiple_of}
use Rattle.std.specs.List.{list_any, starts_with}
use Rattle.std.specs.Cmp.Lexicographic.{pointwise}
use Rattle.bus_bits.specs.Octet.{bits_of, bits_of_octets}
use Rattle.bus_formats.specs.Capture.{CaptureOf, Capture, CaptureFault, pad_bits, trailing, short_head, GrowsTo}
use Rattle.bus_formats.specs.Packed.{head_bits, head_fault_by, unused, wanted, packed_body, headed, capture_by, filled}
use Rattle.bus_formats.specs.Packed.{whole_by, PackedAfter}
use Rattle.bus_bits.proofs.CaseLemmas.{lt_true, le_false, same, le_or_lt}
use Rattle.bus_bits.proofs.ListLemmas.{take_past}
use Rattle.bus_formats.proofs.CaptureLemmas.{same_grows, clean_grows, grows_along}
use Rattle.bus_bits.proofs.OctetLemmas.{length-bits, length-bits_of_octets, bits_of_octets-push, bits_of_octets-append}

-- an unused bit is 1
abbrev pub pads : ℕ → List Bool → Bool
pads n d = list_any (λ b. b) (unused n d)

-- ---- the three cases of wanted bits

pub wanted-pads : (n : ℕ) (d : List Bool) → pads n d ≡ true →
    wanted n d ≡ record { bits = take (n / 8 * 8) d; fault = Some pad_bits }
unfolding wanted
wanted-pads n d ones = rw ones refl

wanted-long : (n : ℕ) (d : List Bool) → pads n d ≡ false → next_multiple_of n 8 < length d →
    wanted n d ≡ record { bits = take n d; fault = Some trailing }
unfolding wanted
wanted-long n d no-ones over = rw (no-ones, lt_true (next_multiple_of n 8) (length d) over) refl

wanted-clean : (n : ℕ) (d : List Bool) → pads n d ≡ false → length d ≤ next_multiple_of n 8 →
    wanted n d ≡ record { bits = take n d; fault = None }
unfolding wanted
wanted-clean n d no-ones within = rw (no-ones, le_false (next_multiple_of n 8) (length d) within) refl

pub wanted-bits : (n : ℕ) (d : List Bool) → pads n d ≡ false → (wanted n d).bits ≡ take n d
wanted-bits n d no-ones = elim (le_or_lt (length d) (next_multiple_of n 8)) [
  | inl within ↦ rw (wanted-clean n d no-ones within) refl
  | inr over ↦ rw (wanted-long n d no-ones over) refl
]

-- wanted bits with no fault have no unused 1, and no octet too many
wanted_is_clean : (n : ℕ) (d : List Bool) → (wanted n d).fault ≡ None →
    (pads n d ≡ false) × (length d ≤ next_multiple_of n 8)
wanted_is_clean n d clean = elim (same (pads n d)) [
  | inl ones ↦ let fault = ap (λ (c : Capture). c.fault) (wanted-pads n d ones) in absurd (cc)
  | inr no-ones ↦ elim (le_or_lt (length d) (next_multiple_of n 8)) [
    | inl within ↦ (no-ones, within)
    | inr over ↦ let fault = ap (λ (c : Capture). c.fault) (wanted-long n d no-ones over) in absurd (cc)
  ]
]

-- ---- numbers of bits

up_to : (n l : ℕ) → n ≤ l → l % 8 ≡ 0 → next_multiple_of n 8 ≤ l
up_to n l reached whole = omega arith

whole_before : (n l : ℕ) → l % 8 ≡ 0 → l < next_multiple_of n 8 → l ≤ n / 8 * 8
whole_before n l whole before = omega arith

short_before : (n l : ℕ) → l % 8 ≡ 0 → l < next_multiple_of n 8 → l < n
short_before n l whole before = omega arith

room_left : (n l left : ℕ) → l % 8 ≡ 0 → l + left ≡ n → 0 < left → 8 - left ≤ next_multiple_of n 8 - n
room_left n l left whole all some = omega arith

next_room : (n l left : ℕ) → l % 8 ≡ 0 → l + left ≡ n → 0 < left → l + 8 ≤ next_multiple_of n 8
next_room n l left whole all some = omega arith

last_before : (n l left : ℕ) → l % 8 ≡ 0 → l + left ≡ n → left < 8 → n / 8 * 8 ≡ l
last_before n l left whole all few = omega arith

-- ---- one more octet, and any number

any_take : (k : ℕ) → list_any {X = Bool} (λ b. b) (take k []) ≡ false
any_take zero = refl
any_take (suc k) = refl

-- no bit is unused before the last octet
pads_none : (n : ℕ) (d : List Bool) → length d ≤ n → pads n d ≡ false
pads_none n d short = rw (drop_all n d short) (any_take (next_multiple_of n 8 - n))

-- more octets after the last leave the unused bits as they are
unused_kept : (n : ℕ) (d e : List Bool) → next_multiple_of n 8 ≤ length d → unused n (d ++ e) ≡ unused n d
unused_kept n d e full =
    ap (take (next_multiple_of n 8 - n)) (drop-append-le n d e (omega arith))
    ∙ take-append-le (next_multiple_of n 8 - n) (drop n d) e (omega (arith, length-drop n d))

pads_kept : (n : ℕ) (d e : List Bool) → next_multiple_of n 8 ≤ length d → pads n (d ++ e) ≡ pads n d
pads_kept n d e full = ap (list_any (λ b. b)) (unused_kept n d e full)

wanted-grows : (n : ℕ) (d e : List Bool) → length d % 8 ≡ 0 → length e % 8 ≡ 0 →
    GrowsTo (wanted n d) (wanted n (d ++ e))
wanted-grows n d e whole whole-more = elim (le_or_lt (next_multiple_of n 8) (length d)) [
  | inl full ↦ let same-bits : take n (d ++ e) ≡ take n d = take-append-le n d e (omega arith) in
      let same-before : take (n / 8 * 8) (d ++ e) ≡ take (n / 8 * 8) d = take-append-le (n / 8 * 8) d e (omega arith) in
      let same-ones = pads_kept n d e full in
      elim (same (pads n d)) [
        | inl ones ↦ same_grows (wanted n d) (wanted n (d ++ e)) (
            wanted-pads n (d ++ e) (same-ones ∙ ones) ∙ rw same-before (sym (wanted-pads n d ones)))
        | inr no-ones ↦ elim (le_or_lt (length d) (next_multiple_of n 8)) [
          | inl within ↦ clean_grows (wanted n d) (wanted n (d ++ e)) []
              (ap (λ (c : Capture). c.fault) (wanted-clean n d no-ones within)) (
              wanted-bits n (d ++ e) (same-ones ∙ no-ones) ∙ same-bits
              ∙ sym (wanted-bits n d no-ones) ∙ sym (append-nil (wanted n d).bits))
          | inr over ↦ same_grows (wanted n d) (wanted n (d ++ e)) (
              wanted-long n (d ++ e) (same-ones ∙ no-ones) (omega (arith, length-append d e))
              ∙ rw same-bits (sym (wanted-long n d no-ones over)))
        ]
      ]
  | inr short ↦ let few = short_before n (length d) whole short in
      let all : wanted n d ≡ record { bits = d; fault = None } =
      wanted-clean n d (pads_none n d (omega arith)) (omega arith) ∙ rw (take_all n d (omega arith)) refl in
      let its-bits : (wanted n d).bits ≡ d = rw all refl in
      let clean : (wanted n d).fault ≡ None = rw all refl in
      let before = whole_before n (length d) whole short in
      elim (same (pads n (d ++ e))) [
        | inl ones ↦ clean_grows (wanted n d) (wanted n (d ++ e)) (take (n / 8 * 8 - length d) e) clean (
            ap (λ (x : Capture). x.bits) (wanted-pads n (d ++ e) ones) ∙ take_past (n / 8 * 8) d e before
            ∙ rw its-bits refl)
        | inr no-ones ↦ clean_grows (wanted n d) (wanted n (d ++ e)) (take (n - length d) e) clean (
            wanted-bits n (d ++ e) no-ones ∙ take_past n d e (omega arith) ∙ rw its-bits refl)
      ]
]

-- an octet after the last
wanted_end : (n : ℕ) (d e : List Bool) → length d % 8 ≡ 0 → length e ≡ 8 → (wanted n d).fault ≡ None →
    length (wanted n d).bits ≡ n
    → wanted n (d ++ e) ≡ record { bits = (wanted n d).bits; fault = Some trailing }
wanted_end n d e whole eight clean all =
    let bounds = wanted_is_clean n d clean in
    let its-bits = wanted-bits n d bounds.0 in
    let size : length (take n d) ≡ n = sym (ap length its-bits) ∙ all in
    let reached : n ≤ length d = omega (arith, length-take n d) in
    let full = up_to n (length d) reached whole in
    wanted-long n (d ++ e) (pads_kept n d e full ∙ bounds.0) (omega (arith, length-append d e))
    ∙ ap (λ (x : List Bool). record { bits = x; fault = Some trailing }) (take-append-le n d e reached ∙ sym its-bits)

-- while bits are left, those taken are all
wanted_open : (n left : ℕ) (d : List Bool) → (wanted n d).fault ≡ None → length (wanted n d).bits + left ≡ n → 0 < left
    → ((wanted n d).bits ≡ d) × (length d + left ≡ n)
wanted_open n left d clean all some =
    let bounds = wanted_is_clean n d clean in
    let its-bits = wanted-bits n d bounds.0 in
    let size : length (take n d) + left ≡ n = rw (← its-bits) all in
    let sum : length d + left ≡ n = omega (arith, length-take n d) in
    (its-bits ∙ take_all n d (omega arith), sum)

pads_next : (n left : ℕ) (d e : List Bool) → length d % 8 ≡ 0 → length e ≡ 8 → length d + left ≡ n → 0 < left
    → pads n (d ++ e) ≡ list_any (λ b. b) (drop left e)
pads_next n left d e whole eight sum some =
    let room = room_left n (length d) left whole sum some in
    let rest : drop n (d ++ e) ≡ drop left e = rw (← sum) (drop-append-add d e left) in
    ap (list_any (λ b. b)) (
    ap (take (next_multiple_of n 8 - n)) rest ∙ take_all (next_multiple_of n 8 - n) (drop left e)
    (omega (arith, length-drop left e)))

wanted_pad : (n left : ℕ) (d e : List Bool) → length d % 8 ≡ 0 → length e ≡ 8 → (wanted n d).fault ≡ None
    → length (wanted n d).bits + left ≡ n → 0 < left → list_any (λ b. b) (drop left e) ≡ true
    → wanted n (d ++ e) ≡ record { bits = (wanted n d).bits; fault = Some pad_bits }
wanted_pad n left d e whole eight clean all some ones =
    let taken = wanted_open n left d clean all some in
    let few : left < 8 = elim (le_or_lt 8 left) [
      | inl many ↦ let none-is-one : false ≡ true = rw (drop_all left e (omega arith)) at ones in absurd (cc)
      | inr less ↦ less
    ] in
    let last = last_before n (length d) left whole taken.1 few in
    wanted-pads n (d ++ e) (pads_next n left d e whole eight taken.1 some ∙ ones)
    ∙ ap (λ (x : List Bool). record { bits = x; fault = Some pad_bits })
    (take_at d e (n / 8 * 8) (sym last) ∙ sym taken.0)

wanted_more : (n left : ℕ) (d e : List Bool) → length d % 8 ≡ 0 → length e ≡ 8 → (wanted n d).fault ≡ None
    → length (wanted n d).bits + left ≡ n → 0 < left → list_any (λ b. b) (drop left e) ≡ false
    → wanted n (d ++ e) ≡ record { bits = (wanted n d).bits ++ take left e; fault = None }
wanted_more n left d e whole eight clean all some no-ones =
    let taken = wanted_open n left d clean all some in
    let front : take n (d ++ e) ≡ d ++ take left e = rw (← taken.1) (take-append-add d e left) in
    wanted-clean n (d ++ e) (pads_next n left d e whole eight taken.1 some ∙ no-ones)
    (omega (arith, length-append d e, next_room n (length d) left whole taken.1 some))
    ∙ rw (front, taken.0) refl

-- ---- a reader of the body

pub by_eights : (xs : List ℕ) → length (bits_of_octets xs) % 8 ≡ 0
by_eights xs = omega (arith, length-bits_of_octets xs)

pub packed-new : (n : ℕ) → PackedAfter n [] n
unfolding bits_of_octets
packed-new n =
    let empty = wanted-clean n [] (pads_none n [] (omega arith)) (omega arith) in
    record { clean = rw empty refl; left_over = rw (empty, take_all {A = Bool} n [] (omega arith)) (omega arith) }

pub packed-trailing : (n : ℕ) (xs : List ℕ) (o : ℕ) → PackedAfter n xs 0
    → packed_body n (xs ++ o ∷ []) ≡ record { bits = (packed_body n xs).bits; fault = Some trailing }
packed-trailing n xs o before =
    ap (wanted n) (bits_of_octets-push xs o)
    ∙ wanted_end n (bits_of_octets xs) (bits_of 8 o) (by_eights xs) (length-bits 8 o) before.clean
    (omega (arith, before.left_over))

pub packed-pad : (n : ℕ) (xs : List ℕ) (o left : ℕ) → PackedAfter n xs left → 0 < left
    → list_any (λ b. b) (drop left (bits_of 8 o)) ≡ true
    → packed_body n (xs ++ o ∷ []) ≡ record { bits = (packed_body n xs).bits; fault = Some pad_bits }
packed-pad n xs o left before some ones =
    ap (wanted n) (bits_of_octets-push xs o)
    ∙ wanted_pad n left (bits_of_octets xs) (bits_of 8 o) (by_eights xs) (length-bits 8 o) before.clean before.left_over
    some ones

pub packed-more : (n : ℕ) (xs : List ℕ) (o left : ℕ) → PackedAfter n xs left → 0 < left
    → list_any (λ b. b) (drop left (bits_of 8 o)) ≡ false
    → PackedAfter n (xs ++ o ∷ []) (left - 8)
    × ((packed_body n (xs ++ o ∷ [])).bits ≡ (packed_body n xs).bits ++ take left (bits_of 8 o))
packed-more n xs o left before some no-ones =
    let body : packed_body n (xs ++ o ∷ [])
    ≡ record { bits = (packed_body n xs).bits ++ take left (bits_of 8 o); fault = None } =
    ap (wanted n) (bits_of_octets-push xs o)
    ∙ wanted_more n left (bits_of_octets xs) (bits_of 8 o) (by_eights xs) (length-bits 8 o) before.clean
    before.left_over some no-ones in
    let its-bits : (packed_body n (xs ++ o ∷ [])).bits ≡ (packed_body n xs).bits ++ take left (bits_of 8 o) =
    rw body refl in
    let size : length (packed_body n (xs ++ o ∷ [])).bits ≡ length (packed_body n xs).bits
    + length (take left (bits_of 8 o)) =
    ap length its-bits ∙ length-append (packed_body n xs).bits (take left (bits_of 8 o)) in (
      record {
        clean = rw body refl;
        left_over = omega (arith, size, before.left_over, length-take left (bits_of 8 o), length-bits 8 o);
      },
      its-bits,
    )

-- an octet all of whose bits are wanted
pub whole-taken : (n : ℕ) (xs : List ℕ) (o left : ℕ) → PackedAfter n xs left → 8 ≤ left
    → PackedAfter n (xs ++ o ∷ []) (left - 8)
    × ((packed_body n (xs ++ o ∷ [])).bits ≡ (packed_body n xs).bits ++ bits_of 8 o)
whole-taken n xs o left before room =
    let no-ones : list_any (λ b. b) (drop left (bits_of 8 o)) ≡ false =
    ap (list_any (λ b. b)) (drop_all left (bits_of 8 o) (omega (arith, length-bits 8 o, room))) in
    let taken = packed-more n xs o left before (omega (arith, room)) no-ones in (
      taken.0,
      taken.1 ∙ rw (take_all left (bits_of 8 o) (omega (arith, length-bits 8 o, room))) refl,
    )

-- several of them
pub wholes-taken : (n : ℕ) (xs os : List ℕ) (left : ℕ) → PackedAfter n xs left → 8 * length os ≤ left
    → PackedAfter n (xs ++ os) (left - 8 * length os)
    × ((packed_body n (xs ++ os)).bits ≡ (packed_body n xs).bits ++ bits_of_octets os)
unfolding bits_of_octets
wholes-taken n xs [] left before room =
    let count : left ≡ left - 8 * 0 = omega arith in
    rw (append-nil xs) (subst (PackedAfter n xs) count before, sym (append-nil (packed_body n xs).bits))
wholes-taken n xs (o ∷ os) left before room =
    let one = whole-taken n xs o left before (omega (arith, room)) in
    let more = wholes-taken n (xs ++ o ∷ []) os (left - 8) one.0 (omega (arith, room)) in
    let joined = append_assoc xs (o ∷ []) os in
    let count : left - 8 - 8 * length os ≡ left - 8 * length (o ∷ os) = omega arith in
    rw (← joined) (
      subst (PackedAfter n ((xs ++ o ∷ []) ++ os)) count more.0,
      more.1 ∙ rw one.1 (append_assoc (packed_body n xs).bits (bits_of 8 o) (bits_of_octets os)),
    )

-- ---- any cut of what stands after a head

slice_kept : (a b : ℕ) (xs ys : List ℕ) → a ≤ b → b ≤ length xs → slice_range (xs ++ ys) a b ≡ slice_range xs a b
slice_kept a b xs ys ordered within =
    ap (take (b - a)) (drop-append-le a xs ys (omega arith))
    ∙ take-append-le (b - a) (drop a xs) ys (omega (arith, length-drop a xs))

starts_kept : (n : List ℕ) (xs ys : List ℕ) → length n ≤ length xs
    → starts_with (λ x y. x == y) (xs ++ ys) n ≡ starts_with (λ x y. x == y) xs n
starts_kept n xs ys enough = ap (pointwise (λ x y. x == y) n) (take-append-le (length n) xs ys enough)

bits_kept : (xs ys : List ℕ) → 16 ≤ length xs → head_bits (xs ++ ys) ≡ head_bits xs
bits_kept xs ys long = ap (from_le_bytes w64) (slice_kept 8 16 xs ys (omega arith) long)

fault_kept : (letters xs ys : List ℕ) → length letters ≤ 16 → 16 ≤ length xs →
    head_fault_by letters (xs ++ ys) ≡ head_fault_by letters xs
fault_kept letters xs ys few long =
    rw (starts_kept letters xs ys (omega (arith, few, long)), bits_kept xs ys long) refl

headed_grows : {A : Type 0} (f : Option CaptureFault) (c d : CaptureOf A) → GrowsTo c d →
    GrowsTo (headed f c) (headed f d)
headed_grows None c d grows = grows
headed_grows (Some f) c d grows = same_grows (headed (Some f) c) (headed (Some f) d) refl

filled_grows : {A : Type 0} (n : ℕ) (c : CaptureOf A) → GrowsTo c (filled n c)
filled_grows n c = ([], sym (append-nil c.bits), λ f is. rw is refl)

pub letters-few : (letters : List ℕ) → length letters ≡ 8 → length letters ≤ 16
letters-few letters eight = omega arith

-- a head that begins with these letters, and the body after it
module _ {A : Type 0} (letters : List ℕ) (body : ℕ → List ℕ → CaptureOf A) where
  abbrev pub behind : List ℕ → CaptureOf A
  behind xs = capture_by (head_fault_by letters xs) body xs

  pub behind-short : (xs : List ℕ) → length xs < 16
      → (behind xs ≡ record { bits = []; fault = None })
      × (whole_by (behind xs) xs ≡ record { bits = []; fault = Some short_head })
  behind-short xs short = (
    rw (lt_true (length xs) 16 short) refl,
    rw (lt_true (length xs) 16 short) refl,
  )

  behind_long : (xs : List ℕ) → 16 ≤ length xs → behind xs
      ≡ headed (head_fault_by letters xs) (body (head_bits xs) (drop 16 xs))
  behind_long xs long = rw (le_false (length xs) 16 long) refl

  whole_long : (xs : List ℕ) → 16 ≤ length xs → whole_by (behind xs) xs ≡ filled (head_bits xs) (behind xs)
  whole_long xs long = rw (le_false (length xs) 16 long) refl

  pub behind-headed : length letters ≤ 16 → (head xs : List ℕ) → length head ≡ 16
      → (behind (head ++ xs) ≡ headed (head_fault_by letters head) (body (head_bits head) xs))
      × (whole_by (behind (head ++ xs)) (head ++ xs)
      ≡ filled (head_bits head) (headed (head_fault_by letters head) (body (head_bits head) xs)))
  behind-headed few head xs sixteen =
      let long : 16 ≤ length (head ++ xs) = omega (arith, length-append head xs) in
      let is-headed : behind (head ++ xs) ≡ headed (head_fault_by letters head) (body (head_bits head) xs) =
      behind_long (head ++ xs) long
      ∙ rw (fault_kept letters head xs few (omega arith), bits_kept head xs (omega arith), drop_at head xs 16 sixteen)
      refl in (
        is-headed,
        whole_long (head ++ xs) long ∙ ap (λ (m : ℕ). filled m (behind (head ++ xs))) (bits_kept head xs (omega arith))
            ∙ ap (filled (head_bits head)) is-headed,
      )

  pub behind-grows : length letters ≤ 16 → ((n : ℕ) (xs ys : List ℕ) → GrowsTo (body n xs) (body n (xs ++ ys)))
      → (xs ys : List ℕ) → GrowsTo (behind xs) (behind (xs ++ ys))
  behind-grows few grows xs ys = elim (le_or_lt 16 (length xs)) [
    | inr short ↦ let empty = (behind-short xs short).0 in
        let no-bits : (behind xs).bits ≡ [] = rw empty refl in
        clean_grows (behind xs) (behind (xs ++ ys)) (behind (xs ++ ys)).bits (rw empty refl) (rw no-bits refl)
    | inl long ↦ let count = head_bits xs in
        let fault = head_fault_by letters xs in
        let is-headed : behind (xs ++ ys) ≡ headed fault (body count (drop 16 xs ++ ys)) =
        behind_long (xs ++ ys) (omega (arith, length-append xs ys))
        ∙ rw (fault_kept letters xs ys few long, bits_kept xs ys long, drop-append-le 16 xs ys long) refl in
        grows_along (behind xs) (headed fault (body count (drop 16 xs))) (behind (xs ++ ys))
        (headed fault (body count (drop 16 xs ++ ys))) (behind_long xs long) is-headed
        (headed_grows fault (body count (drop 16 xs)) (body count (drop 16 xs ++ ys)) (grows count (drop 16 xs) ys))
  ]

  pub behind-ends : (xs : List ℕ) → GrowsTo (behind xs) (whole_by (behind xs) xs)
  behind-ends xs = elim (le_or_lt 16 (length xs)) [
    | inr short ↦ let empty = behind-short xs short in
        clean_grows (behind xs) (whole_by (behind xs) xs) [] (ap (λ (c : CaptureOf A). c.fault) empty.0) (
        ap (λ (c : CaptureOf A). c.bits) empty.1 ∙ ap (λ (c : CaptureOf A). c.bits) (sym empty.0)
        ∙ sym (append-nil (behind xs).bits))
    | inl long ↦ grows_along (behind xs) (behind xs) (whole_by (behind xs) xs) (filled (head_bits xs) (behind xs))
        refl (whole_long xs long) (filled_grows (head_bits xs) (behind xs))
  ]

pub body-grows : (n : ℕ) (xs ys : List ℕ) → GrowsTo (packed_body n xs) (packed_body n (xs ++ ys))
body-grows n xs ys =
    grows_along (packed_body n xs) (packed_body n xs) (packed_body n (xs ++ ys))
    (wanted n (bits_of_octets xs ++ bits_of_octets ys)) refl
    (ap (wanted n) (bits_of_octets-append xs ys))
    (wanted-grows n (bits_of_octets xs) (bits_of_octets ys) (by_eights xs) (by_eights ys))
