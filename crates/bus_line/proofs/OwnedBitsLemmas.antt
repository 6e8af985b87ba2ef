-- Each report owns bits of its own.
use Rattle.std.proofs.Common.{◌≡◌, ℕ, ◌+◌, ◌-◌, ◌≤◌, ◌<◌, Bool, true, false, List, ◌∷◌, length, get_or, refl, sym}
use Rattle.std.proofs.Common.{◌∙◌, ◌⊎◌, inl, inr, arith}
use Rattle.std.proofs.lemmas.List.{length-append, get_or-replicate}
use Rattle.std.proofs.lemmas.Bool.{cases_lt, both_ways}
use Rattle.bus_line.specs.Spelling.{ones, IsSpelledBy, ends, short, five}
use Rattle.bus_line.specs.Mark.{flag, StandsAt, IsFlag, IsAbort, IsIdle, IsPiece}
use Rattle.bus_line.specs.Report.{Report, Kind, Frame, due, IsClass, IsReport, closed, aborted, idle}
use Rattle.std.specs.List.{slice_range}
use Rattle.bus_bits.specs.Octet.{bits_of_octets}
use Rattle.bus_bits.proofs.OctetLemmas.{length-bits_of_octets}
use Rattle.bus_line.specs.OwnedBits.{owned_by, owned_from}
use Rattle.bus_line.proofs.MarkLemmas.{stands-bit, stands-part, fresh-bit}
use Rattle.bus_line.proofs.DueLemmas.{class-due, class-plain}
use Rattle.bus_line.proofs.SentLemmas.{frame-spelled}
use Rattle.bus_line.proofs.SpellingRawLemmas.{range-length}
use Rattle.bus_line.proofs.DueStreamLemmas.{flag-not_abort}

-- bits
pub ones-bit : (b : List Bool) (a n j : ℕ) → StandsAt b a (ones n) → length (ones n) ≡ n → a ≤ j → j < a + n →
    get_or b j false ≡ true
ones-bit b a n j stands size begun before =
    stands-bit b a (ones n) (j - a) j stands (omega (arith, size)) (omega arith)
    ∙ get_or-replicate n (j - a) true false (omega arith)

pub flag-first : (b : List Bool) (p : ℕ) → IsFlag b p → get_or b p false ≡ false
flag-first b p is-flag = stands-bit b p flag 0 p is-flag (omega arith) (omega arith)

idle-abort : (b : List Bool) (a : ℕ) → IsIdle b a → IsAbort b a
idle-abort b a is-idle = (stands-part b a (ones 15) 0 a 7 (omega arith) (omega arith) is-idle.0, is-idle.1)

-- a class takes its own bits
class-owned : (longest : ℕ) (raw : List Bool) (kind : Kind) (first : ℕ) → IsClass longest raw kind →
    owned_by kind first ≡ first
class-owned longest raw kind first is =
    class-plain longest raw kind (λ k. owned_by k first ≡ first) refl (λ cause. refl) (λ os. refl) is

pub owns-eight : (longest : ℕ) (b : List Bool) (r : Report) → IsReport longest b r → owned_from r + 8 ≤ due r + 1
owns-eight longest b _ (closed p m kind piece end is-class) =
    omega (arith, piece.some, class-due longest _ kind (p + 8) m is-class, class-owned longest _ kind (p + 8) is-class)
owns-eight longest b _ (aborted p m piece end) = omega (arith, piece.some)
owns-eight longest b _ (idle a end) = omega arith

-- a frame has at least 32 raw bits
spelled-longer : (x y : List Bool) → IsSpelledBy x y → length x ≤ length y
spelled-longer _ _ (ends k few) = omega arith
spelled-longer _ _ (short k d r few spelled) =
    omega (arith, length-append (ones k) (false ∷ d), length-append (ones k) (false ∷ r), spelled-longer d r spelled)
spelled-longer _ _ (five d r spelled) = omega (arith, spelled-longer d r spelled)

pub frame-owns : (longest : ℕ) (b : List Bool) (r : Report) (os : List ℕ) → IsReport longest b r → r.kind ≡ Frame os →
    owned_from r + 40 ≤ due r + 1
frame-owns longest b _ os (closed p m kind piece end is-class) is =
    let frame = frame-spelled longest b _ os (closed p m kind piece end is-class) is in
    omega (
      arith,
      piece.some,
      class-due longest _ kind (p + 8) m is-class,
      class-owned longest _ kind (p + 8) is-class,
      frame.2,
      length-bits_of_octets os,
      spelled-longer (bits_of_octets os) (slice_range b (p + 8) m) frame.0,
      range-length b (p + 8) m,
    )
frame-owns longest b _ os (aborted p m piece end) is = absurd (cc)
frame-owns longest b _ os (idle a end) is = absurd (cc)

-- what is due, at least
record Ends (b : List Bool) (n : ℕ) : Type 0 where
  flag_or_run : ((q : ℕ) × IsFlag b q × (q + 7 ≡ n)) ⊎
      (((q : ℕ) × IsAbort b q × (q + 6 ≡ n)) ⊎ ((q : ℕ) × IsIdle b q × (q + 14 ≡ n)))

due-ends : (longest : ℕ) (b : List Bool) (r : Report) → IsReport longest b r → Ends b (due r)
due-ends longest b _ (closed p m kind piece end is-class) =
    record { flag_or_run = inl (m, end, sym (class-due longest _ kind (p + 8) m is-class)) }
due-ends longest b _ (aborted p m piece end) = record { flag_or_run = inr (inl (m, end, refl)) }
due-ends longest b _ (idle a end) = record { flag_or_run = inr (inr (a, end, refl)) }

-- nothing ends within a piece before its mark does
piece-apart : (b : List Bool) (p m n e : ℕ) → IsPiece b p m → (IsFlag b m × (e ≡ m + 7)) ⊎ (IsAbort b m × (e ≡ m + 6)) →
    Ends b n → n < e → n < p + 8
piece-apart b p m n e piece due-at at before =
    let most : e ≤ m + 7 = elim due-at [ inl on ↦ omega (arith, on.1) | inr on ↦ omega (arith, on.1) ] in
    elim at.flag_or_run [
      | inl found ↦ elim (cases_lt p found.0) [
        | inl past ↦ omega (arith, piece.next.least found.0 past (inl found.1), found.2)
        | inr early ↦ omega (arith, found.2)
      ]
      | inr run ↦ elim run [
        | inl found ↦ elim (cases_lt p found.0) [
          | inl past ↦
              let least = piece.next.least found.0 past (inr found.1) in
              elim due-at [
                | inl closing ↦ let here : found.0 ≡ m = omega (arith, least, found.2, closing.1) in
                    absurd (flag-not_abort b m closing.0 (rw here at found.1))
                | inr abort ↦ omega (arith, least, found.2, abort.1)
              ]
          | inr early ↦ omega (arith, found.2)
        ]
        | inr found ↦ elim (cases_lt p found.0) [
          | inl past ↦ omega (arith, piece.next.least found.0 past (inr (idle-abort b found.0 found.1)), found.2)
          | inr early ↦ elim (cases_lt p (found.0 + 15)) [
            | inl in-run ↦ absurd (both_ways _ (flag-first b p piece.opening)
                (ones-bit b found.0 15 p found.1.0 refl early in-run))
            | inr after ↦ omega (arith, found.2)
          ]
        ]
      ]
    ]

-- nor within an idle's last eight bits
idle-apart : (b : List Bool) (a n : ℕ) → IsIdle b a → Ends b n → n < a + 14 → n < a + 7
idle-apart b a n is-idle at before = elim (cases_lt n (a + 7)) [
  | inl early ↦ early
  | inr late ↦ absurd (elim at.flag_or_run [
    | inl found ↦ both_ways _ (stands-bit b found.0 flag 7 n found.1 (omega arith) found.2)
        (ones-bit b a 15 n is-idle.0 refl (omega arith) (omega arith))
    | inr run ↦ elim run [
      | inl found ↦ both_ways _ (fresh-bit b found.0 (found.0 - 1) found.1.1 (omega (arith, found.2)))
          (ones-bit b a 15 (found.0 - 1) is-idle.0 refl (omega (arith, found.2)) (omega (arith, found.2)))
      | inr found ↦ both_ways _ (fresh-bit b a (a - 1) is-idle.1 (omega (arith, found.2)))
          (ones-bit b found.0 15 (a - 1) found.1.0 refl (omega (arith, found.2)) (omega (arith, found.2)))
    ]
  ])
]

pub own-apart : (longest : ℕ) (b : List Bool) (r s : Report) → IsReport longest b r → IsReport longest b s →
    due r < due s → due r < owned_from s
own-apart longest b r _ report (closed p m kind piece end is-class) later =
    let late = class-due longest _ kind (p + 8) m is-class in
    let apart = piece-apart b p m (due r) (m + 7) piece (inl (end, refl)) (due-ends longest b r report) (omega arith) in
    omega (arith, apart, class-owned longest _ kind (p + 8) is-class)
own-apart longest b r _ report (aborted p m piece end) later =
    piece-apart b p m (due r) (m + 6) piece (inr (end, refl)) (due-ends longest b r report) later
own-apart longest b r _ report (idle a end) later = idle-apart b a (due r) end (due-ends longest b r report) later

-- due places are apart by the bits that the later report has to itself
pub due-apart : (longest : ℕ) (b : List Bool) (r s : Report) → IsReport longest b r → IsReport longest b s →
    due r < due s → due r + 8 ≤ due s
due-apart longest b r s first second later =
    omega (arith, own-apart longest b r s first second later, owns-eight longest b s second)
