-- The rule of rest, with many arrivals more.
use Rattle.std.proofs.Common.{◌≡◌, ℕ, zero, suc, ◌+◌, ◌-◌, ◌*◌, ◌/◌, ◌%◌, ◌^◌, ◌<◌, ◌≤◌, ◌⊎◌, ◌==◌, ◌&&◌, min, ltb, leb}
use Rattle.std.proofs.Common.{Bool, true, false, List, [], ◌∷◌, ◌++◌, length, refl, sym, ap, ◌∙◌, subst, arith, inl}
use Rattle.std.proofs.Common.{inr}
use Rattle.std.proofs.Common.{append-nil, append_assoc, length-append, if◌then◌else◌}
use Rattle.std.specs.Prelude.{slice_index}
use Rattle.std.proofs.lemmas.Bool.{cases_lt}
use Rattle.std.proofs.lemmas.Bool.Decides.{nat_tests}
use Rattle.std.proofs.lemmas.List.{nil_from_length}
use Rattle.bus_bits.specs.Bits.{bit_at}
use Rattle.bus_line.specs.Run.{ones_after}
use Rattle.bus_line.specs.declared.line.Line.TheVariants.{First, Second}
use Rattle.bus_tap.specs.Arrival.{Arrival, arrival_of, arrivals_from, own}
use Rattle.bus_tap.specs.Internal.Quiet.{IsQuietFor, Passes}
use Rattle.bus_tap.specs.Rested.{rested, silence, RestState, IsRestAfter}
use Rattle.bus_tap.proofs.ArrivalLemmas.{own-append, arrivals-first, arrivals-last, arrivals-more, arrivals-none}
use Rattle.bus_tap.proofs.ArrivalLemmas.{arrivals-between, length-arrivals}
use Rattle.bus_tap.proofs.RestLawLemmas.{rest-stays}
use Rattle.bus_tap.proofs.RestLemmas.{rested-more, comes-first, comes-second, after-first, after-second, ones-more}
use Rattle.bus_tap.proofs.RestLemmas.{ones-append, ones-none, rests-ones, silence-second, silent-first}

-- no so many arrivals bring the second line to rest
abbrev pub IsQuiet : RestState → ℕ → Type 0
IsQuiet r n = (r.most ≡ 0) ⊎ ((n < r.most) × ((r.most ≤ r.silent) ⊎ (r.silent + n < r.most)))

no-rest : (silent most ones n : ℕ) →
    (most ≡ 0) ⊎ ((suc n < most) × ((most ≤ silent) ⊎ (silent + suc n < most))) →
    (ltb silent most && ((silent + 1 == most) && ltb ones 15)) ≡ false
no-rest silent most ones n quiet = elim quiet [
  | inl none ↦ grind (arith, nat_tests)
  | inr some ↦ elim some.1 [
    | inl already ↦ grind (arith, nat_tests)
    | inr far ↦ grind (arith, nat_tests)
  ]
]

quiet-first : (r : RestState) (n : ℕ) → IsQuiet r (suc n) →
    IsQuiet (record r { silent = min r.most (r.silent + 1) }) n
quiet-first r n quiet = elim quiet [
  | inl none ↦ inl none
  | inr some ↦ elim some.1 [
    | inl already ↦ inr (omega (arith, some.0), inl (omega (arith, already)))
    | inr far ↦ inr (omega (arith, some.0), inr (omega (arith, far)))
  ]
]

quiet-second : (r : RestState) (n ones : ℕ) → IsQuiet r (suc n) → IsQuiet (record r { silent = 0; ones = ones }) n
quiet-second r n ones quiet = elim quiet [
  | inl none ↦ inl none
  | inr some ↦ inr (omega (arith, some.0), inr (omega (arith, some.0)))
]

pub quiet-many : (r : RestState) (xs ys : List Arrival) → IsRestAfter r xs → r.silent ≤ r.most →
    IsQuiet r (length ys) → rested r.most (xs ++ ys) ≡ rested r.most xs ++ ys
quiet-many r xs [] after within quiet =
    ap (rested r.most) (append-nil xs) ∙ sym (append-nil (rested r.most xs))
quiet-many r xs ((First, bit) ∷ ys) after within quiet =
    let x : Arrival = (First, bit) in
    let none = comes-first r xs bit after within ∙ no-rest r.silent r.most r.ones (length ys) quiet in
    ap (rested r.most) (sym (append_assoc xs (x ∷ []) ys))
    ∙ (quiet-many (record r { silent = min r.most (r.silent + 1) }) (xs ++ x ∷ []) ys
    (after-first r xs bit after false none)
    (omega arith) (quiet-first r (length ys) quiet)
    ∙ (ap (λ (zs : List Arrival). zs ++ ys) (rested-more r.most xs x false none)
    ∙ append_assoc (rested r.most xs) (x ∷ []) ys))
quiet-many r xs ((Second, bit) ∷ ys) after within quiet =
    let x : Arrival = (Second, bit) in
    let ones = if bit then min 15 (r.ones + 1) else 0 in
    ap (rested r.most) (sym (append_assoc xs (x ∷ []) ys))
    ∙ (quiet-many (record r { silent = 0; ones = ones }) (xs ++ x ∷ []) ys (after-second r xs bit after)
    (omega arith) (quiet-second r (length ys) ones quiet)
    ∙ (ap (λ (zs : List Arrival). zs ++ ys) (rested-more r.most xs x false (comes-second r.most (rested r.most xs) bit))
    ∙ append_assoc (rested r.most xs) (x ∷ []) ys))

-- ---- arrivals with which none can come

pub fewer-left : (most m n : ℕ) (xs : List Arrival) → n ≤ m → IsQuietFor most xs m → IsQuietFor most xs n
fewer-left most m n xs fewer quiet = λ ys few. quiet ys (omega (arith, fewer, few))

pub none-left : (most : ℕ) (xs : List Arrival) → IsQuietFor most xs 0
none-left most xs [] few = ap (rested most) (append-nil xs) ∙ sym (append-nil (rested most xs))
none-left most xs (y ∷ ys) few = absurd (omega (arith, few))

pub passes-none : (most left : ℕ) (xs : List Arrival) → IsQuietFor most xs left → Passes most xs [] left
passes-none most left xs quiet = record {
  same = none-left most xs [] (omega arith);
  quiet = subst (λ (ys : List Arrival). IsQuietFor most ys left) (sym (append-nil xs)) quiet;
}

-- some of those that can bring none
pub passes-some : (most left : ℕ) (xs ys : List Arrival) → IsQuietFor most xs left → length ys ≤ left →
    Passes most xs ys (left - length ys)
passes-some most left xs ys quiet few = record {
  same = quiet ys few;
  quiet = λ zs more.
      ap (rested most) (append_assoc xs ys zs)
      ∙ (quiet (ys ++ zs) (omega (arith, length-append ys zs, few, more))
      ∙ (sym (append_assoc (rested most xs) ys zs) ∙ ap (λ (a : List Arrival). a ++ zs) (sym (quiet ys few))));
}

pub passes-more : (most m n : ℕ) (xs ys zs : List Arrival) → Passes most xs ys m → Passes most (xs ++ ys) zs n →
    Passes most xs (ys ++ zs) n
passes-more most m n xs ys zs first next = record {
  same = ap (rested most) (sym (append_assoc xs ys zs))
      ∙ (next.same
      ∙ (ap (λ (a : List Arrival). a ++ zs) first.same ∙ append_assoc (rested most xs) ys zs));
  quiet = subst (λ (a : List Arrival). IsQuietFor most a n) (append_assoc xs ys zs) next.quiet;
}

pub passes-on : (most m n : ℕ) (bits lines : List ℕ) (from at end : ℕ) (xs : List Arrival) → from ≤ at → at ≤ end →
    Passes most xs (arrivals_from bits lines from (at - from)) m →
    Passes most (xs ++ arrivals_from bits lines from (at - from)) (arrivals_from bits lines at (end - at)) n →
    Passes most xs (arrivals_from bits lines from (end - from)) n
passes-on most m n bits lines from at end xs begun within first next =
    subst (λ (ys : List Arrival). Passes most xs ys n) (sym (arrivals-between bits lines from at end begun within))
    (passes-more most m n xs _ _ first next)

-- a bit of the second line
pub second-quiet : (most : ℕ) (xs : List Arrival) (bit : Bool) → IsQuietFor most (xs ++ (Second, bit) ∷ []) (most - 1)
second-quiet most xs bit = λ ys few.
    let zs = xs ++ (Second, bit) ∷ [] in
    let r : RestState = record {
      most = most;
      silent = 0;
      ones = min 15 (ones_after 15 (own Second (rested most zs)));
    } in
    let after : IsRestAfter r zs = record { silent = λ some. omega (arith, silence-second xs bit); ones = refl } in
    quiet-many r zs ys after (omega arith)
    (elim (cases_lt 0 most) [
      | inl some ↦ inr (omega (arith, some, few), inr (omega (arith, some, few)))
      | inr none ↦ inl (omega (arith, none))
    ])

pub passes-second : (most : ℕ) (xs : List Arrival) (bit : Bool) → Passes most xs ((Second, bit) ∷ []) (most - 1)
passes-second most xs bit = record {
  same = rested-more most xs (Second, bit) false (comes-second most (rested most xs) bit);
  quiet = second-quiet most xs bit;
}

pub passes-first : (most left : ℕ) (xs : List Arrival) (bit : Bool) → 1 ≤ left → IsQuietFor most xs left →
    Passes most xs ((First, bit) ∷ []) (left - 1)
passes-first most left xs bit some quiet = passes-some most left xs ((First, bit) ∷ []) quiet (omega (arith, some))

pub second-in : (most : ℕ) (xs ys : List Arrival) → 1 ≤ length (own Second ys) →
    IsQuietFor most (xs ++ ys) (most - length ys)
second-in most xs [] some = absurd (omega (arith, some))
second-in most xs ((First, bit) ∷ ys) some =
    let x : Arrival = (First, bit) in
    fewer-left most (most - length ys) (most - length (x ∷ ys)) (xs ++ (x ∷ ys)) (omega arith)
    (subst (λ (zs : List Arrival). IsQuietFor most zs (most - length ys)) (append_assoc xs (x ∷ []) ys)
    (second-in most (xs ++ x ∷ []) ys some))
second-in most xs ((Second, bit) ∷ ys) some =
    let x : Arrival = (Second, bit) in
    elim (cases_lt (length ys) most) [
      | inl few ↦
          subst (λ (zs : List Arrival). IsQuietFor most zs (most - length (x ∷ ys))) (append_assoc xs (x ∷ []) ys)
          (fewer-left most (most - 1 - length ys) (most - length (x ∷ ys)) ((xs ++ x ∷ []) ++ ys) (omega arith)
          (passes-some most (most - 1) (xs ++ x ∷ []) ys (second-quiet most xs bit) (omega (arith, few))).quiet)
      | inr many ↦
          fewer-left most 0 (most - length (x ∷ ys)) (xs ++ (x ∷ ys)) (omega (arith, many))
          (none-left most (xs ++ (x ∷ ys)))
    ]

-- as long as it may still be silent
pub start-quiet : (r : RestState) (xs : List Arrival) → IsRestAfter r xs → r.silent ≤ r.most → 1 ≤ r.most →
    IsQuietFor r.most xs (r.most - r.silent - 1)
start-quiet r xs after within some = λ ys few. quiet-many r xs ys after within
    (inr (
      omega (arith, few, some),
      elim (cases_lt r.silent r.most) [
        | inl less ↦ inr (omega (arith, few, less))
        | inr full ↦ inl full
      ],
    ))

-- at rest, with bits of the first line alone
pub rest-alone : (r : RestState) (xs ys : List Arrival) → IsRestAfter r xs → r.ones ≡ 15 → own Second ys ≡ [] →
    Passes r.most xs ys 0
rest-alone r xs ys after full alone = record {
  same = rest-stays r.most xs ys
      (rests-ones (own Second (rested r.most xs))
      ∙ at-rest (ones_after 15 (own Second (rested r.most xs))) (omega (arith, after.ones, full)))
      (rw alone refl);
  quiet = none-left r.most (xs ++ ys);
}
  where
    at-rest : (n : ℕ) → 15 ≤ n → leb 15 n ≡ true
    at-rest n is = grind (arith, nat_tests, is)

-- ---- what the rule keeps

-- how long the second line is silent, with bits of the first line alone
pub silent-firsts : (most silent : ℕ) (xs zs : List Arrival) →
    (1 ≤ length (own Second xs) → silent ≡ min most (silence xs)) → own Second zs ≡ [] →
    1 ≤ length (own Second (xs ++ zs)) → min most (silent + length zs) ≡ min most (silence (xs ++ zs))
silent-firsts most silent xs [] is alone some =
    let had : 1 ≤ length (own Second xs) = rw (append-nil xs) at some in
    rw (append-nil xs) (omega (arith, is had))
silent-firsts most silent xs ((First, bit) ∷ zs) is alone some =
    let ys = xs ++ (First, bit) ∷ [] in
    let whole : xs ++ ((First, bit) ∷ zs) ≡ ys ++ zs = sym (append_assoc xs ((First, bit) ∷ []) zs) in
    let next = silent-firsts most (min most (silent + 1)) ys zs (silent-first most silent xs bit is) alone
    (rw whole at some) in
    omega (arith, next, ap silence whole)
silent-firsts most silent xs ((Second, bit) ∷ zs) is alone some = absurd (cc)

-- with one of the second line behind all others
pub silent-last : (most : ℕ) (xs zs : List Arrival) (bit : Bool) →
    0 ≡ min most (silence (xs ++ (zs ++ (Second, bit) ∷ [])))
silent-last most xs zs bit =
    let whole : xs ++ (zs ++ (Second, bit) ∷ []) ≡ (xs ++ zs) ++ (Second, bit) ∷ [] =
    sym (append_assoc xs zs ((Second, bit) ∷ [])) in
    omega (arith, ap silence whole, silence-second (xs ++ zs) bit)

-- the ones at the end, with others before them
ones-few : (k : ℕ) (b : List Bool) → min 15 (ones_after (min 15 k) b) ≡ min 15 (ones_after k b)
ones-few k [] = omega arith
ones-few k (false ∷ b) = refl
ones-few k (true ∷ b) =
    let same : min 15 (suc (min 15 k)) ≡ min 15 (suc k) = omega arith in
    sym (ones-few (suc (min 15 k)) b)
    ∙ (ap (λ (n : ℕ). min 15 (ones_after n b)) same ∙ ones-few (suc k) b)

pub ones-on : (k : ℕ) (xs ys zs : List Arrival) → k ≡ min 15 (ones_after 15 (own Second xs)) → ys ≡ xs ++ zs →
    min 15 (ones_after k (own Second zs)) ≡ min 15 (ones_after 15 (own Second ys))
ones-on k xs ys zs is whole =
    ap (λ (n : ℕ). min 15 (ones_after n (own Second zs))) is
    ∙ (ones-few (ones_after 15 (own Second xs)) (own Second zs)
    ∙ ap (min 15) (sym (ones-append 15 (own Second xs) (own Second zs))
    ∙ ap (ones_after 15) (sym (own-append Second xs zs) ∙ ap (own Second) (sym whole))))

-- ---- bits of the second line among those of octets

-- where none is, from one on
pub none-more : (bits lines : List ℕ) (i n : ℕ) → bit_at lines i ≡ false →
    own Second (arrivals_from bits lines (i + 1) n) ≡ [] → own Second (arrivals_from bits lines i (suc n)) ≡ []
none-more bits lines i n none rest = ap (own Second) (arrivals-first bits lines i n) ∙ rw none rest

eight-none : (bits lines : List ℕ) (q k n : ℕ) → slice_index lines q ≡ 0 → k ≤ 8 →
    own Second (arrivals_from bits lines (8 * q + 8) n) ≡ [] →
    own Second (arrivals_from bits lines (8 * q + (8 - k)) (k + n)) ≡ []
eight-none bits lines q zero n none few rest =
    let here : 8 * q + (8 - 0) ≡ 8 * q + 8 = omega arith in
    let count : 0 + n ≡ n = omega arith in
    rw (here, count) rest
eight-none bits lines q (suc k) n none few rest =
    let i = 8 * q + (8 - suc k) in
    let octet : i / 8 ≡ q = omega (arith, few) in
    let next : i + 1 ≡ 8 * q + (8 - k) = omega (arith, few) in
    let count : suc k + n ≡ suc (k + n) = omega arith in
    let zero-bit : bit_at lines i ≡ false = rw (octet, none) (nothing (i % 8)) in
    rw count
    (none-more bits lines i (k + n) zero-bit
    (rw next (eight-none bits lines q k n none (omega (arith, few)) rest)))
  where
    nothing : (j : ℕ) → (0 / 2 ^ j % 2 == 1) ≡ false
    nothing j = grind (arith, nat_tests)

pub octet-none : (bits lines : List ℕ) (past n : ℕ) → 1 ≤ past → past % 8 ≡ 0 → slice_index lines (past / 8 - 1) ≡ 0 →
    own Second (arrivals_from bits lines past n) ≡ [] → own Second (arrivals_from bits lines (past - 8) (8 + n)) ≡ []
octet-none bits lines past n some whole none rest =
    let q = past / 8 - 1 in
    let here : past ≡ 8 * q + 8 = omega (arith, some, whole) in
    let there : past - 8 ≡ 8 * q + (8 - 8) = omega (arith, some, whole) in
    rw there (eight-none bits lines q 8 n none (omega arith) (rw (← here) rest))

-- where none was, up to one
pub none-behind : (bits lines : List ℕ) (i n : ℕ) → bit_at lines (i + n) ≡ false →
    own Second (arrivals_from bits lines i n) ≡ [] → own Second (arrivals_from bits lines i (n + 1)) ≡ []
none-behind bits lines i n none before =
    ap (own Second) (arrivals-last bits lines i n)
    ∙ (own-append Second (arrivals_from bits lines i n) (arrival_of (bit_at bits (i + n), bit_at lines (i + n)) ∷ [])
    ∙ rw (before, none) refl)

pub octet-behind : (bits lines : List ℕ) (i n : ℕ) → (i + n) % 8 ≡ 0 → slice_index lines ((i + n) / 8) ≡ 0 →
    own Second (arrivals_from bits lines i n) ≡ [] → own Second (arrivals_from bits lines i (n + 8)) ≡ []
octet-behind bits lines i n whole none before =
    let q = (i + n) / 8 in
    let past : 8 * q + 8 ≡ i + n + 8 = omega (arith, whole) in
    let there : 8 * q + (8 - 8) ≡ i + n = omega (arith, whole) in
    let behind = rw there at (eight-none bits lines q 8 0 none (omega arith)
    (ap (own Second) (arrivals-none bits lines (8 * q + 8)))) in
    ap (own Second) (arrivals-more bits lines i n 8)
    ∙ (own-append Second (arrivals_from bits lines i n) (arrivals_from bits lines (i + n) 8)
    ∙ rw (before, behind) refl)

-- an octet that is not 0 has one
none-first : (bits lines : List ℕ) (i n : ℕ) → own Second (arrivals_from bits lines i (suc n)) ≡ [] →
    (bit_at lines i ≡ false) × (own Second (arrivals_from bits lines (i + 1) n) ≡ [])
none-first bits lines i n alone =
    by (bit_at lines i) (arrivals_from bits lines (i + 1) n) (sym (ap (own Second) (arrivals-first bits lines i n))
    ∙ alone)
  where
    by : (is : Bool) (ys : List Arrival) → own Second (arrival_of (bit_at bits i, is) ∷ ys) ≡ [] →
        (is ≡ false) × (own Second ys ≡ [])
    by true ys none = absurd (cc)
    by false ys none = (refl, none)

octet-some : (bits lines : List ℕ) (at : ℕ) → at % 8 ≡ 0 → slice_index lines (at / 8) < 256 →
    own Second (arrivals_from bits lines at 8) ≡ [] → slice_index lines (at / 8) ≡ 0
octet-some bits lines at whole octet none =
    let v = slice_index lines (at / 8) in
    let a = none-first bits lines at 7 none in
    let b = none-first bits lines (at + 1) 6 a.1 in
    let c = none-first bits lines (at + 1 + 1) 5 b.1 in
    let d = none-first bits lines (at + 1 + 1 + 1) 4 c.1 in
    let e = none-first bits lines (at + 1 + 1 + 1 + 1) 3 d.1 in
    let f = none-first bits lines (at + 1 + 1 + 1 + 1 + 1) 2 e.1 in
    let g = none-first bits lines (at + 1 + 1 + 1 + 1 + 1 + 1) 1 f.1 in
    let h = none-first bits lines (at + 1 + 1 + 1 + 1 + 1 + 1 + 1) 0 g.1 in
    omega (
      arith,
      octet,
      zero-bit 0 at a.0 (omega (arith, whole)) (omega (arith, whole)),
      zero-bit 1 (at + 1) b.0 (omega (arith, whole)) (omega (arith, whole)),
      zero-bit 2 (at + 1 + 1) c.0 (omega (arith, whole)) (omega (arith, whole)),
      zero-bit 3 (at + 1 + 1 + 1) d.0 (omega (arith, whole)) (omega (arith, whole)),
      zero-bit 4 (at + 1 + 1 + 1 + 1) e.0 (omega (arith, whole)) (omega (arith, whole)),
      zero-bit 5 (at + 1 + 1 + 1 + 1 + 1) f.0 (omega (arith, whole)) (omega (arith, whole)),
      zero-bit 6 (at + 1 + 1 + 1 + 1 + 1 + 1) g.0 (omega (arith, whole)) (omega (arith, whole)),
      zero-bit 7 (at + 1 + 1 + 1 + 1 + 1 + 1 + 1) h.0 (omega (arith, whole)) (omega (arith, whole)),
    )
  where
    is-even : (n : ℕ) → (n % 2 == 1) ≡ false → n % 2 ≡ 0
    is-even n is = grind (arith, nat_tests, is)

    zero-bit : (j i : ℕ) → bit_at lines i ≡ false → i / 8 ≡ at / 8 → i % 8 ≡ j →
        slice_index lines (at / 8) / 2 ^ j % 2 ≡ 0
    zero-bit j i is place low =
        is-even (slice_index lines (at / 8) / 2 ^ j) (rw (place, low) at is)

pub passes-octet : (most left : ℕ) (bits lines : List ℕ) (xs : List Arrival) (at : ℕ) → 8 ≤ left →
    IsQuietFor most xs left → Passes most xs (arrivals_from bits lines at 8) (left - 8)
passes-octet most left bits lines xs at enough quiet =
    let count = length-arrivals bits lines at 8 in
    subst (Passes most xs (arrivals_from bits lines at 8)) (ap (λ n. left - n) count)
    (passes-some most left xs (arrivals_from bits lines at 8) quiet (omega (arith, count, enough)))

pub passes-busy : (most left : ℕ) (bits lines : List ℕ) (xs : List Arrival) (at : ℕ) → at % 8 ≡ 0 →
    slice_index lines (at / 8) < 256 → (slice_index lines (at / 8) ≡ 0 → ⊥) → 8 ≤ left →
    IsQuietFor most xs left → Passes most xs (arrivals_from bits lines at 8) (most - 8)
passes-busy most left bits lines xs at whole octet some enough quiet =
    let ys = arrivals_from bits lines at 8 in
    let count = length-arrivals bits lines at 8 in
    record {
      same = (passes-octet most left bits lines xs at enough quiet).same;
      quiet = subst (IsQuietFor most (xs ++ ys)) (ap (λ n. most - n) count)
          (second-in most xs ys (elim (cases_lt 0 (length (own Second ys))) [
            | inl has ↦ has
            | inr none ↦
                absurd (some (octet-some bits lines at whole octet
                (nil_from_length (own Second ys) (omega (arith, none)))))
          ]));
    }

-- one arrival more
module _ (k i n : ℕ) (bits lines : List ℕ) where
  abbrev before : List Arrival
  before = arrivals_from bits lines i n

  pub ones-first : bit_at lines (i + n) ≡ false →
      ones_after k (own Second (arrivals_from bits lines i (n + 1))) ≡ ones_after k (own Second before)
  ones-first is =
      ap (λ (ys : List Arrival). ones_after k (own Second ys)) (arrivals-last bits lines i n)
      ∙ rw is (ap (ones_after k) (own-append Second before ((First, bit_at bits (i + n)) ∷ [])
      ∙ append-nil (own Second before)))

  pub ones-one : bit_at lines (i + n) ≡ true → bit_at bits (i + n) ≡ true →
      ones_after k (own Second (arrivals_from bits lines i (n + 1))) ≡ suc (ones_after k (own Second before))
  ones-one is one =
      ap (λ (ys : List Arrival). ones_after k (own Second ys)) (arrivals-last bits lines i n)
      ∙ rw (is, one) (ap (ones_after k) (own-append Second before ((Second, true) ∷ []))
      ∙ ones-more k (own Second before))

  pub ones-zero : bit_at lines (i + n) ≡ true → bit_at bits (i + n) ≡ false →
      ones_after k (own Second (arrivals_from bits lines i (n + 1))) ≡ 0
  ones-zero is none =
      ap (λ (ys : List Arrival). ones_after k (own Second ys)) (arrivals-last bits lines i n)
      ∙ rw (is, none)
      (ap (ones_after k) (own-append Second before ((Second, false) ∷ [])) ∙ ones-none k (own Second before))
