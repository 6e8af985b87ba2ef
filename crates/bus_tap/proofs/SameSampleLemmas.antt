-- Of equal samples in a row, those after the first `hold + 1` bring nothing.
use Rattle.std.proofs.Common.{◌≡◌, ℕ, zero, suc, ◌+◌, ◌-◌, ◌<◌, ◌≤◌, ◌&&◌, not, Bool, true, false, if◌then◌else◌, List}
use Rattle.std.proofs.Common.{[], ◌∷◌, ◌++◌, length, replicate, refl, sym, ap, ◌∙◌, arith, append-nil, inl, inr}
use Rattle.std.proofs.Common.{length-append}
use Rattle.std.specs.List.{flat_map}
use Rattle.std.specs.Prelude.{slice_index}
use Rattle.std.proofs.lemmas.List.{get_or_append_left, get_or-append_right, get_or-replicate, length-replicate}
use Rattle.std.proofs.lemmas.Bool.{cases_lt}
use Rattle.std.proofs.Math.Seq.{get_or-append_seam}
use Rattle.bus_line.specs.Due.{places}
use Rattle.bus_line.specs.declared.line.Line.{Line}
use Rattle.bus_line.specs.declared.line.Line.TheVariants.{First, Second}
use Rattle.bus_tap.specs.Arrival.{Arrival}
use Rattle.bus_tap.specs.Sampled.{Channel, clock_of, data_of, level, stood, counted_level, rises, edge, sampled}
use Rattle.bus_tap.proofs.EachLemmas.{places-more}
use Rattle.bus_tap.proofs.SampledLemmas.{counted-front, edge-front, stood-all}

-- a bit arrives by what counts there and before
edge-same : (hold : ℕ) (line : Line) (xs ys : List ℕ) (i j : ℕ) →
    counted_level hold (clock_of line) xs i ≡ counted_level hold (clock_of line) ys j →
    counted_level hold (clock_of line) xs (i - 1) ≡ counted_level hold (clock_of line) ys (j - 1) →
    counted_level hold (data_of line) xs (i - 1) ≡ counted_level hold (data_of line) ys (j - 1) →
    edge hold xs line i ≡ edge hold ys line j
edge-same hold line xs ys i j now before bit =
    ap (λ c. if not (counted_level hold (clock_of line) xs (i - 1)) && c
    then (line, counted_level hold (data_of line) xs (i - 1)) ∷ [] else []) now
    ∙ (ap (λ c. if not c && counted_level hold (clock_of line) ys j
    then (line, counted_level hold (data_of line) xs (i - 1)) ∷ [] else []) before
    ∙ ap (λ (c : Bool). if rises hold (clock_of line) ys j then (line, c) ∷ [] else []) bit)

module _ (hold s : ℕ) (ss ts : List ℕ) where
  abbrev run : List ℕ
  run = ss ++ replicate (hold + 1) s

  run-length : length run ≡ length ss + (hold + 1)
  run-length = omega (arith, length-append ss (replicate (hold + 1) s), length-replicate (hold + 1) s)

  in-run : (i : ℕ) → length ss ≤ i → i ≤ length ss + hold → slice_index run i ≡ s
  in-run i past inside =
      get_or-append_right ss (replicate (hold + 1) s) (length ss) i 0 refl past
      ∙ get_or-replicate (hold + 1) (i - length ss) s 0 (omega (arith, past, inside))

  -- without the sample the others stand one place earlier
  shift-read : (i : ℕ) → length ss ≤ i → slice_index (run ++ s ∷ ts) (suc i) ≡ slice_index (run ++ ts) i
  shift-read i past = elim (cases_lt i (length ss + hold)) [
    | inl before ↦
        get_or_append_left run (s ∷ ts) 0 (suc i) (omega (arith, run-length, before))
        ∙ (in-run (suc i) (omega (arith, past)) (omega (arith, before))
        ∙ (sym (in-run i past (omega (arith, before)))
        ∙ sym (get_or_append_left run ts 0 i (omega (arith, run-length, before)))))
    | inr other ↦ elim (cases_lt (length ss + hold) i) [
      | inl behind ↦
          get_or-append_right run (s ∷ ts) (length run) (suc i) 0 refl (omega (arith, run-length, behind))
          ∙ (ap (λ k. slice_index (s ∷ ts) k) (index i behind)
          ∙ sym (get_or-append_right run ts (length run) i 0 refl (omega (arith, run-length, behind))))
      | inr end ↦
          (let at : suc i ≡ length run = omega (arith, run-length, other, end) in
          ap (slice_index (run ++ s ∷ ts)) at
          ∙ (get_or-append_seam run s ts 0
          ∙ (sym (in-run i past (omega (arith, end)))
          ∙ sym (get_or_append_left run ts 0 i (omega (arith, run-length, end))))))
    ]
  ]
    where
      index : (i : ℕ) → length ss + hold < i → suc i - length run ≡ suc (i - length run)
      index i behind = omega (arith, run-length, behind)

  module _ (channel : Channel) where
    shift-level : (i : ℕ) → length ss ≤ i → level channel (run ++ s ∷ ts) (suc i) ≡ level channel (run ++ ts) i
    shift-level i past = ap channel (shift-read i past)

    shift-stood : (i h : ℕ) → length ss + hold ≤ i → h ≤ hold →
        stood channel (run ++ s ∷ ts) (suc i) h ≡ stood channel (run ++ ts) i h
    shift-stood i zero past within = refl
    shift-stood i (suc h) past within =
        let index : suc i - suc h ≡ suc (i - suc h) = omega (arith, past, within) in
        rw (
          index,
          shift-level (i - suc h) (omega (arith, past, within)),
          shift-level i (omega (arith, past)),
          shift-stood i h past (omega (arith, within)),
        ) refl

    -- its level has stood at the end of the run
    run-level : (j : ℕ) → j ≤ hold → level channel (run ++ ts) (length ss + hold - j) ≡ channel s
    run-level j within =
        ap channel (get_or_append_left run ts 0 (length ss + hold - j) (omega (arith, run-length))
        ∙ in-run (length ss + hold - j) (omega (arith, within)) (omega arith))

    run-stood : stood channel (run ++ ts) (length ss + hold) hold ≡ true
    run-stood = stood-all channel (run ++ ts) (length ss + hold) hold
        (λ j within. run-level j within ∙ (sym (run-level 0 (omega arith))
        ∙ ap (level channel (run ++ ts)) (omega arith)))

    run-counted : (i : ℕ) → i ≡ length ss + hold
        → counted_level hold channel (run ++ ts) i ≡ level channel (run ++ ts) i
    run-counted zero is = refl
    run-counted (suc i) is = rw (ap (λ k. stood channel (run ++ ts) k hold) is ∙ run-stood) refl

    shift-counted : (k : ℕ) → counted_level hold channel (run ++ s ∷ ts) (suc (length ss + hold + k))
        ≡ counted_level hold channel (run ++ ts) (length ss + hold + k)
    shift-counted zero =
        let at : length ss + hold + zero ≡ length ss + hold = omega arith in
        rw at
        (rw (shift-stood (length ss + hold) hold (omega arith) (omega arith), run-stood)
        (shift-level (length ss + hold) (omega arith) ∙ sym (run-counted (length ss + hold) refl)))
    shift-counted (suc k) =
        let at : length ss + hold + suc k ≡ suc (length ss + hold + k) = omega arith in
        rw (
          at,
          shift-stood (suc (length ss + hold + k)) hold (omega arith) (omega arith),
          shift-level (suc (length ss + hold + k)) (omega arith),
          shift-counted k,
        ) refl

  -- with the sample no bit arrives, and later ones arrive as without it
  shift-edge : (line : Line) (k : ℕ) → edge hold (run ++ s ∷ ts) line (suc (suc (length ss + hold + k)))
      ≡ edge hold (run ++ ts) line (suc (length ss + hold + k))
  shift-edge line k =
      let i = length ss + hold + k in
      let after : length ss + hold + suc k ≡ suc i = omega arith in
      let next : counted_level hold (clock_of line) (run ++ s ∷ ts) (suc (suc i))
      ≡ counted_level hold (clock_of line) (run ++ ts) (suc i) =
      ap (λ j. counted_level hold (clock_of line) (run ++ s ∷ ts) (suc j)) (sym after)
      ∙ (shift-counted (clock_of line) (suc k) ∙ ap (counted_level hold (clock_of line) (run ++ ts)) after) in
      let one : i ≡ suc i - 1 = omega arith in
      let two : suc (suc i) - 1 ≡ suc i = omega arith in
      let now : (channel : Channel) → counted_level hold channel (run ++ s ∷ ts) (suc (suc i) - 1)
      ≡ counted_level hold channel (run ++ ts) (suc i - 1) = λ channel.
      ap (counted_level hold channel (run ++ s ∷ ts)) two
      ∙ (shift-counted channel k ∙ ap (counted_level hold channel (run ++ ts)) one) in
      edge-same hold line (run ++ s ∷ ts) (run ++ ts) (suc (suc i)) (suc i) next (now (clock_of line))
      (now (data_of line))

  shift-at : (line : Line) (n k : ℕ) → n ≡ length run + k →
      edge hold (run ++ s ∷ ts) line (suc n) ≡ edge hold (run ++ ts) line n
  shift-at line n k is =
      let at : n ≡ suc (length ss + hold + k) = omega (arith, run-length, is) in
      rw at (shift-edge line k)

  edge-none : (line : Line) (i : ℕ) → i ≡ length run → edge hold (run ++ s ∷ ts) line i ≡ []
  edge-none line i is =
      let channel = clock_of line in
      let before : i - 1 ≡ length ss + hold = omega (arith, run-length, is) in
      let here : i ≡ suc (length ss + hold + 0) = omega (arith, run-length, is) in
      let same : length ss + hold + 0 ≡ length ss + hold = omega arith in
      let inside : length ss + hold < length run = omega (arith, run-length) in
      let now : counted_level hold channel (run ++ s ∷ ts) i ≡ counted_level hold channel run (length ss + hold) =
      ap (counted_level hold channel (run ++ s ∷ ts)) here
      ∙ (shift-counted channel 0 ∙ (ap (counted_level hold channel (run ++ ts)) same
      ∙ counted-front channel run ts hold (length ss + hold) inside)) in
      let was : counted_level hold channel (run ++ s ∷ ts) (i - 1) ≡ counted_level hold channel run (length ss + hold) =
      ap (counted_level hold channel (run ++ s ∷ ts)) before
      ∙ counted-front channel run (s ∷ ts) hold (length ss + hold) inside in
      rw (now, was) (never (counted_level hold channel run (length ss + hold)) _)
    where
      never : (c : Bool) (x : List Arrival) → (if not c && c then x else []) ≡ []
      never true x = refl
      never false x = refl

  abbrev both : List ℕ → ℕ → List Arrival
  both us i = edge hold us First i ++ edge hold us Second i

  same-edges : (k : ℕ) → flat_map (both (run ++ s ∷ ts)) (places (suc (length run + k)))
      ≡ flat_map (both (run ++ ts)) (places (length run + k))
  same-edges zero =
      let at : length run + zero ≡ length run = omega arith in
      rw at
      (places-more (both (run ++ s ∷ ts)) (both (run ++ ts)) (length run)
      (λ i inside. ap (λ xs. xs ++ edge hold (run ++ s ∷ ts) Second i)
      (edge-front hold run (s ∷ ts) First i inside ∙ sym (edge-front hold run ts First i inside))
      ∙ ap (λ xs. edge hold (run ++ ts) First i ++ xs)
      (edge-front hold run (s ∷ ts) Second i inside ∙ sym (edge-front hold run ts Second i inside)))
      ∙ (ap (λ xs. flat_map (both (run ++ ts)) (places (length run)) ++ xs)
      (ap (λ xs. xs ++ edge hold (run ++ s ∷ ts) Second (length run)) (edge-none First (length run) refl)
      ∙ edge-none Second (length run) refl)
      ∙ append-nil (flat_map (both (run ++ ts)) (places (length run)))))
  same-edges (suc k) =
      let n = length run + k in
      let at : length run + suc k ≡ suc n = omega arith in
      rw at
      (places-more (both (run ++ s ∷ ts)) (both (run ++ s ∷ ts)) (suc n) (λ i inside. refl)
      ∙ (ap (λ xs. xs ++ both (run ++ s ∷ ts) (suc n)) (same-edges k)
      ∙ (ap (λ xs. flat_map (both (run ++ ts)) (places n) ++ (xs ++ edge hold (run ++ s ∷ ts) Second (suc n)))
      (shift-at First n k refl)
      ∙ (ap (λ xs. flat_map (both (run ++ ts)) (places n) ++ (edge hold (run ++ ts) First n ++ xs))
      (shift-at Second n k refl)
      ∙ sym (places-more (both (run ++ ts)) (both (run ++ ts)) n (λ i inside. refl))))))

  pub same-samples : sampled hold (run ++ s ∷ ts) ≡ sampled hold (run ++ ts)
  same-samples =
      let with_it : length (run ++ s ∷ ts) ≡ suc (length run + length ts) = omega (
        arith,
        length-append run (s ∷ ts),
      ) in
      ap (λ n. flat_map (both (run ++ s ∷ ts)) (places n)) with_it
      ∙ (same-edges (length ts) ∙ ap (λ n. flat_map (both (run ++ ts)) (places n)) (sym (length-append run ts)))
