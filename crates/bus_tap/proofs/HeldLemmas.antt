-- A settled tap, with samples of other levels, which stand until they count.
use Rattle.std.proofs.Common.{◌≡◌, ℕ, zero, suc, ◌+◌, ◌-◌, ◌<◌, ◌≤◌, ◌==◌, not, Bool, true, false, List, [], ◌∷◌, ◌++◌}
use Rattle.std.proofs.Common.{length, replicate, refl, sym, ap, ◌∙◌, arith, subst, Some, None, if◌then◌else◌, inl, inr}
use Rattle.std.specs.Bool.{beq}
use Rattle.std.specs.Prelude.{Option}
use Rattle.std.proofs.lemmas.Bool.{cases_lt}
use Rattle.bus_line.specs.declared.line.Line.{Line}
use Rattle.bus_line.specs.declared.line.Line.TheVariants.{First, Second}
use Rattle.bus_tap.specs.Facts.{AreLevels}
use Rattle.bus_tap.specs.Sampled.{Channel, clock_of, data_of, bit_on, bits_of_edges, edge, timed, with_sample}
use Rattle.bus_tap.specs.Sampled.{SamplerState, HeldState, IsHeldAfter, IsAfterSamples}
use Rattle.bus_tap.specs.Tapped.{TapState, AdvancesTap}
use Rattle.bus_tap.specs.Internal.Held.{IsHeldAt, AreHeldAt, next_state, levels_in, bit_after, held_clock, held_data}
use Rattle.bus_tap.specs.Internal.Tallies.{AdvancesFacts}
use Rattle.bus_tap.specs.Internal.Taps.{HasHold, IsStill}
use Rattle.bus_tap.specs.declared.facts.LineFacts.{LineFacts}
use Rattle.bus_tap.specs.declared.sampler.Edges.{Edges}
use Rattle.bus_tap.proofs.EachLemmas.{length-more}
use Rattle.bus_tap.proofs.SampledLemmas.{held-more, edge-is, timed-more}
use Rattle.bus_tap.proofs.TapLemmas.{KeepsLevels, advances-nothing, advances-further, passes-one}
use Rattle.bus_tap.proofs.TapLemmas.{facts-more}
use Rattle.bus_tap.proofs.TapLemmas.{replicate-last, replicate-more, levels-now, levels-before}

-- a sampler that has had one sample alone is settled
first-held : (hold : ℕ) (channel : Channel) (h : HeldState) (s : ℕ) → IsHeldAfter hold channel h (s ∷ []) →
    IsHeldAt channel h s
first-held hold channel h s after = elim (cases_lt 0 h.others) [
  | inl some ↦ absurd (never (channel s) (after.others 0 some ∙ ap not after.counts))
  | inr none ↦
      (let no : h.others ≡ 0 = omega (arith, none) in
      ap (λ l. record { level = l; others = h.others }) after.counts
      ∙ ap (λ n. record { level = channel s; others = n }) no)
]
  where
    never : (b : Bool) → b ≡ not b → ⊥
    never true is = cc
    never false is = cc

pub first-settled : (sampler : SamplerState) (s : ℕ) → IsAfterSamples sampler (s ∷ []) → AreHeldAt sampler s
first-settled sampler s after = record {
  first_clock = first-held sampler.hold (clock_of First) _ s after.first_clock;
  first_bits = first-held sampler.hold (data_of First) _ s after.first_bits;
  second_clock = first-held sampler.hold (clock_of Second) _ s after.second_clock;
  second_bits = first-held sampler.hold (data_of Second) _ s after.second_bits;
}

module _ (hold b s : ℕ) where
  -- what was settled with sample `b`, with `n` times sample `s`
  abbrev waiting_on : Channel → ℕ → HeldState
  waiting_on channel n = record { level = channel b; others = if beq (channel s) (channel b) then 0 else n }

  abbrev waiting : ℕ → SamplerState
  waiting n = record {
    hold = hold;
    first_clock = waiting_on (clock_of First) n;
    first_bits = waiting_on (data_of First) n;
    second_clock = waiting_on (clock_of Second) n;
    second_bits = waiting_on (data_of Second) n;
  }

  wait-none : (channel : Channel) (h : HeldState) → IsHeldAt channel h b → h ≡ waiting_on channel 0
  wait-none channel h is = is ∙ ap (λ n. record { level = channel b; others = n }) (cases (beq (channel s) (channel b)))
    where
      cases : (x : Bool) → zero ≡ (if x then zero else zero)
      cases true = refl
      cases false = refl

  wait-next : (channel : Channel) (n : ℕ) → n < hold →
      next_state hold (waiting_on channel n) (channel s) ≡ waiting_on channel (n + 1)
  wait-next channel n less = cases (channel s) (channel b)
    where
      more : (n == hold) ≡ false
      more = grind (arith, less)

      cases : (x y : Bool) → next_state hold (record { level = y; others = if beq x y then 0 else n }) x
          ≡ record { level = y; others = if beq x y then 0 else n + 1 }
      cases true true = refl
      cases false false = refl
      cases true false = rw more refl
      cases false true = rw more refl

  wait-last : (channel : Channel) → next_state hold (waiting_on channel hold) (channel s)
      ≡ record { level = channel s; others = 0 }
  wait-last channel = cases (channel s) (channel b)
    where
      full : (hold == hold) ≡ true
      full = grind arith

      cases : (x y : Bool) → next_state hold (record { level = y; others = if beq x y then 0 else hold }) x
          ≡ record { level = x; others = 0 }
      cases true true = refl
      cases false false = refl
      cases true false = rw full refl
      cases false true = rw full refl

  -- with a sample more
  waits-on : (channel : Channel) (n : ℕ) (h : HeldState) (ss : List ℕ) →
      next_state hold (waiting_on channel n) (channel s) ≡ h → IsHeldAfter hold channel (waiting_on channel n) ss →
      IsHeldAfter hold channel h (ss ++ s ∷ [])
  waits-on channel n h ss is after =
      subst (λ x. IsHeldAfter hold channel x (ss ++ s ∷ [])) is
      (held-more hold channel (waiting_on channel n) ss s after)

  keeps-waiting : (n m : ℕ) → KeepsLevels (waiting n) (waiting m)
  keeps-waiting n m = record { hold = refl; clock = clock; bits = bits }
    where
      clock : (line : Line) → (held_clock (waiting m) line).level ≡ (held_clock (waiting n) line).level
      clock First = refl
      clock Second = refl

      bits : (line : Line) → (held_data (waiting m) line).level ≡ (held_data (waiting n) line).level
      bits First = refl
      bits Second = refl

  waits : (t : TapState) → t.sampler ≡ Some (waiting 0) → (n : ℕ) → n ≤ hold →
      AdvancesTap t (replicate n s) [] (record t { sampler = Some (waiting n); samples = t.samples + n })
  waits t is zero within =
      let none : t.samples + 0 ≡ t.samples = omega arith in
      rw (none, ← is) (advances-nothing t)
  waits t is (suc n) within =
      let less : n < hold = omega (arith, within) in
      let one : suc n ≡ n + 1 = omega arith in
      let mid = record t { sampler = Some (waiting n); samples = t.samples + n } in
      rw (replicate-last n s)
      (advances-further t mid (record t { sampler = Some (waiting (suc n)); samples = t.samples + suc n })
      (replicate n s) (s ∷ []) [] [] (waits t is n (omega (arith, within)))
      (passes-one mid (waiting n) (waiting (suc n)) s refl (keeps-waiting n (suc n))
      (λ ss after. rw one (record {
        first_clock = waits-on (clock_of First) n _ ss (wait-next (clock_of First) n less) after.first_clock;
        first_bits = waits-on (data_of First) n _ ss (wait-next (data_of First) n less) after.first_bits;
        second_clock = waits-on (clock_of Second) n _ ss (wait-next (clock_of Second) n less) after.second_clock;
        second_bits = waits-on (data_of Second) n _ ss (wait-next (data_of Second) n less) after.second_bits;
      })) (Some (waiting (suc n))) refl (t.samples + suc n) (omega arith)))

  -- until all levels count
  module _ (new : SamplerState) (held : new.hold ≡ hold) (settled : AreHeldAt new s) (ss : List ℕ)
      (after : IsAfterSamples (waiting hold) ss) where
    counts : (channel : Channel) (h : HeldState) → IsHeldAt channel h s →
        IsHeldAfter hold channel (waiting_on channel hold) ss → IsHeldAfter new.hold channel h (ss ++ s ∷ [])
    counts channel h is before = rw held (waits-on channel hold h ss (wait-last channel ∙ sym is) before)

    all-count : IsAfterSamples new (ss ++ s ∷ [])
    all-count = record {
      first_clock = counts (clock_of First) _ settled.first_clock after.first_clock;
      first_bits = counts (data_of First) _ settled.first_bits after.first_bits;
      second_clock = counts (clock_of Second) _ settled.second_clock after.second_clock;
      second_bits = counts (data_of Second) _ settled.second_bits after.second_bits;
    }

    edges-are : bit_on First (bit_after First b s) ++ bit_on Second (bit_after Second b s)
        ≡ edge hold (ss ++ s ∷ []) First (length ss) ++ edge hold (ss ++ s ∷ []) Second (length ss)
    edges-are =
        rw (
          edge-is hold First ss s _ _ _ after.first_clock after.first_bits
              (waits-on (clock_of First) hold _ ss (wait-last (clock_of First)) after.first_clock),
          edge-is hold Second ss s _ _ _ after.second_clock after.second_bits
              (waits-on (clock_of Second) hold _ ss (wait-last (clock_of Second)) after.second_clock),
        ) refl

  settled-waits : (old : SamplerState) → old.hold ≡ hold → AreHeldAt old b → old ≡ waiting 0
  settled-waits old of settled = same
    where
      made : ℕ → HeldState → HeldState → HeldState → HeldState → SamplerState
      made h p q r u = record { hold = h; first_clock = p; first_bits = q; second_clock = r; second_bits = u }

      same : made old.hold old.first_clock old.first_bits old.second_clock old.second_bits
          ≡ made hold (waiting_on (clock_of First) 0) (waiting_on (data_of First) 0) (waiting_on (clock_of Second) 0)
          (waiting_on (data_of Second) 0)
      same = rw (
        of,
        wait-none (clock_of First) old.first_clock settled.first_clock,
        wait-none (data_of First) old.first_bits settled.first_bits,
        wait-none (clock_of Second) old.second_clock settled.second_clock,
        wait-none (data_of Second) old.second_bits settled.second_bits,
      ) refl

pub consumes-held : (t : TapState) (o : Option SamplerState) (new : SamplerState) (b s : ℕ) (first second : LineFacts)
    (e : Edges) → t.sampler ≡ o → IsStill o b → HasHold t.hold o → new.hold ≡ t.hold → AreHeldAt new s →
    AdvancesFacts t.jump t.first (t.samples + t.hold) (levels_in First b) (levels_in First s) first →
    AdvancesFacts t.jump t.second (t.samples + t.hold) (levels_in Second b) (levels_in Second s) second →
    e ≡ record { first = bit_after First b s; second = bit_after Second b s } →
    AdvancesTap t (replicate (t.hold + 1) s) (with_sample (t.samples + t.hold) (bits_of_edges e))
    (record t { sampler = Some new; samples = t.samples + t.hold + 1; first = first; second = second })
consumes-held t None new b s first second e is was of held settled one two edges = absurd was
consumes-held t (Some old) new b s first second e is was of held settled one two edges =
    let wait = waiting t.hold b s t.hold in
    let start : t.sampler ≡ Some (waiting t.hold b s 0) = is ∙ ap Some (settled-waits t.hold b s old of was) in
    rw (replicate-more t.hold s)
    (advances-further t (record t { sampler = Some wait; samples = t.samples + t.hold })
    (record t { sampler = Some new; samples = t.samples + t.hold + 1; first = first; second = second })
    (replicate t.hold s) (s ∷ []) [] (with_sample (t.samples + t.hold) (bits_of_edges e))
    (waits t.hold b s t start t.hold (omega arith)) (record {
      hold = refl;
      jump = refl;
      samples = refl;
      after = λ ss after.
          let all = all-count t.hold b s new held settled ss after.sampler.1 in
          let last : length ss ≡ length (ss ++ s ∷ []) - 1 = omega (arith, length-more ss s) in
          record {
            samples = omega (arith, after.samples, length-more ss s);
            sampler = (held, all);
            first = facts-more t.hold ss s t.jump First first (levels_in First b) (levels_in First s)
                (levels-before wait First ss s (levels_in First b) after.sampler.1 refl refl)
                (subst (λ h. AreLevels h First (ss ++ s ∷ []) (length ss) (levels_in First s)) held
                (levels-now new First (ss ++ s ∷ []) (length ss) (levels_in First s) last all
                (sym (ap (λ (h : HeldState). h.level) settled.first_clock))
                (sym (ap (λ (h : HeldState). h.level) settled.first_bits))))
                (rw (after.samples) at (one _ _ _ _ after.first));
            second = facts-more t.hold ss s t.jump Second second (levels_in Second b) (levels_in Second s)
                (levels-before wait Second ss s (levels_in Second b) after.sampler.1 refl refl)
                (subst (λ h. AreLevels h Second (ss ++ s ∷ []) (length ss) (levels_in Second s)) held
                (levels-now new Second (ss ++ s ∷ []) (length ss) (levels_in Second s) last all
                (sym (ap (λ (h : HeldState). h.level) settled.second_clock))
                (sym (ap (λ (h : HeldState). h.level) settled.second_bits))))
                (rw (after.samples) at (two _ _ _ _ after.second));
          };
      timed = λ ss after. rw (after.samples)
          (timed-more t.hold ss s ∙ ap (λ xs. timed t.hold ss ++ with_sample (length ss) xs)
          (sym (edges-are t.hold b s new held settled ss after.sampler.1) ∙ ap bits_of_edges (sym edges)));
    }))
