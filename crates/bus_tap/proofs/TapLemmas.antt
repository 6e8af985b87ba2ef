-- A tap, with one sample more.
use Rattle.std.proofs.Common.{◌≡◌, ℕ, zero, suc, ◌+◌, ◌-◌, ◌<◌, ◌&&◌, not, Bool, true, false, if◌then◌else◌, List, []}
use Rattle.std.proofs.Common.{◌∷◌, ◌++◌, length, replicate, refl, sym, ap, ◌∙◌, arith, append-nil, append_assoc}
use Rattle.std.proofs.Common.{length-append, subst, Some, None}
use Rattle.std.specs.Bool.{beq}
use Rattle.bus_line.specs.declared.line.Line.{Line}
use Rattle.bus_line.specs.declared.line.Line.TheVariants.{First, Second}
use Rattle.bus_tap.specs.Facts.{AreFacts, AreFactsOf, AreLevels, places_where, changes, changes_high, bit_samples}
use Rattle.bus_tap.specs.Sampled.{Channel, Timed, clock_of, data_of, counted_level, rises, timed, with_sample}
use Rattle.bus_tap.specs.Sampled.{SamplerState, HeldState, IsHeldAfter, IsAfterSamples, edge}
use Rattle.bus_tap.specs.Internal.Tallies.{where_is}
use Rattle.bus_tap.specs.Internal.Held.{IsHeldAt, AreHeldAt, next_state, held_clock, held_data}
use Rattle.std.specs.Prelude.{Option, MatchOption}
use Rattle.bus_tap.specs.Tapped.{TapState, AdvancesTap}
use Rattle.bus_tap.specs.declared.facts.Levels.{Levels}
use Rattle.bus_tap.specs.declared.facts.LineFacts.{LineFacts}
use Rattle.bus_tap.proofs.EachLemmas.{each-more, length-more}
use Rattle.bus_tap.proofs.SampledLemmas.{counted-front, held-more, timed-more}

module _ (hold : ℕ) (ss : List ℕ) (s : ℕ) where
  abbrev more : List ℕ
  more = ss ++ s ∷ []

  where-more : (is was : ℕ → Bool) → ((i : ℕ) → i < length ss → is i ≡ was i) →
      places_where is (length more) ≡ places_where was (length ss) ++ where_is (is (length ss)) (length ss)
  where-more is was same =
      each-more (λ i. if is i then i ∷ [] else []) (λ i. if was i then i ∷ [] else []) ss s
      (λ i inside. ap (λ b. if b then i ∷ [] else []) (same i inside))

  -- samples that come later change no level
  same-level : (channel : Channel) (i : ℕ) → i < length ss →
      counted_level hold channel more i ≡ counted_level hold channel ss i
  same-level channel i inside = counted-front channel ss (s ∷ []) hold i inside

  same-before : (channel : Channel) (i : ℕ) → i < length ss →
      counted_level hold channel more (i - 1) ≡ counted_level hold channel ss (i - 1)
  same-before channel i inside = same-level channel (i - 1) (omega (arith, inside))

  pub changes-more : (channel : Channel) → places_where (changes hold channel more) (length more)
      ≡ places_where (changes hold channel ss) (length ss)
      ++ where_is (changes hold channel more (length ss)) (length ss)
  changes-more channel =
      where-more (changes hold channel more) (changes hold channel ss)
      (λ i inside. rw (same-before channel i inside, same-level channel i inside) refl)

  pub high-more : (line : Line) → places_where (changes_high hold line more) (length more)
      ≡ places_where (changes_high hold line ss) (length ss)
      ++ where_is (changes_high hold line more (length ss)) (length ss)
  high-more line =
      where-more (changes_high hold line more) (changes_high hold line ss)
      (λ i inside. rw (
        same-before (data_of line) i inside,
        same-level (data_of line) i inside,
        same-level (clock_of line) i inside,
      ) refl)

  pub bits-more : (line : Line) → bit_samples hold line more
      ≡ bit_samples hold line ss ++ where_is (rises hold (clock_of line) more (length ss)) (length ss)
  bits-more line =
      where-more (rises hold (clock_of line) more) (rises hold (clock_of line) ss)
      (λ i inside. rw (same-before (clock_of line) i inside, same-level (clock_of line) i inside) refl)

  -- the facts of a line, whose levels these are before the sample and after it
  pub facts-more : (jump : ℕ) (line : Line) (f : LineFacts) (before after : Levels) →
      AreLevels hold line more (length ss - 1) before → AreLevels hold line more (length ss) after →
      AreFactsOf jump f
      (places_where (changes hold (clock_of line) ss) (length ss)
      ++ where_is (not (beq before.clock after.clock)) (length ss))
      (places_where (changes hold (data_of line) ss) (length ss)
      ++ where_is (not (beq before.bits after.bits)) (length ss))
      (places_where (changes_high hold line ss) (length ss)
      ++ where_is (not (beq before.bits after.bits) && after.clock) (length ss))
      (bit_samples hold line ss ++ where_is (not before.clock && after.clock) (length ss)) →
      AreFacts hold jump line f more
  facts-more jump line f before after was now of =
      rw (changes-more (clock_of line), changes-more (data_of line), high-more line, bits-more line)
      (rw (was.clock, was.bits, now.clock, now.bits) at of)

-- with further samples
pub advances-nothing : (t : TapState) → AdvancesTap t [] [] t
advances-nothing t = record {
  hold = refl;
  jump = refl;
  samples = omega arith;
  after = λ ss after. rw (append-nil ss) after;
  timed = λ ss after. rw (append-nil ss) (sym (append-nil (timed t.hold ss)));
}

pub advances-further : (old mid new : TapState) (ss ts : List ℕ) (xs ys : List Timed) →
    AdvancesTap old ss xs mid → AdvancesTap mid ts ys new → AdvancesTap old (ss ++ ts) (xs ++ ys) new
advances-further old mid new before behind xs ys one two = record {
  hold = two.hold ∙ one.hold;
  jump = two.jump ∙ one.jump;
  samples = omega (arith, one.samples, two.samples, length-append before behind);
  after = λ ss after. rw (← append_assoc) (two.after (ss ++ before) (one.after ss after));
  timed = λ ss after. rw (← append_assoc)
      (rw (one.hold) at (two.timed (ss ++ before) (one.after ss after))
      ∙ ap (λ zs. zs ++ ys) (one.timed ss after) ∙ append_assoc (timed old.hold ss) xs ys);
}

pub replicate-more : (n s : ℕ) → replicate (n + 1) s ≡ replicate n s ++ s ∷ []
replicate-more zero s = refl
replicate-more (suc n) s =
    let next : suc n + 1 ≡ suc (n + 1) = omega arith in
    rw next (ap (λ xs. s ∷ xs) (replicate-more n s))

pub replicate-both : (m n s : ℕ) → replicate (m + n) s ≡ replicate m s ++ replicate n s
replicate-both zero n s =
    let none : zero + n ≡ n = omega arith in
    ap (λ k. replicate k s) none
replicate-both (suc m) n s =
    let next : suc m + n ≡ suc (m + n) = omega arith in
    rw next (ap (λ xs. s ∷ xs) (replicate-both m n s))

-- a settled channel stays as it is
same-next : (hold : ℕ) (channel : Channel) (h : HeldState) (s : ℕ) → IsHeldAt channel h s →
    next_state hold h (channel s) ≡ h
same-next hold channel h s is = rw is (cases (channel s))
  where
    cases : (b : Bool) → next_state hold (record { level = b; others = 0 }) b ≡ record { level = b; others = 0 }
    cases true = refl
    cases false = refl

stays : (hold : ℕ) (channel : Channel) (h : HeldState) (ss : List ℕ) (s : ℕ) → IsHeldAt channel h s →
    IsHeldAfter hold channel h ss → IsHeldAfter hold channel h (ss ++ s ∷ [])
stays hold channel h ss s is after =
    subst (λ x. IsHeldAfter hold channel x (ss ++ s ∷ [])) (same-next hold channel h s is)
    (held-more hold channel h ss s after)

sampler-stays : (sampler : SamplerState) (s : ℕ) → AreHeldAt sampler s → (ss : List ℕ) → IsAfterSamples sampler ss →
    IsAfterSamples sampler (ss ++ s ∷ [])
sampler-stays sampler s settled ss after = record {
  first_clock = stays sampler.hold (clock_of First) _ ss s settled.first_clock after.first_clock;
  first_bits = stays sampler.hold (data_of First) _ ss s settled.first_bits after.first_bits;
  second_clock = stays sampler.hold (clock_of Second) _ ss s settled.second_clock after.second_clock;
  second_bits = stays sampler.hold (data_of Second) _ ss s settled.second_bits after.second_bits;
}

-- a sampler with a sample more, which changes no level that counts
pub record KeepsLevels (old new : SamplerState) : Type 0 where
  pub hold : new.hold ≡ old.hold
  pub clock : (line : Line) → (held_clock new line).level ≡ (held_clock old line).level
  pub bits : (line : Line) → (held_data new line).level ≡ (held_data old line).level

held-of-clock : (sampler : SamplerState) (line : Line) (ss : List ℕ) → IsAfterSamples sampler ss →
    IsHeldAfter sampler.hold (clock_of line) (held_clock sampler line) ss
held-of-clock sampler First ss after = after.first_clock
held-of-clock sampler Second ss after = after.second_clock

held-of-data : (sampler : SamplerState) (line : Line) (ss : List ℕ) → IsAfterSamples sampler ss →
    IsHeldAfter sampler.hold (data_of line) (held_data sampler line) ss
held-of-data sampler First ss after = after.first_bits
held-of-data sampler Second ss after = after.second_bits

module _ (hold : ℕ) (old new : SamplerState) (s : ℕ) (of : old.hold ≡ hold) (keeps : KeepsLevels old new)
    (ss : List ℕ) (before : IsAfterSamples old ss) (after : IsAfterSamples new (ss ++ s ∷ [])) where
  -- the same level counts before the sample and at it
  level-stays : (channel : Channel) (h k : HeldState) → k.level ≡ h.level → IsHeldAfter old.hold channel h ss →
      IsHeldAfter new.hold channel k (ss ++ s ∷ []) →
      counted_level hold channel (ss ++ s ∷ []) (length ss - 1) ≡ counted_level hold channel (ss ++ s ∷ []) (length ss)
  level-stays channel h k same one two =
      let last : length (ss ++ s ∷ []) - 1 ≡ length ss = omega (arith, length-more ss s) in
      ap (λ n. counted_level n channel (ss ++ s ∷ []) (length ss - 1)) (sym of)
      ∙ (counted-front channel ss (s ∷ []) old.hold (length ss - 1) (omega (arith, one.some))
      ∙ (sym one.counts ∙ (sym same ∙ (two.counts
      ∙ (ap (counted_level new.hold channel (ss ++ s ∷ [])) last
      ∙ ap (λ n. counted_level n channel (ss ++ s ∷ []) (length ss)) (keeps.hold ∙ of))))))

  beq-self : (x y : Bool) → x ≡ y → not (beq x y) ≡ false
  beq-self true true same = refl
  beq-self false false same = refl
  beq-self true false same = absurd (cc)
  beq-self false true same = absurd (cc)

  rise-self : (x y : Bool) → x ≡ y → (not x && y) ≡ false
  rise-self true y same = refl
  rise-self false true same = absurd (cc)
  rise-self false false same = refl

  clock-stays : (line : Line) → counted_level hold (clock_of line) (ss ++ s ∷ []) (length ss - 1)
      ≡ counted_level hold (clock_of line) (ss ++ s ∷ []) (length ss)
  clock-stays line =
      level-stays (clock_of line) _ _ (keeps.clock line) (held-of-clock old line ss before)
      (held-of-clock new line (ss ++ s ∷ []) after)

  data-stays : (line : Line) → counted_level hold (data_of line) (ss ++ s ∷ []) (length ss - 1)
      ≡ counted_level hold (data_of line) (ss ++ s ∷ []) (length ss)
  data-stays line =
      level-stays (data_of line) _ _ (keeps.bits line) (held-of-data old line ss before)
      (held-of-data new line (ss ++ s ∷ []) after)

  -- so nothing is counted, and no bit arrives
  facts-stay : (jump : ℕ) (line : Line) (f : LineFacts) → AreFacts hold jump line f ss
      → AreFacts hold jump line f (ss ++ s ∷ [])
  facts-stay jump line f facts =
      rw (
        changes-more hold ss s (clock_of line),
        changes-more hold ss s (data_of line),
        high-more hold ss s line,
        bits-more hold ss s line,
        beq-self _ _ (clock-stays line),
        beq-self _ _ (data-stays line),
        rise-self _ _ (clock-stays line),
        append-nil (places_where (changes hold (clock_of line) ss) (length ss)),
        append-nil (places_where (changes hold (data_of line) ss) (length ss)),
        append-nil (places_where (changes_high hold line ss) (length ss)),
        append-nil (bit_samples hold line ss),
      ) facts

  no-edge : (line : Line) → edge hold (ss ++ s ∷ []) line (length ss) ≡ []
  no-edge line = rw (rise-self _ _ (clock-stays line)) refl

  timed-stays : timed hold (ss ++ s ∷ []) ≡ timed hold ss
  timed-stays =
      timed-more hold ss s ∙ (ap (λ xs. timed hold ss ++ with_sample (length ss) xs)
      (ap (λ xs. xs ++ edge hold (ss ++ s ∷ []) Second (length ss)) (no-edge First) ∙ no-edge Second)
      ∙ append-nil (timed hold ss))

-- a tap with a sample more that changes no level
pub passes-one : (t : TapState) (old new : SamplerState) (s : ℕ) → t.sampler ≡ Some old → KeepsLevels old new →
    ((ss : List ℕ) → IsAfterSamples old ss → IsAfterSamples new (ss ++ s ∷ [])) →
    (o : Option SamplerState) → o ≡ Some new → (n : ℕ) → n ≡ t.samples + 1 →
    AdvancesTap t (s ∷ []) [] (record t { sampler = o; samples = n })
passes-one t old new s is keeps next o so n count = record {
  hold = refl;
  jump = refl;
  samples = count;
  after = λ ss after.
      let was = rw is at after.sampler in
      let now = next ss was.1 in record {
        samples = omega (arith, count, after.samples, length-more ss s);
        sampler = rw so (keeps.hold ∙ was.0, now);
        first = facts-stay t.hold old new s was.0 keeps ss was.1 now t.jump First t.first after.first;
        second = facts-stay t.hold old new s was.0 keeps ss was.1 now t.jump Second t.second after.second;
      };
  timed = λ ss after.
      let was = rw is at after.sampler in
      timed-stays t.hold old new s was.0 keeps ss was.1 (next ss was.1) ∙ sym (append-nil (timed t.hold ss));
}

pub replicate-last : (n s : ℕ) → replicate (suc n) s ≡ replicate n s ++ s ∷ []
replicate-last n s =
    let next : suc n ≡ n + 1 = omega arith in
    ap (λ k. replicate k s) next ∙ replicate-more n s

-- a settled tap passes samples
passes : (t : TapState) (sampler : SamplerState) → t.sampler ≡ Some sampler → (s : ℕ) → AreHeldAt sampler s →
    (n : ℕ) → AdvancesTap t (replicate n s) [] (record t { samples = t.samples + n })
passes t sampler is s settled zero =
    let none : t.samples + 0 ≡ t.samples = omega arith in
    rw none (advances-nothing t)
passes t sampler is s settled (suc n) =
    rw (replicate-last n s)
    (advances-further t (record t { samples = t.samples + n }) (record t { samples = t.samples + suc n })
    (replicate n s) (s ∷ []) [] [] (passes t sampler is s settled n)
    (passes-one (record t { samples = t.samples + n }) sampler sampler s is
    (record { hold = refl; clock = λ line. refl; bits = λ line. refl }) (sampler-stays sampler s settled)
    t.sampler is (t.samples + suc n) (omega arith)))

pub passes-settled : (t : TapState) (o : Option SamplerState) → t.sampler ≡ o → (s : ℕ) →
    MatchOption o ⊥ (λ x. AreHeldAt x s) → (n : ℕ) →
    AdvancesTap t (replicate n s) [] (record t { samples = t.samples + n })
passes-settled t None is s settled n = absurd settled
passes-settled t (Some sampler) is s settled n = passes t sampler is s settled n

-- the levels that a sampler has are those that count
pub levels-now : (sampler : SamplerState) (line : Line) (ss : List ℕ) (i : ℕ) (l : Levels) → i ≡ length ss - 1 →
    IsAfterSamples sampler ss → l.clock ≡ (held_clock sampler line).level →
    l.bits ≡ (held_data sampler line).level → AreLevels sampler.hold line ss i l
levels-now sampler line ss i l at after clock bits = rw at (record {
  clock = clock ∙ (held-of-clock sampler line ss after).counts;
  bits = bits ∙ (held-of-data sampler line ss after).counts;
})

pub levels-before : (sampler : SamplerState) (line : Line) (ss : List ℕ) (s : ℕ) (l : Levels) →
    IsAfterSamples sampler ss → l.clock ≡ (held_clock sampler line).level →
    l.bits ≡ (held_data sampler line).level → AreLevels sampler.hold line (ss ++ s ∷ []) (length ss - 1) l
levels-before sampler line ss s l after clock bits =
    let now = levels-now sampler line ss (length ss - 1) l refl after clock bits in
    let inside : length ss - 1 < length ss = omega (arith, (held-of-clock sampler line ss after).some) in record {
      clock = now.clock ∙ sym (counted-front (clock_of line) ss (s ∷ []) sampler.hold (length ss - 1) inside);
      bits = now.bits ∙ sym (counted-front (data_of line) ss (s ∷ []) sampler.hold (length ss - 1) inside);
    }
