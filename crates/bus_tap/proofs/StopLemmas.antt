-- Bits behind a stop of their clock, with one bit more.
use Rattle.std.proofs.Common.{◌≡◌, ℕ, ◌+◌, ◌-◌, ◌≤◌, ◌^◌, ◌&&◌, Bool, true, false, if◌then◌else◌, List}
use Rattle.std.proofs.Common.{[], ◌∷◌, ◌++◌, length, take, drop, refl, sym, ap, ◌∙◌, arith, append-nil, append_assoc}
use Rattle.std.proofs.Common.{min}
use Rattle.std.specs.Prelude.{nat_lt, nat_le}
use Rattle.std.specs.List.{flat_map}
use Rattle.std.proofs.lemmas.List.{take-append-le}
use Rattle.std.proofs.Math.Seq.{take-append_seam, get_or-append_seam}
use Rattle.bus_line.specs.declared.line.Line.{Line}
use Rattle.bus_line.specs.declared.line.Line.TheVariants.{First, Second}
use Rattle.bus_tap.specs.Arrival.{Arrival}
use Rattle.bus_tap.specs.Sampled.{Timed}
use Rattle.bus_tap.specs.Stopped.{AdvancesStops, behind, is_long_after, on_time_until, samples_of, stop_fill}
use Rattle.bus_tap.specs.Stopped.{with_stops}
use Rattle.bus_tap.specs.declared.stop.StopRule.{StopRule}
use Rattle.bus_tap.proofs.EachLemmas.{each-more, alone-front, alone-last, length-more}

pub samples-more : (line : Line) (ts : List Timed) (t : Timed) →
    samples_of line (ts ++ t ∷ []) ≡ samples_of line ts ++ samples_of line (t ∷ [])
samples-more First [] t = refl
samples-more Second [] t = refl
samples-more First ((i, (First, bit)) ∷ ts) t = ap (λ es. i ∷ es) (samples-more First ts t)
samples-more First ((i, (Second, bit)) ∷ ts) t = samples-more First ts t
samples-more Second ((i, (First, bit)) ∷ ts) t = samples-more Second ts t
samples-more Second ((i, (Second, bit)) ∷ ts) t = ap (λ es. i ∷ es) (samples-more Second ts t)

-- the last bit comes behind all others
pub stops-more : (most : ℕ) (ts : List Timed) (t : Timed) →
    with_stops most (ts ++ t ∷ []) ≡ with_stops most ts ++ behind most ts t
stops-more most ts t =
    each-more (λ k. flat_map (behind most (take k (ts ++ t ∷ []))) (take 1 (drop k (ts ++ t ∷ []))))
    (λ k. flat_map (behind most (take k ts)) (take 1 (drop k ts))) ts t
    (λ k inside.
    ap (λ us. flat_map (behind most us) (take 1 (drop k (ts ++ t ∷ []))))
    (take-append-le k ts (t ∷ []) (omega (arith, inside)))
    ∙ ap (flat_map (behind most (take k ts))) (alone-front ts (t ∷ []) k inside))
    ∙ ap (λ xs. with_stops most ts ++ xs)
    (ap (λ us. flat_map (behind most us) (take 1 (drop (length ts) (ts ++ t ∷ [])))) (take-append_seam ts (t ∷ []))
    ∙ (ap (flat_map (behind most ts)) (alone-last ts t) ∙ append-nil (behind most ts t)))

-- by the sample up to which a bit comes behind no stop
pub late-is : (most i : ℕ) (es : List ℕ) → i ≤ 2 ^ 64 - 1 → is_long_after most es i ≡ nat_lt (on_time_until most es) i
late-is most i es fits = cases (nat_lt 0 most && nat_le 1 (length es)) refl
  where
    cases : (b : Bool) → (nat_lt 0 most && nat_le 1 (length es)) ≡ b →
        is_long_after most es i ≡ nat_lt (on_time_until most es) i
    cases true is = grind (arith, is, fits)
    cases false is = grind (arith, is, fits)

pub until-more : (most i : ℕ) (es : List ℕ) → on_time_until most (es ++ i ∷ [])
    ≡ (if nat_lt 0 most then min (i + most) (2 ^ 64 - 1) else 2 ^ 64 - 1)
until-more most i es =
    let some : nat_le 1 (length (es ++ i ∷ [])) ≡ true = grind (arith, length-more es i) in
    let at : length (es ++ i ∷ []) - 1 ≡ length es = omega (arith, length-more es i) in
    rw (some, at, get_or-append_seam es i [] 0) (cases (nat_lt 0 most))
  where
    cases : (b : Bool) → (if b && true then min (i + most) (2 ^ 64 - 1) else 2 ^ 64 - 1)
        ≡ (if b then min (i + most) (2 ^ 64 - 1) else 2 ^ 64 - 1)
    cases true = refl
    cases false = refl

-- a bit comes
module _ (most i : ℕ) (line : Line) (bit : Bool) (ts : List Timed) where
  pub push-stops : i ≤ 2 ^ 64 - 1 → with_stops most (ts ++ (i, (line, bit)) ∷ [])
      ≡ with_stops most ts ++ (stop_fill (nat_lt (on_time_until most (samples_of line ts)) i) line ++ (line, bit) ∷ [])
  push-stops fits =
      stops-more most ts (i, (line, bit))
      ∙ ap (λ b. with_stops most ts ++ (stop_fill b line ++ (line, bit) ∷ []))
      (late-is most i (samples_of line ts) fits)

  pub push-until : on_time_until most (samples_of line (ts ++ (i, (line, bit)) ∷ []))
      ≡ (if nat_lt 0 most then min (i + most) (2 ^ 64 - 1) else 2 ^ 64 - 1)
  push-until =
      ap (on_time_until most) (samples-more line ts (i, (line, bit)) ∙ ap (λ es. samples_of line ts ++ es) (own line))
      ∙ until-more most i (samples_of line ts)
    where
      own : (l : Line) → samples_of l ((i, (l, bit)) ∷ []) ≡ i ∷ []
      own First = refl
      own Second = refl

pub other-second : (i : ℕ) (bit : Bool) (ts : List Timed) →
    samples_of Second (ts ++ (i, (First, bit)) ∷ []) ≡ samples_of Second ts
other-second i bit ts = samples-more Second ts (i, (First, bit)) ∙ append-nil (samples_of Second ts)

pub other-first : (i : ℕ) (bit : Bool) (ts : List Timed) →
    samples_of First (ts ++ (i, (Second, bit)) ∷ []) ≡ samples_of First ts
other-first i bit ts = samples-more First ts (i, (Second, bit)) ∙ append-nil (samples_of First ts)

pub until-none : (most i : ℕ) → most ≡ 0 →
    2 ^ 64 - 1 ≡ (if nat_lt 0 most then min (i + most) (2 ^ 64 - 1) else 2 ^ 64 - 1)
until-none most i none = rw none refl

pub until-some : (most i : ℕ) → (most ≡ 0 → ⊥) →
    min (i + most) (2 ^ 64 - 1) ≡ (if nat_lt 0 most then min (i + most) (2 ^ 64 - 1) else 2 ^ 64 - 1)
until-some most i some =
    let is : nat_lt 0 most ≡ true = grind (arith, some) in
    rw is refl

-- with further bits
pub stops-nothing : (r : StopRule) → AdvancesStops r [] [] r
stops-nothing r = record {
  most = refl;
  after = λ ts after. rw (append-nil ts) after;
  stops = λ ts after. rw (append-nil ts) (sym (append-nil (with_stops r.most ts)));
}

pub stops-further : (old mid new : StopRule) (us vs : List Timed) (xs ys : List Arrival) →
    AdvancesStops old us xs mid → AdvancesStops mid vs ys new → AdvancesStops old (us ++ vs) (xs ++ ys) new
stops-further old mid new us vs xs ys one two = record {
  most = two.most ∙ one.most;
  after = λ ts after. rw (← append_assoc) (two.after (ts ++ us) (one.after ts after));
  stops = λ ts after. rw (← append_assoc)
      (rw (one.most) at (two.stops (ts ++ us) (one.after ts after))
      ∙ ap (λ zs. zs ++ ys) (one.stops ts after) ∙ append_assoc (with_stops old.most ts) xs ys);
}
