-- A recording, with octets more.
use Rattle.std.proofs.Common.{◌≡◌, ℕ, ◌+◌, ◌-◌, ◌<◌, ◌≤◌, List, [], ◌∷◌, ◌++◌, length, replicate, take, drop, refl, sym}
use Rattle.std.proofs.Common.{ap, ◌∙◌, arith, subst, append_assoc, Option, Result, Ok, Err, get_or}
use Rattle.std.proofs.Common.{inl, inr}
use Rattle.std.specs.Prelude.{◌⊎◌, IfErr, MatchResult}
use Rattle.bus_text.proofs.KnownBytesLemmas.{take_both}
use Rattle.std.proofs.lemmas.Grind.{common_steps}
use Rattle.std.specs.Io.KnownBytes.{IsAtEnd}
use Rattle.arrayvec.specs.ArrayVec.{array_vec_len}
use Rattle.bus_sample.specs.Recording.{recorded, cut_record, size_of}
use Rattle.bus_sample.specs.Samples.{FailsAt, FailsBy, IsFrontOf}
use Rattle.bus_sample.specs.Internal.Runs.{RunAfter, HasRead, IsSameRecord, StopsWith, RecordingStopsWith}
use Rattle.bus_sample.specs.declared.options.Form.{Form}
use Rattle.bus_sample.specs.declared.options.Form.TheVariants.{Samples}
use Rattle.bus_sample.specs.declared.reader.SampleRun.{SampleRun}
use Rattle.bus_sample.specs.declared.fault.SampleFault.{SampleFault}
use Rattle.bus_sample.specs.declared.fault.SampleFault.TheVariants.{Octets, CutOff, TooMany, Read, ReadsLimit}
use Rattle.bus_sample.specs.declared.fault.SampleFault.TheVariants.{Facts, Write}
use Rattle.bus_sample.proofs.RecordLemmas.{recorded-grows, octets-recorded, octets-cut}

-- a record is whole
pub read-whole : (start now : Option (List ℕ)) (new : SampleRun) (form : Form) (xs ss : List ℕ)
    (r : Result (Unit {0}) SampleFault) → new.options.form ≡ form → recorded form xs ≡ ss → cut_record form xs ≡ [] →
    new.part.items ≡ [] →
    MatchResult r (λ _. RunAfter start now new ss) (λ fault. StopsWith start now new ss fault) →
    MatchResult r (λ _. HasRead start now new xs) (λ fault. StopsWith start now new (recorded form xs) fault)
read-whole start now new form xs ss (Ok _) same is none part taken = record {
  taken = subst (λ f. RunAfter start now new (recorded f xs)) (sym same)
      (subst (λ samples. RunAfter start now new samples) (sym is) taken);
  part = part ∙ (sym none ∙ ap (λ f. cut_record f xs) (sym same));
}
read-whole start now new form xs ss (Err fault) same is none part halts = rw is halts

-- samples of an octet each are whole
pub samples-read : (start now : Option (List ℕ)) (old new : SampleRun) (xs more : List ℕ)
    (r : Result (Unit {0}) SampleFault) → old.options.form ≡ Samples 1 → IsSameRecord old new →
    old.part.items ≡ cut_record old.options.form xs →
    MatchResult r (λ _. RunAfter start now new (recorded old.options.form xs ++ more))
    (λ fault. StopsWith start now new (recorded old.options.form xs ++ more) fault) →
    MatchResult r (λ _. HasRead start now new (xs ++ more))
    (λ fault. StopsWith start now new (recorded old.options.form (xs ++ more)) fault)
samples-read start now old new xs more r is same part taken =
    let form = old.options.form in
    read-whole start now new form (xs ++ more) (recorded form xs ++ more) r (ap (λ o. o.form) same.1)
    (octets-recorded form is xs more) (octets-cut form is (xs ++ more))
    (ap (λ p. p.items) same.0 ∙ (part ∙ octets-cut form is xs)) taken

-- a fault among the first samples is one among more of them
front-further : (xs ys zs : List ℕ) → IsFrontOf zs ys → IsFrontOf ys xs → IsFrontOf zs xs
front-further xs ys zs further front = (
  front.0 ++ further.0,
  further.1 ∙ (ap (λ l. l ++ further.0) front.1 ∙ append_assoc xs front.0 further.0),
)

pub halts-further : (start now : Option (List ℕ)) (run : SampleRun) (samples more : List ℕ) (fault : SampleFault) →
    IsFrontOf more samples → StopsWith start now run samples fault → StopsWith start now run more fault
halts-further start now run samples more (Write sent) further halts = (
  halts.0,
  front-further halts.0 samples more further halts.1,
  halts.2,
)
halts-further start now run samples more TooMany further halts = (
  halts.0,
  record {
    sample = halts.1.sample;
    count = halts.1.count;
    stands = front-further (halts.0 ++ replicate halts.1.count halts.1.sample) samples more further halts.1.stands;
    more = halts.1.more;
  },
  halts.2,
)
halts-further start now run samples more Octets further halts = absurd halts
halts-further start now run samples more (CutOff octet) further halts = absurd halts
halts-further start now run samples more Read further halts = absurd halts
halts-further start now run samples more ReadsLimit further halts = absurd halts
halts-further start now run samples more Facts further halts = absurd halts

-- the octets so far, and one more
pub front-next : (xs ys : List ℕ) (i x : ℕ) → i < length ys → x ≡ get_or ys i 0 →
    (xs ++ take i ys) ++ x ∷ [] ≡ xs ++ take (i + 1) ys
front-next xs ys i x inside is = grind (arith, common_steps)

pub read-next : (start now : Option (List ℕ)) (run : SampleRun) (xs ys : List ℕ) (i x : ℕ) →
    HasRead start now run ((xs ++ take i ys) ++ x ∷ []) → i < length ys → x ≡ get_or ys i 0 →
    HasRead start now run (xs ++ take (i + 1) ys)
read-next start now run xs ys i x read inside is =
    subst (λ l. HasRead start now run l) (front-next xs ys i x inside is) read

pub halts-at : (start now : Option (List ℕ)) (run : SampleRun) (form : Form) (xs ys : List ℕ) (i x : ℕ)
    (fault : SampleFault) → 1 ≤ size_of form → i < length ys → x ≡ get_or ys i 0 →
    StopsWith start now run (recorded form ((xs ++ take i ys) ++ x ∷ [])) fault →
    StopsWith start now run (recorded form (xs ++ ys)) fault
halts-at start now run form xs ys i x fault some inside is halts =
    let front = (xs ++ take i ys) ++ x ∷ [] in
    let whole : front ++ drop (i + 1) ys ≡ xs ++ ys = grind (arith, common_steps) in
    halts-further start now run (recorded form front) (recorded form (xs ++ ys)) fault
    (rw whole at (recorded-grows form front (drop (i + 1) ys) some)) halts

pub all-octets : (i : ℕ) (ys : List ℕ) → length ys ≤ i → take i ys ≡ ys
all-octets i ys all = grind (arith, common_steps)

-- how the reading ended
pub halts-finishes : (after start now : Option (List ℕ)) (run : SampleRun) (form : Form) (xs : List ℕ)
    (fault : SampleFault) → run.options.form ≡ form → StopsWith start now run (recorded form xs) fault →
    RecordingStopsWith after start now run xs (Err fault)
halts-finishes after start now run form xs (Write sent) is halts = rw is halts
halts-finishes after start now run form xs TooMany is halts = rw is halts
halts-finishes after start now run form xs Octets is halts = absurd halts
halts-finishes after start now run form xs (CutOff octet) is halts = absurd halts
halts-finishes after start now run form xs Read is halts = absurd halts
halts-finishes after start now run form xs ReadsLimit is halts = absurd halts
halts-finishes after start now run form xs Facts is halts = absurd halts

pub ends-finishes : (after start now : Option (List ℕ)) (run : SampleRun) (xs : List ℕ) (octets : ℕ)
    (r : Result (Unit {0}) SampleFault) → IsAtEnd after → HasRead start now run xs → octets ≡ length xs →
    MatchResult r (λ _. array_vec_len run.part ≡ 0)
    (λ fault. (0 < array_vec_len run.part) × (fault ≡ CutOff (octets - array_vec_len run.part))) →
    RecordingStopsWith after start now run xs r
ends-finishes after start now run xs octets (Ok _) end read whole none =
    (end, nothing (cut_record run.options.form xs) (sym (ap length read.part) ∙ none), read)
  where
    nothing : (l : List ℕ) → length l ≡ 0 → l ≡ []
    nothing [] empty = refl
    nothing (x ∷ l) empty = absurd (let never : ⊥ = omega (arith, empty) in never)
ends-finishes after start now run xs octets (Err fault) end read whole cut =
    let count : array_vec_len run.part ≡ length (cut_record run.options.form xs) = ap length read.part in
    rw (cut.1) (
      end,
      omega (arith, cut.0, count),
      omega (arith, count, whole),
      read,
    )

-- the octets so far, and some behind them
pub behind-next : (xs ys : List ℕ) (at n : ℕ) → at ≤ length ys →
    (xs ++ take at ys) ++ take n (take (length ys - at) (drop at ys)) ≡ xs ++ take (at + n) ys
behind-next xs ys at n inside =
    let rest : take (length ys - at) (drop at ys) ≡ drop at ys = grind (arith, common_steps) in
    append_assoc xs (take at ys) (take n (take (length ys - at) (drop at ys)))
    ∙ ap (λ l. xs ++ l) (ap (λ l. take at ys ++ take n l) rest ∙ sym (take_both ys at n))

pub halts-front : (start now : Option (List ℕ)) (run : SampleRun) (form : Form) (xs ys : List ℕ) (n : ℕ)
    (fault : SampleFault) → 1 ≤ size_of form → StopsWith start now run (recorded form (xs ++ take n ys)) fault →
    StopsWith start now run (recorded form (xs ++ ys)) fault
halts-front start now run form xs ys n fault some halts =
    let front = xs ++ take n ys in
    let whole : front ++ drop n ys ≡ xs ++ ys = grind (arith, common_steps) in
    halts-further start now run (recorded form front) (recorded form (xs ++ ys)) fault
    (rw whole at (recorded-grows form front (drop n ys) some)) halts

pub halts-behind : (start now : Option (List ℕ)) (run : SampleRun) (form : Form) (xs ys : List ℕ) (at : ℕ)
    (fault : SampleFault) → at ≤ length ys →
    StopsWith start now run (recorded form ((xs ++ take at ys) ++ take (length ys - at) (drop at ys))) fault →
    StopsWith start now run (recorded form (xs ++ ys)) fault
halts-behind start now run form xs ys at fault inside halts =
    let whole : (xs ++ take at ys) ++ take (length ys - at) (drop at ys) ≡ xs ++ ys = grind (arith, common_steps) in
    rw whole at halts

-- no read failed at a fault of samples
pub fails-within : (start now : Option (List ℕ)) (run : SampleRun) (samples : List ℕ) (fault : SampleFault) (n m : ℕ) →
    m ≡ n → StopsWith start now run samples fault → FailsAt n m fault
fails-within start now run samples (Write sent) n m same halts = inl same
fails-within start now run samples TooMany n m same halts = same
fails-within start now run samples Octets n m same halts = absurd halts
fails-within start now run samples (CutOff octet) n m same halts = absurd halts
fails-within start now run samples Read n m same halts = absurd halts
fails-within start now run samples ReadsLimit n m same halts = absurd halts
fails-within start now run samples Facts n m same halts = absurd halts

-- nor at the end of the input
pub fails-at-end : (run : SampleRun) (octets : ℕ) (r : Result (Unit {0}) SampleFault) (n m : ℕ) → m ≡ n →
    MatchResult r (λ _. array_vec_len run.part ≡ 0)
    (λ fault. (0 < array_vec_len run.part) × (fault ≡ CutOff (octets - array_vec_len run.part))) →
    FailsBy n m r
fails-at-end run octets (Ok _) n m same none = same
fails-at-end run octets (Err fault) n m same cut = rw (cut.1) same

-- nor where the end was written, or was not
pub fails-ended : {A : Type 0} (r : Result A SampleFault) (n m : ℕ) → m ≡ n →
    IfErr r (λ fault. (sent : ℕ) × (fault ≡ Write sent)) → FailsBy n m r
fails-ended (Ok x) n m same cut = same
fails-ended (Err fault) n m same cut = rw (cut.1) (inl same)

-- a write that fails then is told in place of the fault
fails-behind : (fault : SampleFault) (sent n m : ℕ) → FailsAt n m fault → FailsAt n m (Write sent)
fails-behind Read sent n m fails = inr fails
fails-behind (Write cut) sent n m fails = fails
fails-behind TooMany sent n m fails = inl fails
fails-behind Octets sent n m fails = inl fails
fails-behind (CutOff octet) sent n m fails = inl fails
fails-behind ReadsLimit sent n m fails = inl fails
fails-behind Facts sent n m fails = inl fails

pub fails-closed : (fault result : SampleFault) (n m : ℕ) →
    (result ≡ fault) ⊎ ((sent : ℕ) × (result ≡ Write sent)) → FailsAt n m fault → FailsAt n m result
fails-closed fault result n m (inl same) fails = rw same fails
fails-closed fault result n m (inr cut) fails = rw (cut.1) (fails-behind fault cut.0 n m fails)
