-- What is told while a recording is read.
use Rattle.std.proofs.Common.{◌≡◌, ℕ, ◌<◌, ◌≤◌, true, false, List, [], ◌∷◌, ◌++◌, length, take, sym, ◌∙◌, arith}
use Rattle.std.proofs.Common.{refl, ◌+◌, ◌-◌, length-append, append-nil, Option, Result, Ok, Err, inl, inr}
use Rattle.std.specs.Prelude.{◌⊎◌, MatchResult, IfErr}
use Rattle.std.proofs.Math.Seq.{take-append-add}
use Rattle.arrayvec.specs.ArrayVec.{array_vec_len}
use Rattle.std.specs.List.{flat_map}
use Rattle.std.proofs.lemmas.List.{flat_map_more}
use Rattle.std.specs.Io.KnownBytes.{Appends}
use Rattle.bus_text.proofs.KnownBytesLemmas.{appends_both}
use Rattle.bus_tap.specs.Facts.{AreTapFacts}
use Rattle.bus_tap.specs.declared.facts.TapFacts.{TapFacts}
use Rattle.bus_sample.specs.Facts.{facts_text}
use Rattle.bus_sample.specs.Recording.{recorded, levels}
use Rattle.bus_sample.specs.Looks.{AreLooks, before, quiet, after, HasTold, IsToldInPart, IsUpToLastRead, LooksBefore}
use Rattle.bus_sample.specs.Looks.{LooksBy, most_read}
use Rattle.bus_sample.specs.Internal.Runs.{StopsWith}
use Rattle.bus_sample.specs.declared.reader.SampleRun.{SampleRun}
use Rattle.bus_sample.specs.declared.options.SampleOptions.{SampleOptions}
use Rattle.bus_sample.specs.declared.fault.SampleFault.{SampleFault}
use Rattle.bus_sample.specs.declared.fault.SampleFault.TheVariants.{Octets, CutOff, TooMany, Read, ReadsLimit}
use Rattle.bus_sample.specs.declared.fault.SampleFault.TheVariants.{Facts, Write}

-- nothing is told where no looks are asked for
pub quiet-none : (o : SampleOptions) (xs : List ℕ) (fs : List TapFacts) → o.looks ≡ false → AreLooks o xs fs → fs ≡ []
quiet-none o xs fs off before = refl
quiet-none o xs fs off (quiet ys zs is looks) = refl
quiet-none o xs fs off (after ys zs gs f on some few looks are) =
    let clash : false ≡ true = sym off ∙ on in absurd (cc)

module _ (o : SampleOptions) (start mid : Option (List ℕ)) (xs ys : List ℕ) (told : HasTold o start mid xs) where
  pub told-quiet : o.looks ≡ false → HasTold o start mid (xs ++ ys)
  told-quiet off =
      let none = quiet-none o xs told.0 off told.1 in (
        [],
        quiet xs ys off (rw none at told.1),
        rw none at told.2,
      )

  module _ (now : Option (List ℕ)) (f : TapFacts) (on : o.looks ≡ true) (some : 1 ≤ length ys)
      (few : length ys ≤ most_read) (are : AreTapFacts o.hold o.jump f (levels o (recorded o.form (xs ++ ys)))) where
    pub told-more : Appends mid now (facts_text f) → HasTold o start now (xs ++ ys)
    told-more out = (
      told.0 ++ f ∷ [],
      after xs ys told.0 f on some few told.1 are,
      rw (← flat_map_more facts_text [] told.0 f) (appends_both start mid now _ _ told.2 out),
    )

    pub told-cut : (sent : ℕ) → sent < length (facts_text f) → Appends mid now (take sent (facts_text f)) →
        IsToldInPart o start now (xs ++ ys)
    told-cut sent short out =
        let text = flat_map facts_text told.0 in
        let both : flat_map facts_text (told.0 ++ f ∷ []) ≡ text ++ facts_text f =
        sym (flat_map_more facts_text [] told.0 f) in (
          told.0 ++ f ∷ [],
          length text + sent,
          after xs ys told.0 f on some few told.1 are,
          rw both (omega (arith, length-append text (facts_text f), short)),
          rw (both, take-append-add text (facts_text f) sent) (appends_both start mid now _ _ told.2 out),
        )

-- all octets
up-to-last : (xs : List ℕ) → IsUpToLastRead xs xs
up-to-last xs = ([], sym (append-nil xs), omega arith)

-- at a fault within a read
pub looks-before : (o : SampleOptions) (start now : Option (List ℕ)) (begin end : Option (List ℕ)) (run : SampleRun)
    (samples xs ys : List ℕ) (fault : SampleFault) → length ys ≤ most_read →
    StopsWith begin end run samples fault → HasTold o start now xs → LooksBefore o start now (xs ++ ys) fault
looks-before o start now begin end run samples xs ys TooMany few halts told = (xs, (ys, refl, few), told)
looks-before o start now begin end run samples xs ys (Write sent) few halts told = (xs, (ys, refl, few), inl told)
looks-before o start now begin end run samples xs ys Octets few halts told = absurd halts
looks-before o start now begin end run samples xs ys (CutOff octet) few halts told = absurd halts
looks-before o start now begin end run samples xs ys Read few halts told = absurd halts
looks-before o start now begin end run samples xs ys Facts few halts told = absurd halts
looks-before o start now begin end run samples xs ys ReadsLimit few halts told = absurd halts

-- and where the first writer fails then
looks-behind : (o : SampleOptions) (start now : Option (List ℕ)) (xs : List ℕ) (fault : SampleFault) (sent : ℕ) →
    LooksBefore o start now xs fault → LooksBefore o start now xs (Write sent)
looks-behind o start now xs Facts sent part = (xs, up-to-last xs, inr part)
looks-behind o start now xs (Write n) sent looks = looks
looks-behind o start now xs TooMany sent looks = (looks.0, looks.1, inl looks.2)
looks-behind o start now xs Octets sent told = (xs, up-to-last xs, inl told)
looks-behind o start now xs (CutOff octet) sent told = (xs, up-to-last xs, inl told)
looks-behind o start now xs Read sent told = (xs, up-to-last xs, inl told)
looks-behind o start now xs ReadsLimit sent told = (xs, up-to-last xs, inl told)

pub looks-closed : (o : SampleOptions) (start now : Option (List ℕ)) (xs : List ℕ) (fault result : SampleFault) →
    (result ≡ fault) ⊎ ((sent : ℕ) × (result ≡ Write sent)) → LooksBefore o start now xs fault →
    LooksBefore o start now xs result
looks-closed o start now xs fault result (inl same) looks = rw same looks
looks-closed o start now xs fault result (inr cut) looks = rw (cut.1) (looks-behind o start now xs fault cut.0 looks)

pub looks-ended : (o : SampleOptions) (start now : Option (List ℕ)) (xs : List ℕ) (r : Result TapFacts SampleFault) →
    IfErr r (λ fault. (sent : ℕ) × (fault ≡ Write sent)) → HasTold o start now xs → LooksBy o start now xs r
looks-ended o start now xs (Ok facts) cut told = told
looks-ended o start now xs (Err fault) cut told = rw (cut.1) (xs, up-to-last xs, inl told)

-- at the end of the input
pub looks-at-end : (o : SampleOptions) (start now : Option (List ℕ)) (xs : List ℕ) (run : SampleRun) (octets : ℕ)
    (r : Result (Unit {0}) SampleFault) → MatchResult r (λ _. array_vec_len run.part ≡ 0)
    (λ fault. (0 < array_vec_len run.part) × (fault ≡ CutOff (octets - array_vec_len run.part))) →
    HasTold o start now xs → LooksBy o start now xs r
looks-at-end o start now xs run octets (Ok _) none told = told
looks-at-end o start now xs run octets (Err fault) cut told = rw (cut.1) told
