-- The end of the text.
use Rattle.std.proofs.Common.{◌≡◌, ◌∙◌, ◌++◌, ℕ, List, [], replicate, refl, sym, append-nil, append_assoc, Option}
use Rattle.std.proofs.Common.{Err, inl}
use Rattle.std.specs.Io.KnownBytes.{Appends}
use Rattle.bus_text.specs.Pages.{Pages}
use Rattle.bus_text.specs.Put.{TextStopsAt}
use Rattle.bus_sample.specs.Recording.{recorded}
use Rattle.bus_sample.specs.Samples.{AreTooMany, HasSize, SamplesBy, IsFrontOf}
use Rattle.bus_sample.specs.Internal.Runs.{RecordingStopsWith}
use Rattle.bus_sample.specs.declared.reader.SampleRun.{SampleRun}
use Rattle.bus_sample.specs.declared.fault.SampleFault.{SampleFault}
use Rattle.bus_sample.specs.declared.fault.SampleFault.TheVariants.{Octets, CutOff, TooMany, Read, ReadsLimit}
use Rattle.bus_sample.specs.declared.fault.SampleFault.TheVariants.{Facts, Write}

pub whole-front : (ss : List ℕ) → IsFrontOf ss ss
whole-front ss = ([], sym (append-nil ss))

too-many-front : (samples front : List ℕ) → AreTooMany samples front → IsFrontOf samples front
too-many-front samples front many = (
  replicate many.count many.sample ++ many.stands.0,
  many.stands.1 ∙ append_assoc front (replicate many.count many.sample) many.stands.0,
)

module _ (after start before now : Option (List ℕ)) (run : SampleRun) (size : HasSize run.options) (xs : List ℕ) where
  -- nothing was cut
  pub closed-whole : (fault : SampleFault) → ((sent : ℕ) → fault ≡ Write sent → ⊥) →
      ((text : List ℕ) → Pages start before run.marks.page.text run.marks.page.written text → Appends start now text) →
      RecordingStopsWith after start before run xs (Err fault) →
      SamplesBy run.options after start now xs (Err fault)
  closed-whole Octets none closed halts = absurd halts
  closed-whole (CutOff octet) none closed ends =
      (size, ends.0, ends.1, ends.2, closed _ ends.3.taken.marks.page)
  closed-whole TooMany none closed halts = (size, halts.0, halts.1, closed _ halts.2.page)
  closed-whole Read none closed read = (size, closed _ read.taken.marks.page)
  closed-whole Facts none closed read = (size, closed _ read.taken.marks.page)
  closed-whole ReadsLimit none closed ends = (size, ends.0, closed _ ends.1.taken.marks.page)
  closed-whole (Write sent) none closed halts = absurd (none sent refl)

  -- the text was
  pub closed-cut : (fault : SampleFault) (sent : ℕ) → ((n : ℕ) → fault ≡ Write n → ⊥) →
      ((text : List ℕ) → Pages start before run.marks.page.text run.marks.page.written text →
      TextStopsAt start now text sent) →
      RecordingStopsWith after start before run xs (Err fault) →
      SamplesBy run.options after start now xs (Err (Write sent))
  closed-cut Octets sent none cut halts = absurd halts
  closed-cut (CutOff octet) sent none cut ends =
      (recorded run.options.form xs, _, whole-front _, inl refl, cut _ ends.3.taken.marks.page)
  closed-cut TooMany sent none cut halts =
      (halts.0, _, too-many-front _ halts.0 halts.1, inl refl, cut _ halts.2.page)
  closed-cut Read sent none cut read =
      (recorded run.options.form xs, _, whole-front _, inl refl, cut _ read.taken.marks.page)
  closed-cut Facts sent none cut read =
      (recorded run.options.form xs, _, whole-front _, inl refl, cut _ read.taken.marks.page)
  closed-cut ReadsLimit sent none cut ends =
      (recorded run.options.form xs, _, whole-front _, inl refl, cut _ ends.1.taken.marks.page)
  closed-cut (Write n) sent none cut halts = absurd (none n refl)
