use Rattle.std.proofs.Common.{◌≡◌, ◌≤◌, ◌+◌, ◌-◌, ◌/◌, ◌^◌, ◌%◌, ◌<◌, ℕ, List, Bool, ◌++◌, length, min, ap, ◌∙◌, subst}
use Rattle.std.proofs.Common.{arith, refl, sym, take}
use Rattle.bus_bits.specs.Octet.{bits_of}
use Rattle.bus_bits.proofs.OctetLemmas.{bits-front, least, length-bits}
use Rattle.bus_fcs.specs.Check.{CheckView}
use Rattle.bus_line.specs.After.{After}
use Rattle.bus_line.specs.Due.{current}
use Rattle.bus_line.specs.Words.{first_in, state}
use Rattle.bus_line.specs.Internal.AdvancesTo.{ConsumesBits}
use Rattle.bus_line.specs.LineState.{LineState}
use Rattle.bus_line.specs.Internal.LineView.{settles_from}
use Rattle.bus_line.specs.Internal.Settled.{HasNoStop, data_in_word}
use Rattle.bus_line.specs.Internal.Tracks.{Tracks}
use Rattle.bus_line.specs.declared.decoder_words.DecoderWords.{DecoderWords}
use Rattle.bus_line.proofs.TimeFillLemmas.{settled-behind, word-front, word-is, word_of}
use Rattle.bus_line.proofs.AdvancesToLemmas.{no_stop-front}
use Rattle.bus_line.proofs.SettleLemmas.{Shifted, word-settled, word-unsettled}
use Rattle.bus_line.proofs.StepLemmas.{settles-open}
use Rattle.bus_line.proofs.WordsLemmas.{settles-told, shifted}
use Rattle.bus_line.proofs.decoder_words.DecoderWords.shift.Goals as goal

-- the newest bits, as the front of 56
newest : {C : Type 0} {view : CheckView C} (old : DecoderWords) (check : C) (octets : List ℕ) (b : List Bool)
    (x n last : ℕ) → After view (state old check octets) b → n ≤ 56
    → last ≡ word_of old.last_bits x / 2 ^ n % 65536
    → HasNoStop b (bits_of n x) (length (bits_of n x) - 1)
    → Shifted view (state (record old { place = old.place + n; last_bits = last }) check octets)
    (word_of old.last_bits x) n b (bits_of 56 x)
newest old check octets b x n last stands few is-last no_stop =
    let next = ap (λ (y : ℕ). record old { place = old.place + n; last_bits = y }) is-last in
    let long = length-bits n x in
    shifted old (record old { place = old.place + n; last_bits = last }) check octets b (bits_of 56 x)
    (word_of old.last_bits x) n next stands (word-is old.last_bits x b stands.has_taken.last_bits)
    (omega (arith, few, length-bits 56 x))
    (no_stop-front b x n 56 (n - 1) (λ i before. no_stop i (omega (arith, before, long))) (omega arith)
    (omega (arith, few)))

front-tracks : {C : Type 0} {view : CheckView C} {d : LineState C} (b : List Bool) (x n : ℕ) → n ≤ 56
    → Tracks view d (b ++ take n (bits_of 56 x)) (current b) → Tracks view d (b ++ bits_of n x) (current b)
front-tracks {C} {view} {d} b x n few =
    subst (λ (z : List Bool). Tracks view d (b ++ z) (current b)) (bits-front n 56 x few)

pub returns-then-self-clause-consumes : goal.returns-then-self-clause-consumes
unfolding bits_of
returns-then-self-clause-consumes g c check octets new appends =
    let old = c.args.self.now in
    let x = c.args.bits in
    let n = c.args.count in
    let told = settles-told old.settles_at c.requires.within.settles_late in
    subst (ConsumesBits g.C.Check.check (state old check octets) (bits_of n x))
    (sym (appends.none (omega (arith, told, c.if-self.true)))) (record {
      longest = refl;
      origin = refl;
      place = omega (arith, length-bits n x);
      tracks = λ b stands no_stop.
          let shifted = newest old check octets b x n c.newest-self.result stands c.requires.count.1
          c.newest-self.ensures no_stop in
          front-tracks b x n c.requires.count.1
          (word-unsettled old.settles_at (first_in old.settles_at) shifted refl told c.if-self.true);
    })

pub returns-clause-consumes : goal.returns-clause-consumes
returns-clause-consumes g c check octets new appends =
    let old = c.args.self.now in
    let x = c.args.bits in
    let n = c.args.count in
    let late = c.min-late.result in
    record {
      longest = ap (λ (d : LineState _). d.longest) appends.kept;
      origin = ap (λ (d : LineState _). d.origin) appends.kept;
      place = ap (λ (d : LineState _). d.place) appends.kept ∙ omega (arith, length-bits n x);
      tracks = λ b stands no_stop.
          let shifted = newest old check octets b x n c.newest-self.result stands c.requires.count.1
          c.newest-self.ensures no_stop in
          let told = settles-told old.settles_at c.requires.within.settles_late in
          let opened = settles-open old.settles_at (old.place + n) (first_in old.settles_at) told c.requires.room
          c.if-self.false in
          let at : old.settles_at ≡ opened.0 + 8 = told ∙ ap settles_from opened.1 in
          let is-late : late ≡ min (old.place + n - (opened.0 + 8)) n =
          c.min-late.ensures ∙ (least (old.place + n - old.settles_at) n ∙ omega (arith, at)) in
          let value = c.data_in_word.ensures.value
          ∙ (ap (λ (y : ℕ). data_in_word (y / 2 ^ (n - late)) late)
          (word-front old.last_bits x c.requires.within.sixteen)
          ∙ settled-behind (word_of old.last_bits x) (n - late) late (omega (arith, is-late, c.requires.count.1))) in
          front-tracks b x n c.requires.count.1
          (word-settled opened.0 late c.data_in_word.result.count c.data_in_word.result.bits shifted opened.1
          opened.2 is-late value appends);
    }
