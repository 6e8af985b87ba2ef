use Rattle.std.proofs.Common.{refl, ◌≡◌, ℕ, ◌+◌, ◌-◌, [], ◌∷◌, ◌++◌, Some, length, sym, ap, ◌∙◌, subst, arith}
use Rattle.std.specs.Option.{option_map}
use Rattle.std.proofs.lemmas.List.{length_push}
use Rattle.bus_line.specs.Report.{Idle, moved}
use Rattle.bus_line.specs.Due.{current}
use Rattle.bus_line.specs.Words.{state}
use Rattle.bus_line.specs.Internal.Tracks.{Tracks}
use Rattle.bus_line.specs.declared.decoder_words.DecoderWords.{DecoderWords}
use Rattle.bus_line.specs.declared.decoder.ended_mark.EndedMark.TheVariants.{FlagMark, AbortMark, IdleMark, Other}
use Rattle.bus_line.proofs.StepLemmas.{closing, seven, fifteen, other, tracks-flag, tracks-abort, ones_within}
use Rattle.bus_line.proofs.StepLemmas.{found-here}
use Rattle.bus_line.proofs.WordsLemmas.{first-at}
use Rattle.bus_line.proofs.decoder_words.DecoderWords.decide.Goals as goal

pub returns-in-FlagMark-clause-decides : goal.returns-in-FlagMark-clause-decides
returns-in-FlagMark-clause-decides g c =
    let octets = g.F.FrameBuffer.octets c.args.frame.now in
    let d = state c.args.self.now c.args.check.now octets in
    record {
      longest = ap (λ (w : DecoderWords). w.longest) c.count_piece.ensures.counts;
      origin = ap (λ (w : DecoderWords). w.origin) c.count_piece.ensures.counts;
      place = ap (λ (w : DecoderWords). w.place) c.count_piece.ensures.counts;
      answer = λ b bit tracks.
          let found = found-here b bit tracks.has_taken FlagMark c.in-FlagMark.ensures.found in
          c.closed-event.ensures.closes b bit tracks (omega (arith, found.2))
          (omega (arith, tracks.has_taken.place, length_push b bit, found.2))
          ∙ sym (ap (option_map (moved d.origin)) (closing d.longest b bit found).answers);
      after = λ b bit tracks.
          let found = found-here b bit tracks.has_taken FlagMark c.in-FlagMark.ensures.found in
          subst (Tracks g.C.Check.check _ (b ++ bit ∷ [])) (sym (closing 3 b bit found).leaves)
          (tracks-flag c.args.self.now _ c.args.check.now c.closed-event.new.check octets
          (g.F.FrameBuffer.octets c.closed-event.new.frame) tracks (omega (arith, length_push b bit, found.2))
          (ap (λ (w : DecoderWords). record w { settles_at = d.place + 8 }) c.count_piece.ensures.counts)
          (first-at d.place c.requires.sound.within.place_fits));
    }

pub returns-in-AbortMark-clause-decides : goal.returns-in-AbortMark-clause-decides
returns-in-AbortMark-clause-decides g c =
    let octets = g.F.FrameBuffer.octets c.args.frame.now in
    let d = state c.args.self.now c.args.check.now octets in
    record {
      longest = refl;
      origin = refl;
      place = refl;
      answer = λ b bit tracks.
          let found = found-here b bit tracks.has_taken AbortMark c.in-AbortMark.ensures.found in
          let place = c.saturating_sub.ensures in
          c.aborted-event.ensures octets (current b) (length b - 6) tracks.first
          (omega (arith, place, tracks.has_taken.place, length_push b bit, found.1, ones_within b))
          ∙ sym (ap (option_map (moved d.origin)) (seven d.longest b bit found).answers);
      after = λ b bit tracks.
          let found = found-here b bit tracks.has_taken AbortMark c.in-AbortMark.ensures.found in
          subst (Tracks g.C.Check.check _ (b ++ bit ∷ [])) (sym (seven 3 b bit found).leaves)
          (tracks-abort (length b - 6) tracks);
    }

pub returns-in-IdleMark-clause-decides : goal.returns-in-IdleMark-clause-decides
returns-in-IdleMark-clause-decides g c =
    let octets = g.F.FrameBuffer.octets c.args.frame.now in
    let d = state c.args.self.now c.args.check.now octets in
    record {
      longest = refl;
      origin = refl;
      place = refl;
      answer = λ b bit tracks.
          let found = found-here b bit tracks.has_taken IdleMark c.in-IdleMark.ensures.found in
          let size = length_push b bit in
          let first : c.saturating_sub-in-IdleMark.result ≡ d.origin + (length b - 14) =
          omega (arith, c.saturating_sub-in-IdleMark.ensures, tracks.has_taken.place, size, found.1, ones_within b) in
          let past : d.place ≡ d.origin + (length b + 1) = omega (arith, tracks.has_taken.place, size) in
          ap (λ (k : ℕ). Some (record { kind = Idle; first = k; past = d.place })) first
          ∙ (ap (λ (k : ℕ). Some (record { kind = Idle; first = d.origin + (length b - 14); past = k })) past
          ∙ sym (ap (option_map (moved d.origin)) (fifteen d.longest b bit found).answers));
      after = λ b bit tracks.
          let found = found-here b bit tracks.has_taken IdleMark c.in-IdleMark.ensures.found in
          subst (Tracks g.C.Check.check d (b ++ bit ∷ [])) (sym (fifteen 3 b bit found).leaves) tracks;
    }

pub returns-in-Other-clause-decides : goal.returns-in-Other-clause-decides
returns-in-Other-clause-decides g c =
    let octets = g.F.FrameBuffer.octets c.args.frame.now in
    let d = state c.args.self.now c.args.check.now octets in
    record {
      longest = refl;
      origin = refl;
      place = refl;
      answer = λ b bit tracks.
          let found = found-here b bit tracks.has_taken Other c.in-Other.ensures.found in
          sym (ap (option_map (moved d.origin)) (other d.longest b bit found).answers);
      after = λ b bit tracks.
          let found = found-here b bit tracks.has_taken Other c.in-Other.ensures.found in
          subst (Tracks g.C.Check.check d (b ++ bit ∷ [])) (sym (other 3 b bit found).leaves) tracks;
    }
