-- What was sent is read back.
use Rattle.std.proofs.Common.{◌≡◌, ◌≢◌, ℕ, zero, suc, ◌+◌, ◌-◌, ◌≤◌, ◌<◌, Bool, true, false, List, [], ◌∷◌, ◌++◌}
use Rattle.std.proofs.Common.{length, Option, Some, None, refl, sym, ap, ◌∙◌, subst, arith, if◌then◌else◌}
use Rattle.std.specs.List.{slice_range, All}
use Rattle.std.specs.Option.{option_to_list}
use Rattle.std.proofs.lemmas.List.{append_assoc, append-nil, length-append, length_push}
use Rattle.std.proofs.Math.Seq.{drop-append_seam, take-append_seam}
use Rattle.std.proofs.lemmas.List.Elements.{All-head, All-tail}
use Rattle.bus_line.specs.Spelling.{ones, IsSpelledBy, ends, short, five}
use Rattle.bus_line.specs.Run.{ones_after, ones_at_end}
use Rattle.bus_line.specs.Mark.{flag}
use Rattle.bus_line.specs.Internal.Flags.{EndsInFlag}
use Rattle.bus_line.proofs.FlagLemmas.{flag-last, flag-length, run-here}
use Rattle.bus_line.specs.Report.{Kind, Report, class_of_data}
use Rattle.bus_line.specs.Due.{reports, due_at, class_of, class_of_read, piece_report, AbortAt, current}
use Rattle.bus_line.specs.Line.{Call, Flag, Idle, Frame, raw_bits, added, line_behind}
use Rattle.bus_line.specs.Sent.{CanBeRead, idle_at, sent_frame, read_of, read_behind, LineIsReadBack}
use Rattle.bus_line.proofs.SpellingLemmas.{unspelled-is}
use Rattle.bus_line.proofs.RunLemmas.{IsLow, IsLow-start, spelled-low, ones_after-more}
use Rattle.bus_line.proofs.DueMoreLemmas.{reports-more}
use Rattle.bus_line.proofs.DueLemmas.{piece_report-is, piece_report-shut}
use Rattle.bus_line.proofs.SpellingRawLemmas.{low-ones}
use Rattle.bus_line.proofs.DueStreamLemmas.{at-flag, at-abort, at-idle}
use Rattle.bus_line.proofs.StepLemmas.{decides-nothing}
use Rattle.bus_line.proofs.SentLemmas.{data_sent, length-sent, raw-spelled, class-sent}

-- the bits c after b leave the reports, the last mark and k ones at the end
record Quiet (longest : ℕ) (b c : List Bool) (k : ℕ) : Type 0 where
  none : reports longest (b ++ c) ≡ reports longest b
  mark : current (b ++ c) ≡ current b
  run : ones_at_end (b ++ c) ≡ k

quiet-nil : (longest : ℕ) (b : List Bool) (k : ℕ) → ones_at_end b ≡ k → Quiet longest b [] k
quiet-nil longest b k run = record { none = rw append-nil; mark = rw append-nil; run = rw append-nil run }

quiet-more : {longest : ℕ} {b c d : List Bool} {j k : ℕ} → Quiet longest b c j → Quiet longest (b ++ c) d k →
    Quiet longest b (c ++ d) k
quiet-more {longest} {b} {c} {d} first more =
    record {
      none = rw (← append_assoc b c d) (more.none ∙ first.none);
      mark = rw (← append_assoc b c d) (more.mark ∙ first.mark);
      run = rw (← append_assoc b c d) more.run;
    }

-- neither six nor fourteen
abbrev IsNeither : ℕ → Type 0
IsNeither n = (n ≢ 6) × (n ≢ 14)

few-neither : (n : ℕ) → n ≤ 5 → IsNeither n
few-neither n few = (λ six. omega (arith, few, six), λ fourteen. omega (arith, few, fourteen))

many-neither : (n : ℕ) → 15 ≤ n → IsNeither n
many-neither n many = (λ six. omega (arith, many, six), λ fourteen. omega (arith, many, fourteen))

-- a bit that decides nothing
quiet-bit : (longest : ℕ) (b : List Bool) (x : Bool) → IsNeither (ones_at_end b) →
    Quiet longest b (x ∷ []) (if x then suc (ones_at_end b) else 0)
quiet-bit longest b x neither =
    let other = decides-nothing longest b x neither.0 neither.1 in
    record {
      none = reports-more longest b x
          ∙ (ap (λ y. reports longest b ++ option_to_list y) other.answers ∙ append-nil (reports longest b));
      mark = other.leaves;
      run = ones_after-more 0 b x;
    }

-- bits without six ones in a row decide nothing
quiet-low : (longest : ℕ) (b w : List Bool) → IsLow (ones_at_end b) w → Quiet longest b w (ones_after (ones_at_end b) w)
quiet-low longest b [] low = quiet-nil longest b _ refl
quiet-low longest b (true ∷ w) low =
    let few = IsLow-start (suc (ones_at_end b)) w low in
    let run = ones_after-more 0 b true in
    let bit = quiet-bit longest b true (few-neither (ones_at_end b) (omega (arith, few))) in
    let more = quiet-low longest (b ++ true ∷ []) w (subst (λ n. IsLow n w) (sym run) low) in
    subst (λ n. Quiet longest b (true ∷ w) (ones_after n w)) run (quiet-more bit more)
quiet-low longest b (false ∷ w) low =
    let run = ones_after-more 0 b false in
    let bit = quiet-bit longest b false (few-neither (ones_at_end b) low.0) in
    let more = quiet-low longest (b ++ false ∷ []) w (subst (λ n. IsLow n w) (sym run) low.1) in
    subst (λ n. Quiet longest b (false ∷ w) (ones_after n w)) run (quiet-more bit more)

-- more ones, none of them the seventh or the fifteenth
quiet-ones : (longest : ℕ) (b : List Bool) (j k : ℕ) → ones_at_end b ≡ j →
    ((i : ℕ) → i < k → IsNeither (j + i)) → Quiet longest b (ones k) (j + k)
quiet-ones longest b j zero run neither = quiet-nil longest b (j + zero) (run ∙ omega arith)
quiet-ones longest b j (suc k) run neither =
    let here : j + 0 ≡ ones_at_end b = omega (arith, run) in
    let bit = quiet-bit longest b true (subst IsNeither here (neither 0 (omega arith))) in
    let size : suc j + k ≡ j + suc k = omega arith in
    let more = quiet-ones longest (b ++ true ∷ []) (suc j) k (bit.run ∙ ap suc run)
    (λ i below. let at : j + suc i ≡ suc j + i = omega arith in subst IsNeither at (neither (suc i) (omega arith))) in
    subst (Quiet longest b (ones (suc k))) size (quiet-more bit more)

-- the bits c after b add these reports, and then the bits end so
record Adds (longest : ℕ) (b c : List Bool) (rs : List Report) (Ends : List Bool → Type 0) : Type 0 where
  adds : reports longest (b ++ c) ≡ reports longest b ++ rs
  ends : Ends (b ++ c)

-- the last mark has no piece that a mark at the end would end
abbrev IsShut : List Bool → Type 0
IsShut b = (kind : ℕ → Kind) → piece_report kind (current b) (length b) ≡ None

flag-shut : (b : List Bool) → EndsInFlag b → IsShut b
flag-shut b ended kind = ap (λ x. piece_report kind x (length b)) (flag-last b ended)
    ∙ piece_report-shut kind (length b - 8) (length b) (omega (arith, flag-length b ended))

-- a flag after any bits but six ones
flag-added : (longest : ℕ) (b : List Bool) → IsNeither (ones_at_end b) → reports longest (b ++ flag)
    ≡ reports longest b ++ option_to_list
    (piece_report (λ p. class_of longest (slice_range (b ++ flag) (p + 8) (length b))) (current b) (length b))
flag-added longest b neither =
    let first = quiet-bit longest b false neither in
    let more = quiet-ones longest (b ++ false ∷ []) 0 6 first.run
    (λ i below. few-neither (0 + i) (omega (arith, below))) in
    let quiet = quiet-more first more in
    let c = b ++ false ∷ ones 6 in
    let size : length (b ++ false ∷ ones 6) ≡ length b + 7 = length-append b (false ∷ ones 6) in
    let at : length (b ++ false ∷ ones 6) - 7 ≡ length b = omega (arith, size) in
    let decides = at-flag longest c (quiet.run ∙ omega arith) (omega (arith, size)) in
    let whole : c ++ false ∷ [] ≡ b ++ flag = append_assoc b (false ∷ ones 6) (false ∷ []) in
    ap (reports longest) (sym whole)
    ∙ (reports-more longest c false
    ∙ (ap (λ x. x ++ option_to_list (due_at longest (c ++ false ∷ []) (length c))) quiet.none
    ∙ ap (λ x. reports longest b ++ option_to_list x) (decides.answers ∙ rw (whole, at, quiet.mark) refl)))

range-mid : (b r t : List Bool) → slice_range ((b ++ r) ++ t) (length b) (length b + length r) ≡ r
range-mid b r t =
    let size : (length b + length r) - length b ≡ length r = omega arith in
    ap (λ x. slice_range x (length b) (length b + length r)) (append_assoc b r t)
    ∙ rw (drop-append_seam, size) (take-append_seam r t)

-- raw bits of data and a flag, after a flag
content-added : (longest : ℕ) (b d r : List Bool) → EndsInFlag b → IsSpelledBy d r → 0 < length r
    → Adds longest b (r ++ flag)
    (record { kind = class_of_data longest d; first = length b; past = length b + length r } ∷ []) EndsInFlag
content-added longest b d r opened spelled some =
    let low : IsLow (ones_at_end b) r = subst (λ n. IsLow n r) (sym (run-here b opened)) (spelled-low d r spelled) in
    let quiet = quiet-low longest b r low in
    let few : ones_at_end (b ++ r) ≤ 5 = omega (arith, quiet.run, low-ones (ones_at_end b) r low) in
    let closed = flag-added longest (b ++ r) (few-neither (ones_at_end (b ++ r)) few) in
    let whole : (b ++ r) ++ flag ≡ b ++ (r ++ flag) = append_assoc b r flag in
    let size : length (b ++ r) ≡ length b + length r = length-append b r in
    let first : (length b - 8) + 8 ≡ length b = omega (arith, flag-length b opened) in
    let kind : ℕ → Kind = λ p. class_of longest (slice_range ((b ++ r) ++ flag) (p + 8) (length b + length r)) in
    let read : kind (length b - 8) ≡ class_of_data longest d =
    ap (λ i. class_of longest (slice_range ((b ++ r) ++ flag) i (length b + length r))) first
    ∙ (ap (class_of longest) (range-mid b r flag) ∙ ap (class_of_read longest) (unspelled-is d r spelled)) in
    let report : piece_report (λ p. class_of longest (slice_range ((b ++ r) ++ flag) (p + 8) (length (b ++ r))))
    (current (b ++ r)) (length (b ++ r))
    ≡ Some (record { kind = class_of_data longest d; first = length b; past = length b + length r }) =
    ap (λ k. piece_report (λ p. class_of longest (slice_range ((b ++ r) ++ flag) (p + 8) k)) (current (b ++ r)) k) size
    ∙ (ap (λ x. piece_report kind x (length b + length r)) (quiet.mark ∙ flag-last b opened)
    ∙ (piece_report-is kind (length b - 8) (length b + length r) (omega (arith, first, some))
    ∙ (ap (λ (i : ℕ). Some (record { kind = kind (length b - 8); first = i; past = length b + length r })) first
    ∙ ap (λ (k : Kind). Some (record { kind = k; first = length b; past = length b + length r })) read))) in
    record {
      adds = ap (reports longest) (sym whole)
          ∙ (closed ∙ (ap (λ x. reports longest (b ++ r) ++ option_to_list x) report
          ∙ ap (λ x. x ++ record { kind = class_of_data longest d; first = length b; past = length b + length r } ∷ [])
          quiet.none));
      ends = record { front = b ++ r; all = sym whole };
    }

spelled-some : (d r : List Bool) → IsSpelledBy d r → 0 < length d → 0 < length r
spelled-some _ _ (ends k few) some = some
spelled-some _ _ (short k d r few spelled) some = omega (arith, length-append (ones k) (false ∷ r))
spelled-some _ _ (five d r spelled) some = omega arith

frame-added : (longest : ℕ) (b : List Bool) (os : List ℕ) → EndsInFlag b → CanBeRead longest (Frame os) →
    Adds longest b (raw_bits os ++ flag) (sent_frame (length b) os ∷ []) EndsInFlag
frame-added longest b os opened readable =
    let spelled = raw-spelled os in
    let content = content-added longest b (data_sent os) (raw_bits os) opened spelled
    (spelled-some (data_sent os) (raw_bits os) spelled (omega (arith, length-sent os))) in
    record { adds = content.adds ∙ rw (class-sent longest os readable) refl; ends = content.ends }

-- fifteen ones stand at the end, or more
record EndsIdle (b : List Bool) : Type 0 where
  run : 15 ≤ ones_at_end b
  abort : ℕ
  mark : current b ≡ AbortAt abort

idle-shut : (b : List Bool) → EndsIdle b → IsShut b
idle-shut b ended kind = ap (λ x. piece_report kind x (length b)) ended.mark

-- fifteen ones after a 0, or at the start
idle-added : (longest : ℕ) (b : List Bool) → ones_at_end b ≡ 0 → IsShut b →
    Adds longest b (ones 15) (idle_at (length b) ∷ []) EndsIdle
idle-added longest b zero-run shut =
    let six-more = quiet-ones longest b 0 6 zero-run (λ i below. few-neither (0 + i) (omega (arith, below))) in
    let c = b ++ ones 6 in
    let six : ones_at_end (b ++ ones 6) ≡ 6 = six-more.run ∙ omega arith in
    let size : length (b ++ ones 6) ≡ length b + 6 = length-append b (ones 6) in
    let at : length (b ++ ones 6) - 6 ≡ length b = omega (arith, size) in
    let abort = at-abort longest c six in
    let none : piece_report (λ i. Kind.Abort) (current c) (length c - 6) ≡ None =
    ap (piece_report (λ i. Kind.Abort) (current c)) at
    ∙ (ap (λ x. piece_report (λ i. Kind.Abort) x (length b)) six-more.mark ∙ shut (λ i. Kind.Abort)) in
    let d = c ++ true ∷ [] in
    let seven : ones_at_end (c ++ true ∷ []) ≡ 7 = ones_after-more 0 c true ∙ ap suc six in
    let same : reports longest d ≡ reports longest b =
    reports-more longest c true
    ∙ (ap (λ x. reports longest c ++ option_to_list x) (abort.answers ∙ none)
    ∙ (append-nil (reports longest c) ∙ six-more.none)) in
    let seven-more = quiet-ones longest d 7 7 seven
    (λ i below. (λ is. omega (arith, is, below), λ is. omega (arith, is, below))) in
    let e = d ++ ones 7 in
    let fourteen : ones_at_end (d ++ ones 7) ≡ 14 = seven-more.run ∙ omega arith in
    let all : length (d ++ ones 7) ≡ length b + 14 =
    omega (arith, length-append d (ones 7), length_push c true, size) in
    let idle = at-idle longest e fourteen in
    let whole : e ++ true ∷ [] ≡ b ++ ones 15 =
    append_assoc d (ones 7) (true ∷ []) ∙ (append_assoc c (true ∷ []) (ones 8) ∙ append_assoc b (ones 6) (ones 9)) in
    let first : length e - 14 ≡ length b = omega (arith, all) in
    let past : length e + 1 ≡ length b + 15 = omega (arith, all) in
    record {
      adds =
          ap (reports longest) (sym whole)
          ∙ (reports-more longest e true
          ∙ (ap (λ x. reports longest e ++ option_to_list x) idle.answers
          ∙ rw (seven-more.none ∙ same, first, past) refl));
      ends = record {
        run = omega (arith, ap ones_at_end whole, ones_after-more 0 e true, fourteen);
        abort = length c - 6;
        mark = ap current (sym whole) ∙ (idle.leaves ∙ (seven-more.mark ∙ abort.leaves));
      };
    }

idle-goes_on : (longest : ℕ) (b : List Bool) → EndsIdle b → Adds longest b (ones 15) [] EndsIdle
idle-goes_on longest b ended =
    let more = quiet-ones longest b (ones_at_end b) 15 refl
    (λ i below. many-neither (ones_at_end b + i) (omega (arith, ended.run))) in
    record {
      adds = more.none ∙ sym (append-nil (reports longest b));
      ends = record { run = omega (arith, more.run, ended.run); abort = ended.abort; mark = more.mark ∙ ended.mark };
    }

-- ---- calls

-- the bits b end as they do after this call, or are none
abbrev EndsWith : Option Call → List Bool → Type 0
EndsWith None b = b ≡ []
EndsWith (Some Flag) b = EndsInFlag b
EndsWith (Some Idle) b = EndsIdle b
EndsWith (Some (Frame os)) b = EndsInFlag b

-- a flag, where no piece has begun
lone-flag : (longest : ℕ) (b : List Bool) → IsNeither (ones_at_end b) × IsShut b → Adds longest b flag [] EndsInFlag
lone-flag longest b rest =
    record {
      adds = flag-added longest b rest.0 ∙ ap (λ x. reports longest b ++ option_to_list x) (rest.1 _);
      ends = record { front = b; all = refl };
    }

-- a flag and a frame, where no piece has begun
flag-frame : (longest : ℕ) (b : List Bool) (os : List ℕ) → IsNeither (ones_at_end b) × IsShut b →
    CanBeRead longest (Frame os)
    → Adds longest b (flag ++ (raw_bits os ++ flag)) (sent_frame (length b + 8) os ∷ []) EndsInFlag
flag-frame longest b os rest readable =
    let opened = lone-flag longest b rest in
    let frame = frame-added longest (b ++ flag) os opened.ends readable in
    let whole = append_assoc b flag (raw_bits os ++ flag) in
    record {
      adds = ap (reports longest) (sym whole)
          ∙ (frame.adds ∙ rw (opened.adds ∙ append-nil (reports longest b), length-append b flag) refl);
      ends = subst EndsInFlag whole frame.ends;
    }

-- after a call no piece has begun, and one bit more decides nothing
at-rest : (before : Option Call) (b : List Bool) → EndsWith before b → IsNeither (ones_at_end b) × IsShut b
at-rest None b start = rw start (few-neither 0 (omega arith), λ kind. refl)
at-rest (Some Flag) b ended = (few-neither (ones_at_end b) (omega (arith, run-here b ended)), flag-shut b ended)
at-rest (Some Idle) b ended = (many-neither (ones_at_end b) ended.run, idle-shut b ended)
at-rest (Some (Frame ps)) b ended = (few-neither (ones_at_end b) (omega (arith, run-here b ended)), flag-shut b ended)

step : (longest : ℕ) (before : Option Call) (call : Call) (b : List Bool) → EndsWith before b → CanBeRead longest call →
    Adds longest b (added before call) (read_of (length b) before call) (EndsWith (Some call))
step longest before Flag b ended readable = lone-flag longest b (at-rest before b ended)
step longest None Idle b start readable = idle-added longest b (ap ones_at_end start) (at-rest None b start).1
step longest (Some Flag) Idle b ended readable = idle-added longest b (run-here b ended) (flag-shut b ended)
step longest (Some Idle) Idle b ended readable = idle-goes_on longest b ended
step longest (Some (Frame ps)) Idle b ended readable = idle-added longest b (run-here b ended) (flag-shut b ended)
step longest None (Frame os) b start readable = flag-frame longest b os (at-rest None b start) readable
step longest (Some Flag) (Frame os) b ended readable = frame-added longest b os ended readable
step longest (Some Idle) (Frame os) b ended readable = flag-frame longest b os (at-rest (Some Idle) b ended) readable
step longest (Some (Frame ps)) (Frame os) b ended readable = frame-added longest b os ended readable

back : (longest : ℕ) (before : Option Call) (calls : List Call) (b : List Bool) → EndsWith before b →
    All (CanBeRead longest) calls
    → reports longest (b ++ line_behind before calls) ≡ reports longest b ++ read_behind (length b) before calls
back longest before [] b ended readable =
    ap (reports longest) (append-nil b) ∙ sym (append-nil (reports longest b))
back longest before (call ∷ calls) b ended readable =
    let one = step longest before call b ended (All-head (CanBeRead longest) call calls readable) in
    let c = added before call in
    let more = back longest (Some call) calls (b ++ c) one.ends (All-tail (CanBeRead longest) call calls readable) in
    ap (reports longest) (sym (append_assoc b c (line_behind (Some call) calls)))
    ∙ (more ∙ rw (one.adds, length-append b c) (append_assoc (reports longest b) (read_of (length b) before call) _))

pub line-is-read-back : LineIsReadBack
line-is-read-back longest calls readable = back longest None calls [] refl readable
