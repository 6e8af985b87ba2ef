-- The steps of a session.
use Rattle.std.proofs.Common.{◌≡◌, ◌≢◌, ℕ, ◌+◌, ◌<◌, ◌≤◌, ◌==◌, true, false, List, [], ◌∷◌, ◌++◌, length, get_or, take}
use Rattle.std.proofs.Common.{drop, Option, Some, None, Result, Ok, Err, IfSome, MatchResult, inl, inr, refl, sym, ap}
use Rattle.std.proofs.Common.{◌∙◌, arith, length-append}
use Rattle.std.specs.Io.KnownBytes.{Appends, Consumes, Keeps, IsAtEnd}
use Rattle.std.specs.Io.BufRead.{strip_last}
use Rattle.std.specs.Path.{rsplit_once}
use Rattle.std.proofs.lemmas.List.{append-nil, take_all, take-append-le}
use Rattle.std.proofs.lemmas.Grind.{common_steps}
use Rattle.std.proofs.lemmas.Bool.Decides.{nat_tests}
use Rattle.bus_line.specs.Line.{Call, gain}
use Rattle.bus_line.specs.EncoderState.{EncoderState}
use Rattle.bus_line.specs.Encoding.{AfterCalls}
use Rattle.bus_calls.specs.Lines.{ended_lines, open_line}
use Rattle.bus_calls.specs.Encode.{Asked, and_then, one_asked, line_asked, line_call, text_line, asked_behind}
use Rattle.bus_calls.specs.Encode.{asked_so_far, asked_in_all, bits_text, text_behind, encode_text}
use Rattle.bus_calls.specs.Encodes.{Asks, Encodes, EncodesAll}
use Rattle.bus_calls.specs.Internal.EncodeState.{HasEncoded, EncodedAfter, EncodeHalts, Ends, EncodeFinishes}
use Rattle.bus_text.specs.declared.fault.ToolFault.{ToolFault}
use Rattle.bus_text.specs.declared.fault.ToolFault.TheVariants.{Read, ReadsLimit, Write, BadLine, FrameLength}
use Rattle.bus_text.proofs.KnownBytesLemmas.{appends_nothing, appends_both, appends_kept, part_out}
use Rattle.bus_calls.proofs.LinesLemmas.{ended-by_lf, open-by_lf, ended-by_other, open-by_other}
use Rattle.bus_calls.proofs.EncodeLemmas.{bad, is_long, long_is, short_is, nothing, then-nothing, then-clean}
use Rattle.bus_calls.proofs.EncodeLemmas.{then-fault, then-text, so_far-short, so_far-long, ended_clean, ended_calls}
use Rattle.bus_calls.proofs.EncodeLemmas.{lf-asked, asked-push, so_far-grows, in_all-is, all-grows, text-push}

pub none_takes : (start : Option (List ℕ)) (line : List ℕ) (number : ℕ) (e : EncoderState) → line ≡ [] → number ≡ 1 →
    AfterCalls e [] → EncodedAfter start start line number e 0 []
unfolding asked_so_far asked_behind ended_lines open_line rsplit_once text_behind
none_takes start line number e empty first after = record {
  here = empty;
  lines = first;
  clean = refl;
  done = record { after = after; out = appends_nothing start; count = refl };
}

-- ---- one call

pub put_encoded : {start before : Option (List ℕ)} (now : Option (List ℕ)) {e f : EncoderState} {written size : ℕ}
    {calls : List Call} (call : Call) {bytes text : List ℕ} → HasEncoded start before e written calls
    → AfterCalls f (calls ++ call ∷ []) → bytes ≡ bits_text (gain calls call) → text ≡ bytes → size ≡ length bytes →
    Appends before now text
    → HasEncoded start now f (written + size) (calls ++ call ∷ [])
put_encoded {start = start} {before = before} now {calls = calls} call encoded after is same count out =
    let more = text-push calls call in
    let here = rw (same, is) at out in
    record {
      after = after;
      out = rw more
          (appends_both start before now (encode_text calls) (bits_text (gain calls call)) encoded.out here);
      count =
          omega (
            arith,
            encoded.count,
            count,
            ap length is,
            ap length more,
            length-append (encode_text calls) (bits_text (gain calls call)),
          );
    }

pub put_halts : {start before : Option (List ℕ)} (now : Option (List ℕ)) {e : EncoderState} {written : ℕ} (sent : ℕ)
    {calls : List Call} (call : Call) {bytes text : List ℕ} → HasEncoded start before e written calls
    → bytes ≡ bits_text (gain calls call) → text ≡ bytes → sent < length text → Appends before now (take sent text)
    → (written + sent ≤ length (encode_text (calls ++ call ∷ [])))
    × Appends start now (take (written + sent) (encode_text (calls ++ call ∷ [])))
put_halts {start = start} {before = before} now {written = written} sent {calls = calls} call encoded is same few out =
    let more = text-push calls call in
    let here = rw (same, is) at out in
    let short : sent ≤ length (bits_text (gain calls call)) = omega (arith, few, ap length same, ap length is) in
    let whole : (encode_text calls ++ bits_text (gain calls call)) ++ [] ≡ encode_text (calls ++ call ∷ []) =
    append-nil (encode_text calls ++ bits_text (gain calls call)) ∙ sym more in (
      omega (
        arith,
        encoded.count,
        short,
        ap length more,
        length-append (encode_text calls) (bits_text (gain calls call)),
      ),
      rw (← whole)
          (part_out start before now (encode_text calls) (bits_text (gain calls call)) [] written sent encoded.out
          encoded.count short here),
    )

pub not_lf : (x : ℕ) → x ≢ 10 → (x == 10) ≡ false
not_lf x other = grind (arith, nat_tests)

-- ---- LF

abbrev pub behind : List Call → Asked → Asked
behind calls one = record { calls = calls ++ one.calls; fault = one.fault }

lf_is : (xs : List ℕ) (one : Asked) → (asked_so_far xs).fault ≡ None →
    one ≡ line_asked (length (ended_lines xs)) (open_line xs)
    → asked_so_far (xs ++ 10 ∷ []) ≡ behind (asked_behind 0 (ended_lines xs)).calls one
lf_is xs one clean is =
    rw (lf-asked xs, is) (then-clean (asked_behind 0 (ended_lines xs))
    (line_asked (length (ended_lines xs)) (open_line xs)) (ended_clean xs clean))

push_is : (xs : List ℕ) (one : Asked) → (asked_so_far xs).fault ≡ None →
    one ≡ line_asked (length (ended_lines xs)) (open_line xs)
    → asked_behind 0 (ended_lines (xs ++ 10 ∷ [])) ≡ behind (asked_behind 0 (ended_lines xs)).calls one
push_is xs one clean is =
    rw (ended-by_lf xs, asked-push (ended_lines xs) (open_line xs), ← lf-asked xs) (lf_is xs one clean is)

-- ---- more octets

-- a part of a text is one of more
part_more : (start now : Option (List ℕ)) (sent : ℕ) (text rest whole : List ℕ) → whole ≡ text ++ rest →
    sent ≤ length text → Appends start now (take sent text)
    → (sent ≤ length whole) × Appends start now (take sent whole)
part_more start now sent text rest whole is few out =
    let part : take sent whole ≡ take sent text = ap (take sent) is ∙ take-append-le sent text rest few in (
      omega (arith, ap length is, few, length-append text rest),
      rw part out,
    )

-- what stopped, stops with more after it
pub halts-then : (start now : Option (List ℕ)) (written : ℕ) (a c : Asked) (e : ToolFault) →
    EncodeHalts start now written a e → EncodeHalts start now written (and_then a c) e
halts-then start now written a c (BadLine n) halts =
    rw (then-fault a c (BadLine n) halts.0) halts
halts-then start now written a c (FrameLength n) halts =
    rw (then-fault a c (FrameLength n) halts.0) halts
halts-then start now written a c (Write sent) halts =
    let more = then-text a c in
    part_more start now sent (encode_text a.calls) more.0 (encode_text (and_then a c).calls) more.1 halts.0 halts.1
halts-then start now written a c _ halts = absurd halts

-- what stopped in the middle of some octets stops them all
pub middle_halts : (start now : Option (List ℕ)) (written x i : ℕ) (xs ys : List ℕ) (e : ToolFault) → i < length ys →
    x ≡ get_or ys i 0
    → EncodeHalts start now written (asked_so_far ((xs ++ take i ys) ++ x ∷ [])) e →
    EncodeHalts start now written (asked_so_far (xs ++ ys)) e
middle_halts start now written x i xs ys e inside is halts =
    let front = (xs ++ take i ys) ++ x ∷ [] in
    let whole : front ++ drop (i + 1) ys ≡ xs ++ ys = grind (arith, common_steps) in
    let more = so_far-grows front (drop (i + 1) ys) in
    rw (← whole, more.1) (halts-then start now written (asked_so_far front) more.0 e halts)

-- ---- the end of the reading

pub halts_finishes : (reads : ℕ) (after start now : Option (List ℕ)) (written : ℕ) (xs : List ℕ) (a : Asked)
    (e : ToolFault) → Asks after xs a → EncodeHalts start now written a e
    → EncodeFinishes reads after start now written xs (Err e)
halts_finishes reads after start now written xs a Read asks halts = absurd halts
halts_finishes reads after start now written xs a ReadsLimit asks halts = absurd halts
halts_finishes reads after start now written xs a _ asks halts = (a, asks, halts)

-- ---- octets that were taken, and what comes after them

module _ {start now : Option (List ℕ)} {line : List ℕ} {number : ℕ} {e : EncoderState} {written : ℕ} {xs : List ℕ}
    (taken : EncodedAfter start now line number e written xs) where
  -- an octet that is not LF
  other_takes : (new : List ℕ) (x : ℕ) → (x == 10) ≡ false → new ≡ line ++ x ∷ [] → length (strip_last 13 new) ≤ 600
      → EncodedAfter start now new number e written (xs ++ x ∷ [])
  other_takes new x other is fits =
      let ended = ended-by_other xs x other in
      let here : new ≡ open_line (xs ++ x ∷ []) =
      is ∙ (ap (λ (l : List ℕ). l ++ x ∷ []) taken.here ∙ sym (open-by_other xs x other)) in
      let short : is_long (open_line (xs ++ x ∷ [])) ≡ false = ap is_long (sym here) ∙ short_is new fits in
      record {
        here = here;
        lines = rw ended taken.lines;
        clean = rw (so_far-short (xs ++ x ∷ []) short, ended) (ended_clean xs taken.clean);
        done = rw ended taken.done;
      }

  long_halts : (x : ℕ) (fault : ToolFault) → (x == 10) ≡ false → fault ≡ BadLine number
      → 600 < length (strip_last 13 (line ++ x ∷ []))
      → EncodeHalts start now written (asked_so_far (xs ++ x ∷ [])) fault
  long_halts x fault other is-fault long =
      let ended = asked_behind 0 (ended_lines xs) in
      let here : line ++ x ∷ [] ≡ open_line (xs ++ x ∷ []) =
      ap (λ (l : List ℕ). l ++ x ∷ []) taken.here ∙ sym (open-by_other xs x other) in
      let is_so : is_long (open_line (xs ++ x ∷ [])) ≡ true = ap is_long (sym here) ∙ long_is (line ++ x ∷ []) long in
      let is : asked_so_far (xs ++ x ∷ [])
      ≡ record { calls = ended.calls ++ []; fault = Some (BadLine (text_line (length (ended_lines xs)))) } =
      so_far-long (xs ++ x ∷ []) is_so
      ∙ (ap (λ (ls : List (List ℕ)). and_then (asked_behind 0 ls) (bad (length ls))) (ended-by_other xs x other)
      ∙ then-clean ended (bad (length (ended_lines xs))) (ended_clean xs taken.clean)) in
      let text : ended.calls ++ [] ≡ ended.calls = append-nil ended.calls in
      rw (is-fault, is) (rw taken.lines refl, rw text taken.done.out, rw text taken.done.count)

  pub push_cases : (new : List ℕ) (same x : ℕ) (r : Result (Unit {0}) ToolFault) → (x == 10) ≡ false
      → length (strip_last 13 new) ≤ 600
      → MatchResult r (λ _. (new ≡ line ++ x ∷ []) × (same ≡ number))
      (λ fault. (fault ≡ BadLine number) × (600 < length (strip_last 13 (line ++ x ∷ []))))
      → MatchResult r (λ _. EncodedAfter start now new same e written (xs ++ x ∷ []))
      (λ fault. EncodeHalts start now written (asked_so_far (xs ++ x ∷ [])) fault)
  push_cases new same x (Ok u) other fits pushed = rw pushed.1 (other_takes new x other pushed.0 fits)
  push_cases new same x (Err fault) other fits refused = long_halts x fault other refused.0 refused.1

  -- what the open line asks for
  one_is : one_asked (line_call number (strip_last 13 line)) ≡ line_asked (length (ended_lines xs)) (open_line xs)
  one_is = rw (taken.lines, taken.here) refl

  -- LF
  pub lf_takes : {later : Option (List ℕ)} {new : List ℕ} {next : ℕ} {f : EncoderState} {more : ℕ}
      → Ends start later f more (asked_behind 0 (ended_lines xs)).calls
      (one_asked (line_call number (strip_last 13 line))) (Ok tt) → new ≡ [] → next ≡ number + 1
      → EncodedAfter start later new next f more (xs ++ 10 ∷ [])
  lf_takes ends empty is =
      let one = one_asked (line_call number (strip_last 13 line)) in
      let count : length (ended_lines (xs ++ 10 ∷ [])) ≡ length (ended_lines xs) + 1 =
      ap length (ended-by_lf xs) ∙ length-append (ended_lines xs) (open_line xs ∷ []) in
      record {
        here = empty ∙ sym (open-by_lf xs);
        lines = omega (arith, is, taken.lines, count);
        clean = rw (lf_is xs one taken.clean one_is) ends.0;
        done = rw (push_is xs one taken.clean one_is) ends.1;
      }

  pub lf_halts : (later : Option (List ℕ)) (f : EncoderState) (more : ℕ) (fault : ToolFault)
      → Ends start later f more (asked_behind 0 (ended_lines xs)).calls
      (one_asked (line_call number (strip_last 13 line))) (Err fault)
      → EncodeHalts start later more (asked_so_far (xs ++ 10 ∷ [])) fault
  lf_halts later f more fault ends =
      rw (lf_is xs (one_asked (line_call number (strip_last 13 line))) taken.clean one_is) ends

  -- the end of the input
  pub end_finishes : (reads : ℕ) (after later : Option (List ℕ)) (f : EncoderState) (more : ℕ)
      (r : Result (Unit {0}) ToolFault) → IsAtEnd after
      → Ends start later f more (asked_behind 0 (ended_lines xs)).calls
      (one_asked (line_call number (strip_last 13 line))) r → EncodeFinishes reads after start later more xs r
  end_finishes reads after later f more r at ends = cases r ends
    where
      one : Asked
      one = one_asked (line_call number (strip_last 13 line))

      is : asked_in_all xs ≡ behind (asked_behind 0 (ended_lines xs)).calls one
      is = in_all-is xs ∙ (sym (lf-asked xs) ∙ lf_is xs one taken.clean one_is)

      cases : (r : Result (Unit {0}) ToolFault) → Ends start later f more (asked_behind 0 (ended_lines xs)).calls one r
          → EncodeFinishes reads after start later more xs r
      cases (Ok u) ended = (at, rw is ended.0, rw is ended.1.out, rw is ended.1.count)
      cases (Err fault) ended =
          halts_finishes reads after start later more xs (asked_in_all xs) fault (inr (at, refl)) (rw is ended)

  -- no fault in the octets so far
  pub clean_so_far : ((asked_so_far xs).fault ≡ None) × Appends start now (encode_text (asked_so_far xs).calls)
      × (written ≡ length (encode_text (asked_so_far xs).calls))
  clean_so_far =
      let calls = ended_calls xs taken.clean in (taken.clean, rw calls taken.done.out, rw calls taken.done.count)

-- a flush that fails kept all of the text that went out
fails : (reads : ℕ) (after start now then : Option (List ℕ)) (written : ℕ) (xs : List ℕ) (a : Asked) → Asks after xs a
    → written ≡ length (encode_text a.calls) → Appends start now (encode_text a.calls) → Keeps now then
    → Encodes reads after start then xs (Err (Write written))
fails reads after start now then written xs a asks count out kept =
    let all = take_all written (encode_text a.calls) (omega (arith, count)) in
    (a, asks, omega (arith, count), rw all (appends_kept start now then (encode_text a.calls) out kept))

pub flush_fails : (reads : ℕ) (after start now then : Option (List ℕ)) (written : ℕ) (xs : List ℕ)
    (r : Result (Unit {0}) ToolFault) → ((n : ℕ) → r ≡ Err (Write n) → ⊥) → Keeps now then
    → EncodeFinishes reads after start now written xs r → Encodes reads after start then xs (Err (Write written))
flush_fails reads after start now then written xs (Ok u) uncut kept ends =
    fails reads after start now then written xs (asked_in_all xs) (inr (ends.0, refl)) ends.3 ends.2 kept
flush_fails reads after start now then written xs (Err Read) uncut kept ends =
    fails reads after start now then written xs (asked_so_far xs) (inl refl) ends.2 ends.1 kept
flush_fails reads after start now then written xs (Err ReadsLimit) uncut kept ends =
    fails reads after start now then written xs (asked_so_far xs) (inl refl) ends.3 ends.2 kept
flush_fails reads after start now then written xs (Err (BadLine n)) uncut kept ends =
    fails reads after start now then written xs ends.0 ends.1 ends.2.2 ends.2.1 kept
flush_fails reads after start now then written xs (Err (FrameLength n)) uncut kept ends =
    fails reads after start now then written xs ends.0 ends.1 ends.2.2 ends.2.1 kept
flush_fails reads after start now then written xs (Err (Write n)) uncut kept ends = absurd (uncut n refl)
flush_fails reads after start now then written xs (Err _) uncut kept ends = absurd ends.2

-- ---- from what a call read to all that its reader had

front_is : (all xs ys : List ℕ) → all ≡ xs ++ ys → take (length xs) all ≡ xs
front_is all xs ys is = grind (arith, common_steps)

-- all octets ask for what those asked for that were read, and more
asks_all : (all xs ys : List ℕ) (a : Asked) → all ≡ xs ++ ys → Asks (Some ys) xs a →
    (c : Asked) × (asked_in_all all ≡ and_then a c)
asks_all all xs ys a split (inl is) = let more = all-grows xs ys in (more.0, rw (split, is) more.1)
asks_all all xs ys a split (inr is) =
    let same : all ≡ xs = split ∙ (ap (λ (l : List ℕ). xs ++ l) is.0 ∙ append-nil xs) in
    (nothing, ap asked_in_all same ∙ (sym is.1 ∙ sym (then-nothing a)))

fault_at : (all xs ys : List ℕ) (start now : Option (List ℕ)) (a : Asked) (f : ToolFault) → all ≡ xs ++ ys →
    Asks (Some ys) xs a → a.fault ≡ Some f → Appends start now (encode_text a.calls)
    → ((asked_in_all all).fault ≡ Some f) × Appends start now (encode_text (asked_in_all all).calls)
fault_at all xs ys start now a f split asks is-fault out =
    let more = asks_all all xs ys a split asks in
    let same : asked_in_all all ≡ a = more.1 ∙ then-fault a more.0 f is-fault in
    (rw same is-fault, rw same out)

short_at : (all xs ys : List ℕ) (start now : Option (List ℕ)) → all ≡ xs ++ ys → (asked_so_far xs).fault ≡ None →
    Appends start now (encode_text (asked_so_far xs).calls)
    → (k : ℕ) × ((asked_so_far (take k all)).fault ≡ None)
    × Appends start now (encode_text (asked_so_far (take k all)).calls)
short_at all xs ys start now split clean out =
    let front = front_is all xs ys split in (length xs, rw front clean, rw front out)

written_at : (all xs ys : List ℕ) (start now : Option (List ℕ)) (a : Asked) (written : ℕ) → all ≡ xs ++ ys →
    Asks (Some ys) xs a → written ≤ length (encode_text a.calls)
    → Appends start now (take written (encode_text a.calls)) → (written ≤ length (encode_text (asked_in_all all).calls))
    × Appends start now (take written (encode_text (asked_in_all all).calls))
written_at all xs ys start now a written split asks few out =
    let more = asks_all all xs ys a split asks in
    let text = then-text a more.0 in
    part_more start now written (encode_text a.calls) text.0 (encode_text (asked_in_all all).calls)
    (ap (λ (z : Asked). encode_text z.calls) more.1 ∙ text.1) few out

encodes_at : (reads : ℕ) (all xs ys : List ℕ) (start now : Option (List ℕ)) (r : Result (Unit {0}) ToolFault) →
    all ≡ xs ++ ys → Encodes reads (Some ys) start now xs r → EncodesAll start now all r
encodes_at reads all xs ys start now (Ok u) split encodes =
    let same : xs ≡ all = sym (append-nil xs) ∙ ap (λ (l : List ℕ). xs ++ l) (sym encodes.0) ∙ sym split in
    (rw (← same) encodes.1, rw (← same) encodes.2)
encodes_at reads all xs ys start now (Err (BadLine n)) split encodes =
    fault_at all xs ys start now encodes.0 (BadLine n) split encodes.1 encodes.2 encodes.3
encodes_at reads all xs ys start now (Err (FrameLength n)) split encodes =
    fault_at all xs ys start now encodes.0 (FrameLength n) split encodes.1 encodes.2 encodes.3
encodes_at reads all xs ys start now (Err Read) split encodes =
    short_at all xs ys start now split encodes.0 encodes.1
encodes_at reads all xs ys start now (Err ReadsLimit) split encodes =
    short_at all xs ys start now split encodes.1 encodes.2
encodes_at reads all xs ys start now (Err (Write written)) split encodes =
    written_at all xs ys start now encodes.0 written split encodes.1 encodes.2 encodes.3
encodes_at reads all xs ys start now (Err _) split encodes = absurd encodes

-- what a call answered is what all octets of a reader that tells give
pub known_encodes : (reads : ℕ) (before after start now : Option (List ℕ)) (xs : List ℕ)
    (r : Result (Unit {0}) ToolFault) → Consumes before after xs
    → Encodes reads after start now xs r → IfSome before (λ all. EncodesAll start now all r)
known_encodes reads None after start now xs r read encodes = tt
known_encodes reads (Some all) None start now xs r read encodes = absurd read
known_encodes reads (Some all) (Some ys) start now xs r read encodes =
    encodes_at reads all xs ys start now r read encodes
