-- What is seen after a cut.
use Rattle.std.proofs.Common.{◌≡◌, ℕ, ◌+◌, Bool, true, false, List, [], ◌∷◌, ◌++◌, length, map, Option, None}
use Rattle.std.proofs.Common.{option_map, refl, sym, ap, ◌∙◌, append_assoc, arith}
use Rattle.std.proofs.lemmas.List.{append-nil, map-append}
use Rattle.bus_line.specs.Mark.{flag}
use Rattle.bus_line.specs.Report.{Report, moved}
use Rattle.bus_line.specs.Due.{reports, placed}
use Rattle.bus_line.specs.Suffix.{CutAtFlag}
use Rattle.bus_dictionary.specs.Entry.{FrameType}
use Rattle.bus_line.specs.LineReport.{LineReport, line_report, of_line}
use Rattle.bus_pairing.specs.Talk.{talk, is_idle_kind, begins, verdict, pending, standing_of}
use Rattle.bus_pairing.specs.Seen.{SeenReport, seen, seen_of, decided, is_stray}
use Rattle.bus_watch.specs.Cut.{CutLosesNothing, CutLosesVerdict, FlagLosesNothing}
use Rattle.bus_pairing.specs.declared.verdict.Verdict.{Verdict}
use Rattle.bus_pairing.proofs.SeenLemmas.{seen-more}
use Rattle.bus_pairing.proofs.TalkLemmas.{pending-idle, pending-talk, decided-idle, decided-talk}

both-cons : {A : Type 0} {x y : A} {xs ys : List A} → x ≡ y → xs ≡ ys → x ∷ xs ≡ y ∷ ys
both-cons heads tails = rw (heads, tails) refl

-- what is seen of reports after others
abbrev behind : List FrameType → List LineReport → List LineReport → List SeenReport
behind d before [] = []
behind d before (h ∷ hs) = seen_of d before h ∷ behind d (before ++ h ∷ []) hs

seen-behind : (d : List FrameType) (before hs : List LineReport) →
    seen d (before ++ hs) ≡ seen d before ++ behind d before hs
seen-behind d before [] = ap (seen d) (append-nil before) ∙ sym (append-nil (seen d before))
seen-behind d before (h ∷ hs) =
    ap (seen d) (sym (append_assoc before (h ∷ []) hs))
    ∙ seen-behind d (before ++ h ∷ []) hs
    ∙ ap (λ (ss : List SeenReport). ss ++ behind d (before ++ h ∷ []) hs) (seen-more d before h)
    ∙ append_assoc (seen d before) (seen_of d before h ∷ []) (behind d (before ++ h ∷ []) hs)

-- one report, by the verdict that it decides
abbrev with_verdict : List FrameType → LineReport → Option Verdict → SeenReport
with_verdict d h v = record {
  line = h.line;
  report = h.report;
  standing = standing_of d h.report.kind;
  verdict = v;
  stray = is_stray (standing_of d h.report.kind) v;
}

-- only the command that waits counts of the reports before
decided-alike : (d : List FrameType) (a c : List LineReport) (h : LineReport) → pending d a ≡ pending d c →
    decided d a h ≡ decided d c h
decided-alike d a c h same_pending = step (is_idle_kind h.report.kind) refl
  where
    step : (b : Bool) → is_idle_kind h.report.kind ≡ b → decided d a h ≡ decided d c h
    step true kind_is = decided-idle d a h kind_is ∙ sym (decided-idle d c h kind_is)
    step false kind_is =
        decided-talk d a h kind_is ∙ ap (option_map (verdict d (begins d h))) same_pending
        ∙ sym (decided-talk d c h kind_is)

pending-alike : (d : List FrameType) (a c : List LineReport) (h : LineReport) → pending d a ≡ pending d c →
    pending d (a ++ h ∷ []) ≡ pending d (c ++ h ∷ [])
pending-alike d a c h same_pending = step (is_idle_kind h.report.kind) refl
  where
    step : (b : Bool) → is_idle_kind h.report.kind ≡ b → pending d (a ++ h ∷ []) ≡ pending d (c ++ h ∷ [])
    step true kind_is = pending-idle d a h kind_is ∙ same_pending ∙ sym (pending-idle d c h kind_is)
    step false kind_is = pending-talk d a h kind_is ∙ sym (pending-talk d c h kind_is)

behind-alike : (d : List FrameType) (a c hs : List LineReport) → pending d a ≡ pending d c → behind d a hs ≡ behind d c
    hs
behind-alike d a c [] same_pending = refl
behind-alike d a c (h ∷ hs) same_pending =
    both-cons (ap (with_verdict d h) (decided-alike d a c h same_pending))
    (behind-alike d (a ++ h ∷ []) (c ++ h ∷ []) hs (pending-alike d a c h same_pending))

pub loses-nothing : CutLosesNothing
loses-nothing d before hs none_waits =
    seen-behind d before hs
    ∙ ap (λ (ss : List SeenReport). seen d before ++ ss)
    (behind-alike d before [] hs none_waits ∙ sym (seen-behind d [] hs))

behind-append : (d : List FrameType) (before xs ys : List LineReport) →
    behind d before (xs ++ ys) ≡ behind d before xs ++ behind d (before ++ xs) ys
behind-append d before [] ys = ap (λ (a : List LineReport). behind d a ys) (sym (append-nil before))
behind-append d before (x ∷ xs) ys =
    ap (λ (ss : List SeenReport). seen_of d before x ∷ ss)
    (behind-append d (before ++ x ∷ []) xs ys
    ∙ ap (λ (a : List LineReport). behind d (before ++ x ∷ []) xs ++ behind d a ys) (append_assoc before (x ∷ []) xs))

-- where all are idle lines, so is the first, and the others are
idle-first : (h : LineReport) (hs : List LineReport) → talk (h ∷ hs) ≡ [] → (is_idle_kind h.report.kind ≡ true)
    × (talk hs ≡ [])
idle-first h hs all_idle = step (is_idle_kind h.report.kind) refl
  where
    step : (b : Bool) → is_idle_kind h.report.kind ≡ b → (is_idle_kind h.report.kind ≡ true) × (talk hs ≡ [])
    step true kind_is = (kind_is, rw kind_is at all_idle)
    step false kind_is = absurd (omega (arith, ap (length {A = LineReport}) (rw kind_is at all_idle)))

behind-idles : (d : List FrameType) (a c hs : List LineReport) → talk hs ≡ [] → behind d a hs ≡ behind d c hs
behind-idles d a c [] all_idle = refl
behind-idles d a c (h ∷ hs) all_idle =
    let parts = idle-first h hs all_idle in
    both-cons (ap (with_verdict d h) (decided-idle d a h parts.0 ∙ sym (decided-idle d c h parts.0)))
    (behind-idles d (a ++ h ∷ []) (c ++ h ∷ []) hs parts.1)

pending-idles : (d : List FrameType) (before hs : List LineReport) → talk hs ≡ [] →
    pending d (before ++ hs) ≡ pending d before
pending-idles d before [] all_idle = ap (pending d) (append-nil before)
pending-idles d before (h ∷ hs) all_idle =
    let parts = idle-first h hs all_idle in
    ap (pending d) (sym (append_assoc before (h ∷ []) hs))
    ∙ pending-idles d (before ++ h ∷ []) hs parts.1
    ∙ pending-idle d before h parts.0

pub loses-verdict : CutLosesVerdict
loses-verdict d before idles rest h all_idle talks =
    let same = behind-alike d (idles ++ h ∷ []) ((before ++ idles) ++ h ∷ []) rest
    (pending-talk d idles h talks ∙ sym (pending-talk d (before ++ idles) h talks)) in
    let none : pending d idles ≡ None = pending-idles d [] idles all_idle in
    record {
      others = behind d ((before ++ idles) ++ h ∷ []) rest;
      whole = seen-behind d before (idles ++ h ∷ rest)
          ∙ ap (λ (ss : List SeenReport). seen d before ++ ss)
          (behind-append d before idles (h ∷ rest)
          ∙ ap (λ (ss : List SeenReport). ss ++ behind d (before ++ idles) (h ∷ rest))
          (behind-idles d before [] idles all_idle ∙ sym (seen-behind d [] idles)));
      alone = seen-behind d [] (idles ++ h ∷ rest)
          ∙ behind-append d [] idles (h ∷ rest)
          ∙ ap (λ (ss : List SeenReport). ss ++ seen_of d idles h ∷ behind d (idles ++ h ∷ []) rest)
          (sym (seen-behind d [] idles))
          ∙ ap (λ (ss : List SeenReport). seen d idles ++ seen_of d idles h ∷ ss) same;
      verdict = decided-talk d (before ++ idles) h talks
          ∙ ap (option_map (verdict d (begins d h))) (pending-idles d before idles all_idle);
      none = decided-talk d idles h talks ∙ ap (option_map (verdict d (begins d h))) none;
    }

moved-twice : (m n : ℕ) (rs : List Report) → map (moved m) (map (moved n) rs) ≡ map (moved (m + n)) rs
moved-twice m n [] = refl
moved-twice m n (r ∷ rs) =
    let first : m + (n + r.first) ≡ m + n + r.first = omega arith in
    let past : m + (n + r.past) ≡ m + n + r.past = omega arith in
    both-cons (rw (first, past) refl) (moved-twice m n rs)

placed-cut : CutAtFlag → (longest origin : ℕ) (u t : List Bool) →
    of_line (placed origin longest ((u ++ flag) ++ t))
    ≡ of_line (placed origin longest (u ++ flag)) ++ of_line (placed (origin + length u) longest (flag ++ t))
placed-cut cut longest origin u t =
    ap (λ (rs : List Report). of_line (map (moved origin) rs)) (cut longest u t)
    ∙ ap of_line (map-append (moved origin) (reports longest (u ++ flag)) (placed (length u) longest (flag ++ t)))
    ∙ map-append (line_report None) (placed origin longest (u ++ flag))
    (map (moved origin) (placed (length u) longest (flag ++ t)))
    ∙ ap (λ (rs : List Report). of_line (placed origin longest (u ++ flag)) ++ of_line rs)
    (moved-twice origin (length u) (reports longest (flag ++ t)))

pub flag-loses-nothing : CutAtFlag → FlagLosesNothing
flag-loses-nothing cut d longest origin u t none_waits =
    ap (seen d) (placed-cut cut longest origin u t)
    ∙ loses-nothing d (of_line (placed origin longest (u ++ flag)))
    (of_line (placed (origin + length u) longest (flag ++ t))) none_waits
