-- The laws of a listener that tells: reports after reports, and room for fewer.
use Rattle.std.proofs.Common.{◌≡◌, ℕ, ◌+◌, ◌≤◌, List, [], ◌++◌, length, Option, Some, None, refl, sym, ap, ◌∙◌, subst}
use Rattle.std.proofs.Common.{arith, append-nil, append_assoc, length-append}
use Rattle.bus_dictionary.specs.Entry.{FrameType}
use Rattle.bus_pairing.specs.Seen.{SeenReport}
use Rattle.bus_text.specs.Counting.{IsFew}
use Rattle.bus_text.specs.Summary.{summary_of}
use Rattle.bus_text.specs.declared.put.ShortWrite.{ShortWrite}
use Rattle.bus_calls.specs.Internal.Reporting.{HasReporterRoom, IsOut, ReportsSeen}
use Rattle.bus_calls.specs.Internal.Watching.{printed}
use Rattle.bus_calls.specs.declared.reporter.Reporter.{Reporter}
use Rattle.bus_text.proofs.ListingLemmas.{listing-append}
use Rattle.bus_text.specs.Listing.{text_of}
use Rattle.bus_text.specs.declared.printer.Printer.{Printer}
use Rattle.bus_text.specs.declared.summary.Summary.{Summary}

-- fewer are few
pub few-within : (n m : ℕ) (s : Summary) → n ≤ m → IsFew n s → IsFew m s
few-within n m s le h = record {
  frames = let x = h.frames in omega (arith, le);
  damaged = let x = h.damaged in omega (arith, le);
  overlong = let x = h.overlong in omega (arith, le);
  aborts = let x = h.aborts in omega (arith, le);
  idles = let x = h.idles in omega (arith, le);
  strays = let x = h.strays in omega (arith, le);
  answered = let x = h.answered in omega (arith, le);
  missing = let x = h.missing in omega (arith, le);
  spoilt = let x = h.spoilt in omega (arith, le);
  late = let x = h.late in omega (arith, le);
}

-- the lines of more are the lines, and more
pub printed-append : (p : Option Printer) (d : List FrameType) (xs ys : List SeenReport) →
    printed p d (xs ++ ys) ≡ printed p d xs ++ printed p d ys
printed-append None d xs ys = refl
printed-append (Some p) d xs ys = listing-append p d xs ys

-- nothing is seen, nothing is printed
pub printed-none : (p : Option Printer) (d : List FrameType) → printed p d [] ≡ []
unfolding text_of
printed-none None d = refl
printed-none (Some p) d = refl

pub reports-none : (d : List FrameType) (t : Reporter) (w : Option (List ℕ)) → ReportsSeen d t w [] t w
reports-none d t w = record {
  printer = refl;
  out = λ start text h. subst (IsOut start w t.page t.cut)
      (sym (append-nil text) ∙ ap (λ ys. text ++ ys) (sym (printed-none t.printer d))) h;
  stays = λ sent h. h;
  counted = λ all is none. is ∙ ap summary_of (sym (append-nil all));
  few = λ most h. few-within most (most + 0) t.summary (omega arith) h;
  octets = omega arith;
}

-- whether the writer was cut off
module _ (d : List FrameType) (k l m : Reporter) (u v w : Option (List ℕ)) (ss ts : List SeenReport)
    (p : ReportsSeen d k u ss l v) (q : ReportsSeen d l v ts m w) where
  not-yet : (o : Option ShortWrite) → l.cut ≡ o → m.cut ≡ None → l.cut ≡ None
  not-yet None e none = e
  not-yet (Some sent) e none = absurd (let still = q.stays sent e in cc)

  pub reports-more : ReportsSeen d k u (ss ++ ts) m w
  reports-more = record {
    printer = q.printer ∙ p.printer;
    out = λ start text h.
        let last = q.out start (text ++ printed k.printer d ss) (p.out start text h) in
        let more : (text ++ printed k.printer d ss) ++ printed l.printer d ts ≡ text ++ printed k.printer d (ss ++ ts) =
        append_assoc text (printed k.printer d ss) (printed l.printer d ts)
        ∙ ap (λ ys. text ++ ys) (ap (λ x. printed k.printer d ss ++ printed x d ts) p.printer
        ∙ sym (printed-append k.printer d ss ts)) in
        subst (IsOut start w m.page m.cut) more last;
    stays = λ sent h. q.stays sent (p.stays sent h);
    counted = λ all is none. q.counted (all ++ ss) (p.counted all is (not-yet l.cut refl none)) none
        ∙ ap summary_of (append_assoc all ss ts);
    few = λ most h. few-within (most + length ss + length ts) (most + length (ss ++ ts)) m.summary
        (omega (arith, length-append ss ts)) (q.few (most + length ss) (p.few most h));
    octets = omega (arith, length-append ss ts, p.octets, q.octets);
  }

pub has-less : (t : Reporter) (more less : ℕ) → less ≤ more → HasReporterRoom t more → HasReporterRoom t less
has-less t more less l h = ((h.0.0, h.0.1, omega (arith, h.0.2, l)), omega (arith, h.1, l))
