use Rattle.std.proofs.Common.{ℕ, ◌+◌, List, ◌++◌, take, get_or, false, refl, sym, ap, ◌∙◌, subst, arith}
use Rattle.std.proofs.lemmas.Result.{err_from_is_err_and}
use Rattle.std.proofs.lemmas.List.{take_all}
use Rattle.bus_formats.specs.Capture.{CaptureOf}
use Rattle.bus_calls.specs.Captures.{fed_by}
use Rattle.bus_calls.specs.Internal.Sessions.{BodyAfter, IsReadAs}
use Rattle.bus_calls.specs.Internal.Watching.{FeedAfter}
use Rattle.bus_calls.proofs.WatchingLemmas.{same-both, same-self, item-next}
use Rattle.bus_calls.proofs.CapturesLemmas.{fault-in, first-stop}
use Rattle.bus_calls.proofs.SessionsPackedLemmas.{faulty-stops, none-read}
use Rattle.bus_formats.proofs.GatherLemmas.{octets-next}
use Rattle.bus_calls.proofs.packed.PackedCapture.analyse.Goals as goal

pub returns-in_err-many-clause-taken : goal.returns-in_err-many-clause-taken
returns-in_err-many-clause-taken g c =
    let failed = err_from_is_err_and c.from_residual-in_err-many.result c.from_residual-in_err-many.ensures.1 in
    rw (failed.1, failed.2) (λ start xs followed.
    let os = c.args.octets.now in
    let i = c.loop-taken.taken in
    let stops = c.in_err-many.ensures.taken start (xs ++ take i os) (c.loop-taken.invariant.front start xs followed) in
    first-stop c.laws.ensures false start _ c.analyse_packed.new.run xs os (i + stops.0) c.in_err-many.field-0.0
    (octets-next xs os i stops.0) stops.1)

pub returns-in_err-many-clause-same : goal.returns-in_err-many-clause-same
returns-in_err-many-clause-same g c = same-both c.loop-taken.invariant.same c.analyse_packed.ensures.same

pub loop-taken-preserved-then-many-gt0 : goal.loop-taken-preserved-then-many-gt0
loop-taken-preserved-then-many-gt0 g c = record {
  within = omega (arith, c.in_ok-many.ensures.enough);
  sound = c.analyse_packed.ensures.sound;
  same = same-both c.loop-taken.invariant.same c.analyse_packed.ensures.same;
  front = λ start xs followed.
      let os = c.args.octets.now in
      let i = c.loop-taken.taken in
      subst (BodyAfter g.T.CaptureKind.kind start (g.W.Write.contents c.analyse_packed.new.w)
      c.analyse_packed.new.body c.analyse_packed.new.run)
      (octets-next xs os i c.in_ok-many.many)
      (c.in_ok-many.ensures.taken start (xs ++ take i os) (c.loop-taken.invariant.front start xs followed));
}

pub returns-in_err-decode_octet-clause-taken : goal.returns-in_err-decode_octet-clause-taken
returns-in_err-decode_octet-clause-taken g c =
    let failed = err_from_is_err_and c.from_residual-in_err-decode_octet.result
    c.from_residual-in_err-decode_octet.ensures.1 in
    rw (failed.1, failed.2) (λ start xs followed.
    let os = c.args.octets.now in
    let i = c.loop-taken.taken in
    let front = xs ++ take i os in
    first-stop c.laws.ensures false start _ c.decode_octet.new.run xs os (i + 1) c.in_err-decode_octet.field-0.0
    (item-next xs os i (get_or os i 0) 0 c.loop-taken-test.true refl)
    (c.in_err-decode_octet.ensures.taken start front
    (none-read front _ c.in_ok-many.many (omega (arith, c.if-many-gt0.false))
    (c.in_ok-many.ensures.taken start front (c.loop-taken.invariant.front start xs followed)))))

pub returns-in_err-decode_octet-clause-same : goal.returns-in_err-decode_octet-clause-same
returns-in_err-decode_octet-clause-same g c =
    same-both (same-both c.loop-taken.invariant.same c.analyse_packed.ensures.same) c.decode_octet.ensures.same

pub loop-taken-preserved : goal.loop-taken-preserved
loop-taken-preserved g c = record {
  within = omega (arith, c.loop-taken-test.true);
  sound = c.decode_octet.ensures.sound;
  same = same-both (same-both c.loop-taken.invariant.same c.analyse_packed.ensures.same) c.decode_octet.ensures.same;
  front = λ start xs followed.
      let os = c.args.octets.now in
      let i = c.loop-taken.taken in
      let front = xs ++ take i os in
      subst (BodyAfter g.T.CaptureKind.kind start (g.W.Write.contents c.decode_octet.new.w) c.decode_octet.new.body
      c.decode_octet.new.run)
      (item-next xs os i (get_or os i 0) 0 c.loop-taken-test.true refl)
      (c.in_ok-decode_octet.ensures.taken start front
      (none-read front _ c.in_ok-many.many (omega (arith, c.if-many-gt0.false))
      (c.in_ok-many.ensures.taken start front (c.loop-taken.invariant.front start xs followed))));
}

pub returns-in_err-taken-clause-taken : goal.returns-in_err-taken-clause-taken
returns-in_err-taken-clause-taken g c =
    let failed = err_from_is_err_and c.from_residual.result c.from_residual.ensures.1 in
    rw (failed.1, failed.2) (λ start xs followed.
    let kind = g.T.CaptureKind.kind in
    let run = c.args.run.now in
    let rest = kind.rest run.analyser in
    let b = (kind.form.packed xs).bits in
    let refused = c.in_err-taken.ensures.read xs followed.read in
    faulty-stops kind start _ run _ c.in_err-taken.field-0.0
    (fault-in kind c.laws.ensures start _ run (fed_by kind.form rest (kind.form.packed (xs ++ c.args.octets.now)))
    (kind.form.fed rest b) refused.0 c.in_err-taken.field-0.0 c.requires.sound refused.1
    (ap (λ (d : CaptureOf g.row.T-Symbol.Denot). kind.form.fed rest d.bits) refused.2)
    (ap (λ (d : CaptureOf g.row.T-Symbol.Denot). d.fault) refused.2) followed.bits.bits))

pub loop-taken-init : goal.loop-taken-init
loop-taken-init g c = record {
  within = c.in_ok-taken.ensures.within;
  sound = c.requires.sound;
  same = same-self g.T.CaptureKind.kind c.args.run.now;
  front = λ start xs followed.
      let kind = g.T.CaptureKind.kind in
      let read = c.in_ok-taken.ensures.read xs followed.read in
      let front = xs ++ take c.in_ok-taken.taken c.args.octets.now in
      record {
        read = subst (λ b. IsReadAs kind c.fill_head.new.self.head.items b front)
            (sym c.take.ensures.value ∙ c.in-Some.is) read.0;
        bits = subst (FeedAfter kind start (g.W.Write.contents c.args.w.now) c.args.run.now) (sym read.1) followed.bits;
      };
}

pub returns-clause-taken : goal.returns-clause-taken
returns-clause-taken g c = λ start xs followed.
    let all = take_all c.loop-taken.taken c.args.octets.now (omega (arith, c.loop-taken-test.false)) in
    let front = c.loop-taken.invariant.front start xs followed in
    let whole = subst (λ (os : List ℕ). BodyAfter g.T.CaptureKind.kind start (g.W.Write.contents c.loop-taken.w)
    c.loop-taken.body c.loop-taken.run (xs ++ os)) all front in
    record { read = whole.read; bits = whole.bits }
