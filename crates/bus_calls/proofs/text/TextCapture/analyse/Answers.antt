use Rattle.std.proofs.Common.{◌+◌, ℕ, List, ◌++◌, take, get_or, refl, sym, true, subst, arith, append-nil}
use Rattle.std.proofs.Common.{length-append}
use Rattle.std.proofs.lemmas.Result.{err_from_is_err_and}
use Rattle.std.proofs.lemmas.List.{take_all}
use Rattle.bus_calls.specs.Internal.Sessions.{OctetsAfter}
use Rattle.bus_calls.proofs.WatchingLemmas.{same-self, same-both, item-next}
use Rattle.bus_calls.proofs.CapturesLemmas.{first-stop}
use Rattle.bus_formats.proofs.GatherLemmas.{octets-next}
use Rattle.bus_calls.proofs.SessionsTextLemmas.{octets-before, none-taken}
use Rattle.bus_calls.proofs.text.TextCapture.analyse.Goals as goal

pub loop-taken-init : goal.loop-taken-init
loop-taken-init g c = record {
  sound = c.requires.sound;
  same = same-self g.T.CaptureKind.kind c.args.run.now;
  front = λ start xs followed. subst
      (OctetsAfter g.T.CaptureKind.kind start (g.W.Write.contents c.args.w.now) c.args.run.now)
      (sym (append-nil xs)) (record { clean = followed.clean; bits = followed.bits });
}

pub returns-in_err-many-clause-taken : goal.returns-in_err-many-clause-taken
returns-in_err-many-clause-taken g c =
    let failed = err_from_is_err_and c.from_residual.result c.from_residual.ensures.1 in
    rw (failed.1, failed.2) (λ start xs followed.
    let os = c.args.octets.now in
    let i = c.loop-taken.taken in
    let stops = c.in_err-many.ensures.taken start (xs ++ take i os) (c.loop-taken.invariant.front start xs followed) in
    first-stop c.laws.ensures true start _ c.analyse_text.new.run xs os (i + stops.0) c.in_err-many.field-0.0
    (octets-next xs os i stops.0) stops.2)

pub returns-in_err-many-clause-same : goal.returns-in_err-many-clause-same
returns-in_err-many-clause-same g c = same-both c.loop-taken.invariant.same c.analyse_text.ensures.same

pub loop-taken-preserved-then-many-gt0 : goal.loop-taken-preserved-then-many-gt0
loop-taken-preserved-then-many-gt0 g c = record {
  sound = c.analyse_text.ensures.sound;
  same = same-both c.loop-taken.invariant.same c.analyse_text.ensures.same;
  front = λ start xs followed.
      let os = c.args.octets.now in
      let i = c.loop-taken.taken in
      subst (OctetsAfter g.T.CaptureKind.kind start (g.W.Write.contents c.analyse_text.new.w) c.analyse_text.new.run)
      (octets-next xs os i c.in_ok-many.many)
      (c.in_ok-many.ensures.taken start (xs ++ take i os) (c.loop-taken.invariant.front start xs followed));
}

pub returns-in_err-analyse_octet-clause-taken : goal.returns-in_err-analyse_octet-clause-taken
returns-in_err-analyse_octet-clause-taken g c =
    let failed = err_from_is_err_and c.from_residual-in_err-analyse_octet.result
    c.from_residual-in_err-analyse_octet.ensures.1 in
    rw (failed.1, failed.2) (λ start xs followed.
    let os = c.args.octets.now in
    let i = c.loop-taken.taken in
    let front = xs ++ take i os in
    first-stop c.laws.ensures true start _ c.analyse_octet.new.run xs os (i + 1) c.in_err-analyse_octet.field-0.0
    (item-next xs os i (get_or os i 0) 0 c.loop-taken-test.true refl)
    (c.in_err-analyse_octet.ensures.taken start front
    (omega (arith, followed.at, octets-before xs os i c.loop-taken-test.true))
    (none-taken front _ c.in_ok-many.many (omega (arith, c.if-many-gt0.false))
    (c.in_ok-many.ensures.taken start front (c.loop-taken.invariant.front start xs followed)))))

pub returns-in_err-analyse_octet-clause-same : goal.returns-in_err-analyse_octet-clause-same
returns-in_err-analyse_octet-clause-same g c =
    same-both (same-both c.loop-taken.invariant.same c.analyse_text.ensures.same) c.analyse_octet.ensures.same

pub loop-taken-preserved : goal.loop-taken-preserved
loop-taken-preserved g c = record {
  sound = c.analyse_octet.ensures.sound;
  same = same-both (same-both c.loop-taken.invariant.same c.analyse_text.ensures.same) c.analyse_octet.ensures.same;
  front = λ start xs followed.
      let os = c.args.octets.now in
      let i = c.loop-taken.taken in
      let front = xs ++ take i os in
      subst (OctetsAfter g.T.CaptureKind.kind start (g.W.Write.contents c.analyse_octet.new.w) c.analyse_octet.new.run)
      (item-next xs os i (get_or os i 0) 0 c.loop-taken-test.true refl)
      (c.in_ok-analyse_octet.ensures.taken start front
      (omega (arith, followed.at, octets-before xs os i c.loop-taken-test.true))
      (none-taken front _ c.in_ok-many.many (omega (arith, c.if-many-gt0.false))
      (c.in_ok-many.ensures.taken start front (c.loop-taken.invariant.front start xs followed))));
}

pub returns-clause-taken : goal.returns-clause-taken
returns-clause-taken g c =
    λ start xs followed.
    let all = take_all c.loop-taken.taken c.args.octets.now (omega arith) in
    let whole =
    subst (λ (os : List ℕ). OctetsAfter g.T.CaptureKind.kind start (g.W.Write.contents c.loop-taken.w)
    c.loop-taken.run
    (xs ++ os)) all (c.loop-taken.invariant.front start xs followed) in
    record {
      at = omega (arith, followed.at, length-append xs c.args.octets.now);
      clean = whole.clean;
      bits = whole.bits;
    }

pub returns-clause-same : goal.returns-clause-same
returns-clause-same g c = c.loop-taken.invariant.same

pub returns-clause-sound : goal.returns-clause-sound
returns-clause-sound g c = c.loop-taken.invariant.sound
