-- Feeding pairs of bits, and what a sink refused of what is seen at one place.
use Rattle.std.proofs.Common.{◌≡◌, ℕ, ◌+◌, ◌-◌, ◌<◌, List, [], ◌∷◌, ◌++◌, length, take, Result, Ok, Err, OnOk, OnErr}
use Rattle.std.proofs.Common.{refl, sym, ap, ◌∙◌, append_assoc, append-nil, arith, length-append, subst}
use Rattle.bus_pairing.specs.Seen.{SeenReport}
use Rattle.bus_line.specs.Told.{told}
use Rattle.bus_pairing.specs.Sink.{SinkView, SinkTook}
use Rattle.bus_watch.specs.Watch.{Watch, AdvancesWatch, seen_by}
use Rattle.bus_watch.specs.Fed.{FedBy, RefusedBy, Lacks, none, took, refused, Offered}
use Rattle.bus_pairing.proofs.SinkLemmas.{took-none, took-more}
use Rattle.bus_line.proofs.ToldLemmas.{told-nil, told-more}
use Rattle.bus_watch.proofs.FedLemmas.{leads-more, front-more}

lacks-more : {xs ys us vs : List SeenReport} {m n : ℕ} → Lacks xs us m → Lacks ys vs n →
    Lacks (xs ++ ys) (us ++ vs) (n + m)
lacks-more {ys = ys} {vs = vs} none second = subst (Lacks ys vs) (omega arith) second
lacks-more {ys = ys} {vs = vs} {m = m} {n = n} (took s ss ts _ first) second =
    took s (ss ++ ys) (ts ++ vs) (n + m) (lacks-more first second)
lacks-more {ys = ys} {vs = vs} {n = n} (refused s ss ts k first) second =
    subst (Lacks (s ∷ (ss ++ ys)) (ts ++ vs)) (omega arith)
    (refused s (ss ++ ys) (ts ++ vs) (n + k) (lacks-more first second))

lacks-none : (xs us : List SeenReport) (n : ℕ) → Lacks xs us n → n ≡ 0 → us ≡ xs
lacks-none _ _ _ none zero = refl
lacks-none _ _ n (took s ss ts _ rest) zero = ap (λ l. s ∷ l) (lacks-none ss ts n rest zero)
lacks-none _ _ _ (refused s ss ts k rest) zero = absurd (omega (arith, zero))

module _ {S : Type 0} {sink : SinkView S} where
  pub offered-more : {xs ys : List SeenReport} {m n : ℕ} {s t u : S} → Offered sink xs m s t →
      Offered sink ys n t u → Offered sink (xs ++ ys) (n + m) s u
  offered-more {s = s} first second = record {
    took_of = first.took_of ++ second.took_of;
    lacks = lacks-more first.lacks second.lacks;
    took = second.took ∙ (ap (λ z. told z second.took_of) first.took
        ∙ told-more (sink.taken s) first.took_of second.took_of);
    counts = took-more second.took_of first.counts second.counts second.took;
  }

  pub offered-none : {s : S} → Offered sink [] 0 s s
  offered-none {s = s} = record { took_of = []; lacks = none; took = told-nil (sink.taken s); counts = took-none }

  pub fed-offered : {A X : Type 0} {w : Watch A X} {a c : A} {xs : List X} {s t : S} {all : List SeenReport} →
      AdvancesWatch w a xs all c → Offered sink all 0 s t → FedBy w sink a xs c s t
  fed-offered {s = s} {all = all} sees offered = record {
    seen = all;
    sees = sees;
    took = offered.took ∙ ap (told (sink.taken s)) (lacks-none all offered.took_of 0 offered.lacks refl);
  }

  pub refused-offered : {A X : Type 0} {w : Watch A X} {n : ℕ} {a c : A} {xs : List X} {s t : S}
      {all : List SeenReport} → 0 < length xs → 0 < n → AdvancesWatch w a xs all c
      → ((b : List X) → w.is_after a b → seen_by w a (b ++ take (length xs - 1) xs) ≡ seen_by w a b) →
      Offered sink all n s t → RefusedBy w sink n a xs c s t
  refused-offered {w = w} {a = a} {all = all} some some_refused sees quiet offered = record {
    seen = [];
    at_last = all;
    of_last = offered.took_of;
    some = some;
    some_refused = some_refused;
    lacks = offered.lacks;
    sees = sees;
    front = λ b reached. quiet b reached ∙ sym (append-nil (seen_by w a b));
    took = offered.took;
  }

-- a sink's answer to the one report that it is offered
module _ {S : Type 0} (sink : SinkView S) where
  pub offered-one : {T E : Type 0} (answer : Result T E) (x : SeenReport) (s t : S)
      → OnOk answer (sink.taken t ≡ told (sink.taken s) (x ∷ [])) → OnOk answer (SinkTook sink 0 s t) →
      OnOk answer (Offered sink (x ∷ []) 0 s t)
  offered-one (Ok y) x s t more counts =
      record { took_of = x ∷ []; lacks = took x [] [] 0 none; took = more; counts = counts }
  offered-one (Err e) x s t more counts = tt

  pub offered-not : {T E : Type 0} (answer : Result T E) (x : SeenReport) (s t : S)
      → OnErr answer (sink.taken t ≡ sink.taken s) → OnErr answer (SinkTook sink 1 s t) →
      OnErr answer (Offered sink (x ∷ []) 1 s t)
  offered-not (Ok y) x s t same counts = tt
  offered-not (Err e) x s t same counts =
      record { took_of = []; lacks = refused x [] [] 0 none; took = same ∙ told-nil (sink.taken s); counts = counts }

-- a refusal after what was fed
pub refused-behind : {A X S : Type 0} {w : Watch A X} {sink : SinkView S} {n : ℕ} {a b c : A}
    {xs ys : List X} {s t u : S} → FedBy w sink a xs b s t → RefusedBy w sink n b ys c t u →
    RefusedBy w sink n a (xs ++ ys) c s u
refused-behind {sink = sink} {xs = xs} {ys = ys} {s = s} fed next = record {
  seen = fed.seen ++ next.seen;
  at_last = next.at_last;
  of_last = next.of_last;
  some = omega (arith, length-append xs ys, next.some);
  some_refused = next.some_refused;
  lacks = next.lacks;
  sees = rw (append_assoc fed.seen next.seen next.at_last) (leads-more fed.sees next.sees);
  front = λ bs reached. front-more bs ys next.seen fed.sees reached next.some
      (next.front (bs ++ xs) (fed.sees.is_after bs reached));
  took =
      next.took ∙ (ap (λ z. told z (next.seen ++ next.of_last)) fed.took
      ∙ (told-more (sink.taken s) fed.seen (next.seen ++ next.of_last)
      ∙ ap (told (sink.taken s)) (sym (append_assoc fed.seen next.seen next.of_last))));
}

pub either-way : {T E P Q R : Type 0} (answer : Result T E) → (P → R) → (Q → R) → OnOk answer P → OnErr answer Q → R
either-way (Ok x) from_ok from_err ok err = from_ok ok
either-way (Err e) from_ok from_err ok err = from_err err
