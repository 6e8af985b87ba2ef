-- Feeding some bits, and then more.
use Rattle.std.proofs.Common.{◌≡◌, ℕ, ◌+◌, ◌-◌, ◌<◌, ◌≤◌, Bool, List, [], ◌∷◌, ◌++◌, length, take}
use Rattle.std.proofs.Common.{Result, Ok, Err, OnOk, OnErr, true, false, refl, sym, ap, ◌∙◌, append_assoc}
use Rattle.std.proofs.Common.{append-nil, arith, length-append, subst}
use Rattle.std.specs.Result.{is_err}
use Rattle.std.proofs.lemmas.List.{take-append-le}
use Rattle.std.proofs.Math.Seq.{take-append-add}
use Rattle.bus_fcs.specs.Check.{CheckView}
use Rattle.bus_pairing.specs.Seen.{SeenReport, seen}
use Rattle.bus_line.specs.Told.{told}
use Rattle.bus_line.proofs.ToldLemmas.{told-nil, told-more}
use Rattle.bus_pairing.specs.Sink.{SinkView}
use Rattle.bus_dictionary.specs.Dictionary.{longest_of}
use Rattle.bus_watch.specs.Watch.{Watch, AdvancesWatch, seen_by}
use Rattle.bus_watch.specs.After.{AnalyserState, AdvancesAnalyser, seen_after}
use Rattle.bus_watch.specs.Laws.{joined, Runs, ended, called}
use Rattle.bus_watch.specs.Fed.{FedBy, Fed, Refused, RefusedAt}

-- a fact of an answer that is no error, and of one that is
pub at-ok : {T E : Type 0} {P : Type 0} (r : Result T E) → false ≡ is_err r → OnOk r P → P
at-ok (Ok x) ok holds = holds
at-ok (Err y) ok holds = absurd (cc)

pub at-err : {T E : Type 0} {P : Type 0} (r : Result T E) → true ≡ is_err r → OnErr r P → P
at-err (Ok x) err holds = absurd (cc)
at-err (Err y) err holds = holds

pub same-seen : {A X : Type 0} (w : Watch A X) (a c : A) (xs : List X) → w.dictionary c ≡ w.dictionary a →
    w.origin c ≡ w.origin a → seen_by w c xs ≡ seen_by w a xs
same-seen w a c xs dictionary origin = ap (λ d. seen d (w.reports (w.origin c) (longest_of d) xs)) dictionary
    ∙ ap (λ o. seen (w.dictionary a) (w.reports o (longest_of (w.dictionary a)) xs)) origin

pub leads-nil : {A X : Type 0} (w : Watch A X) (a : A) → AdvancesWatch w a [] [] a
leads-nil w a = record {
  is_after = λ b reached. subst (w.is_after a) (sym (append-nil b)) reached;
  seen = λ b _. ap (seen_by w a) (append-nil b) ∙ sym (append-nil (seen_by w a b));
  dictionary = refl;
  depth = refl;
  origin = refl;
  place = omega arith;
}

module _ {A X : Type 0} {w : Watch A X} where
  -- what is seen of more, from where some lead
  seen-on : {a b : A} {xs : List X} {ss : List SeenReport} (bs ys : List X) (ts : List SeenReport)
      → AdvancesWatch w a xs ss b →
      w.is_after a bs → seen_by w b ((bs ++ xs) ++ ys) ≡ seen_by w b (bs ++ xs) ++ ts
      → seen_by w a (bs ++ (xs ++ ys)) ≡ seen_by w a bs ++ (ss ++ ts)
  seen-on {a} {b} {xs} {ss} bs ys ts leads reached more =
      let same : (zs : List X) → seen_by w b zs ≡ seen_by w a zs =
      λ zs. same-seen w a b zs leads.dictionary leads.origin in
      ap (seen_by w a) (sym (append_assoc bs xs ys)) ∙ sym (same ((bs ++ xs) ++ ys)) ∙ (more
      ∙ (ap (λ l. l ++ ts) (same (bs ++ xs) ∙ leads.seen bs reached) ∙ append_assoc (seen_by w a bs) ss ts))

  pub leads-more : {a b c : A} {xs ys : List X} {ss ts : List SeenReport} → AdvancesWatch w a xs ss b
      → AdvancesWatch w b ys ts c →
      AdvancesWatch w a (xs ++ ys) (ss ++ ts) c
  leads-more {a} {b} {c} {xs} {ys} {ss} {ts} first next = record {
    is_after = λ bs reached. subst (w.is_after c) (append_assoc bs xs ys)
        (next.is_after (bs ++ xs) (first.is_after bs reached));
    seen = λ bs reached. seen-on bs ys ts first reached (next.seen (bs ++ xs) (first.is_after bs reached));
    dictionary = next.dictionary ∙ first.dictionary;
    depth = next.depth ∙ first.depth;
    origin = next.origin ∙ first.origin;
    place = omega (arith, length-append xs ys, first.place, next.place);
  }

  -- what is seen of all but the last of more
  pub front-more : {a b : A} {xs : List X} {ss : List SeenReport} (bs ys : List X) (ts : List SeenReport) →
      AdvancesWatch w a xs ss b → w.is_after a bs → 0 < length ys
      → seen_by w b ((bs ++ xs) ++ take (length ys - 1) ys) ≡ seen_by w b (bs ++ xs) ++ ts
      → seen_by w a (bs ++ take (length (xs ++ ys) - 1) (xs ++ ys)) ≡ seen_by w a bs ++ (ss ++ ts)
  front-more {a} {b} {xs} {ss} bs ys ts leads reached some front =
      let n = length ys - 1 in
      let count : length (xs ++ ys) - 1 ≡ length xs + n = omega (arith, length-append xs ys, some) in
      let but_last : take (length (xs ++ ys) - 1) (xs ++ ys) ≡ xs ++ take n ys =
      ap (λ k. take k (xs ++ ys)) count ∙ take-append-add xs ys n in
      ap (λ z. seen_by w a (bs ++ z)) but_last ∙ seen-on bs (take n ys) ts leads reached front

  -- calls after some
  pub runs-from : (start end : A) (pieces : List (List X)) (tolds : List (List SeenReport)) (b : List X)
      → w.is_after start b → Runs w start pieces tolds end
      → w.is_after end (b ++ joined pieces) × (seen_by w start (b ++ joined pieces) ≡ seen_by w start b ++ joined tolds)
  runs-from start _ _ _ b reached (ended a) = (
    subst (w.is_after a) (sym (append-nil b)) reached,
    ap (seen_by w a) (append-nil b) ∙ sym (append-nil (seen_by w a b)),
  )
  runs-from start end _ _ b reached (called a c e xs told pieces tolds leads runs) =
      let rest = runs-from c e pieces tolds (b ++ xs) (leads.is_after b reached) runs in (
        subst (w.is_after e) (append_assoc b xs (joined pieces)) rest.0,
        seen-on b (joined pieces) (joined tolds) leads reached rest.1,
      )

  module _ {S : Type 0} {sink : SinkView S} where
    pub fed-nil : {a : A} {s : S} → FedBy w sink a [] a s s
    fed-nil {a} {s} = record { seen = []; sees = leads-nil w a; took = told-nil (sink.taken s) }

    pub fed-more : {a b c : A} {xs ys : List X} {s t u : S} → FedBy w sink a xs b s t → FedBy w sink b ys c t u →
        FedBy w sink a (xs ++ ys) c s u
    fed-more {s = s} first next = record {
      seen = first.seen ++ next.seen;
      sees = leads-more first.sees next.sees;
      took = next.took ∙ (ap (λ z. told z next.seen) first.took ∙ told-more (sink.taken s) first.seen next.seen);
    }

-- of one line
module _ {C : Type 0} {view : CheckView C} {S : Type 0} {sink : SinkView S}
  where
    -- the sink refused what is seen at a bit
    pub refused-bit : {a c : AnalyserState C} {bit : Bool} {lost : SeenReport} {s t : S} →
        AdvancesAnalyser view a (bit ∷ []) (lost ∷ []) c → sink.taken t ≡ sink.taken s
        → Refused view sink a (bit ∷ []) c s t
    refused-bit {a} {lost = lost} {s = s} sees same = record {
      seen = [];
      lost = lost;
      some = omega arith;
      sees = sees;
      front = λ b reached. ap (seen_after a) (append-nil b) ∙ sym (append-nil (seen_after a b));
      took = same ∙ told-nil (sink.taken s);
    }

    pub refused-after : {a b c : AnalyserState C} {xs ys : List Bool} {s t u : S} → Fed view sink a xs b s t →
        Refused view sink b ys c t u → Refused view sink a (xs ++ ys) c s u
    refused-after {a} {b} {c} {xs} {ys} {s} fed next = record {
      seen = fed.seen ++ next.seen;
      lost = next.lost;
      some = omega (arith, length-append xs ys, next.some);
      sees = rw (append_assoc fed.seen next.seen (next.lost ∷ [])) (leads-more fed.sees next.sees);
      front = λ bs reached. front-more bs ys next.seen fed.sees reached next.some
          (next.front (bs ++ xs) (fed.sees.is_after bs reached));
      took = next.took ∙ (ap (λ z. told z next.seen) fed.took ∙ told-more (sink.taken s) fed.seen next.seen);
    }

    -- a refusal at some of the bits after those that were fed
    pub refused_at-after : {a b c : AnalyserState C} {xs ys : List Bool} (rest all : List Bool) {n consumed : ℕ}
        {s t u : S} → all ≡ (xs ++ ys) ++ rest → n ≡ length xs
        → Fed view sink a xs b s t → RefusedAt view sink b ys consumed c t u →
        RefusedAt view sink a all (n + consumed) c s u
    refused_at-after {xs = xs} {ys} rest all {n} {consumed} whole count fed next =
        let within : n + consumed ≤ length (xs ++ ys) = omega (arith, length-append xs ys, count, next.within) in
        let first : take (n + consumed) all ≡ xs ++ take consumed ys =
        ap (take (n + consumed)) whole
        ∙ (take-append-le (n + consumed) (xs ++ ys) rest within
        ∙ (ap (λ k. take (k + consumed) (xs ++ ys)) count ∙ take-append-add xs ys consumed)) in
        record {
          some = omega (arith, next.some);
          within = omega (arith, within, ap length whole, length-append (xs ++ ys) rest);
          refused = rw first (refused-after fed next.refused);
        }
