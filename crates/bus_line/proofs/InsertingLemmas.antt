-- Bits on their way out, and the raw bits of data that go on.
use Rattle.std.proofs.Common.{◌≡◌, ℕ, suc, ◌+◌, ◌*◌, ◌≤◌, ◌<◌, Bool, true, false, List, [], ◌∷◌, ◌++◌, length, take}
use Rattle.std.proofs.Common.{drop, refl, sym, ap, ◌∙◌, subst, inl, inr, arith, nat_lt, get_or, Result, Ok, Err, OnErr}
use Rattle.std.proofs.lemmas.List.{length-append, take-append-le, take-append-drop, take_more}
use Rattle.std.proofs.Math.Seq.{take-append-add}
use Rattle.std.proofs.lemmas.Bool.{cases_Bool, ltb-false}
use Rattle.bus_bits.specs.Octet.{bits_of, bits_of_octets}
use Rattle.bus_bits.proofs.OctetLemmas.{bits_of_octets-append, bits_of_octets-push}
use Rattle.bus_line.specs.Spelling.{spelling, ones}
use Rattle.bus_line.specs.Internal.Inserting.{raw_after, run_after}
use Rattle.bus_line.specs.Told.{told}
use Rattle.bus_line.specs.Internal.StuffingWriter.{Sent, Cut}
use Rattle.bus_line.specs.declared.encoder.stuffing_writer.StuffingWriter.{StuffingWriter}
use Rattle.bus_line.specs.BitSink.{BitSinkView}
use Rattle.bus_line.proofs.ToldLemmas.{told-nil, told-more}

module _ {S : Type 0} {sink : BitSinkView S} where
  pub sent-nil : {a : StuffingWriter} {s : S} → Sent sink [] a a s s
  sent-nil {a} {s} = record { took = told-nil (sink.taken s); kept = refl; written = omega arith }

  pub sent-more : {xs ys : List Bool} {a b c : StuffingWriter} {s t u : S} → Sent sink xs a b s t →
      Sent sink ys b c t u → Sent sink (xs ++ ys) a c s u
  sent-more {xs} {ys} {a} {b} {c} {s} p q = record {
    took = q.took ∙ (ap (λ z. told z ys) p.took ∙ told-more (sink.taken s) xs ys);
    kept = q.kept ∙ p.kept;
    written = omega (arith, p.written, q.written, length-append xs ys);
  }

  -- the bits in front went out, and then the sink refused one
  pub cut-behind : {xs ys : List Bool} {a b c : StuffingWriter} {s t u : S} → Sent sink xs a b s t →
      Cut sink ys b c t u → Cut sink (xs ++ ys) a c s u
  cut-behind {xs} {ys} {a} {b} {c} {s} p q = record {
    count = length xs + q.count;
    within = omega (arith, length-append xs ys, q.within);
    took =
        q.took ∙ (ap (λ z. told z (take q.count ys)) p.took
        ∙ (told-more (sink.taken s) xs (take q.count ys)
        ∙ ap (told (sink.taken s)) (sym (take-append-add xs ys q.count))));
    failed = q.failed ∙ ap (λ n. n + 1) p.kept;
    written = omega (arith, p.written, q.written);
  }

  -- more bits would have come after the one that was refused
  pub cut-before : {xs : List Bool} {a b : StuffingWriter} {s t : S} (ys : List Bool) → Cut sink xs a b s t →
      Cut sink (xs ++ ys) a b s t
  cut-before {xs} {a} {b} {s} ys q = record {
    count = q.count;
    within = omega (arith, length-append xs ys, q.within);
    took = q.took ∙ ap (told (sink.taken s)) (sym (take-append-le q.count xs ys (omega (arith, q.within))));
    failed = q.failed;
    written = q.written;
  }

-- ---- inserted zeros

pub raw-append : (k : ℕ) (d e : List Bool) → raw_after k (d ++ e) ≡ raw_after k d ++ raw_after (run_after k d) e
raw-append k [] e = refl
raw-append k (false ∷ d) e = ap (λ r. false ∷ r) (raw-append 0 d e)
raw-append k (true ∷ d) e = elim (cases_Bool (nat_lt k 4)) [
  | inl less ↦ rw less (ap (λ r. true ∷ r) (raw-append (suc k) d e))
  | inr full ↦ rw full (ap (λ r. true ∷ false ∷ r) (raw-append 0 d e))
]

pub run-append : (k : ℕ) (d e : List Bool) → run_after k (d ++ e) ≡ run_after (run_after k d) e
run-append k [] e = refl
run-append k (false ∷ d) e = run-append 0 d e
run-append k (true ∷ d) e = elim (cases_Bool (nat_lt k 4)) [
  | inl less ↦ rw less (run-append (suc k) d e)
  | inr full ↦ rw full (run-append 0 d e)
]

-- at most twice as many
pub raw-few : (k : ℕ) (d : List Bool) → length (raw_after k d) ≤ 2 * length d
raw-few k [] = omega arith
raw-few k (false ∷ d) = omega (arith, raw-few 0 d)
raw-few k (true ∷ d) = elim (cases_Bool (nat_lt k 4)) [
  | inl less ↦ rw less (omega (arith, raw-few (suc k) d))
  | inr full ↦ rw full (omega (arith, raw-few 0 d))
]

-- one inserted 0 for five ones
pub raw-bound : (k : ℕ) (d : List Bool) → 5 * length (raw_after k d) ≤ 6 * length d + k
raw-bound k [] = omega arith
raw-bound k (false ∷ d) = omega (arith, raw-bound 0 d)
raw-bound k (true ∷ d) = elim (cases_Bool (nat_lt k 4)) [
  | inl less ↦ rw less (omega (arith, raw-bound (suc k) d))
  | inr full ↦ rw full (omega (arith, raw-bound 0 d, ltb-false k 4 full))
]

-- from a 0 on, this is the spelling
pub raw-is : (d : List Bool) → raw_after 0 d ≡ spelling d
raw-is (true ∷ true ∷ true ∷ true ∷ true ∷ d) = ap (λ r. ones 5 ++ false ∷ r) (raw-is d)
raw-is [] = refl
raw-is (true ∷ []) = refl
raw-is (true ∷ true ∷ []) = refl
raw-is (true ∷ true ∷ true ∷ []) = refl
raw-is (true ∷ true ∷ true ∷ true ∷ []) = refl
raw-is (false ∷ d) = ap (λ r. false ∷ r) (raw-is d)
raw-is (true ∷ false ∷ d) = ap (λ r. true ∷ false ∷ r) (raw-is d)
raw-is (true ∷ true ∷ false ∷ d) = ap (λ r. ones 2 ++ false ∷ r) (raw-is d)
raw-is (true ∷ true ∷ true ∷ false ∷ d) = ap (λ r. ones 3 ++ false ∷ r) (raw-is d)
raw-is (true ∷ true ∷ true ∷ true ∷ false ∷ d) = ap (λ r. ones 4 ++ false ∷ r) (raw-is d)

-- ---- the first of them went out, and then one more, or not

pub on_err : {T E P : Type 0} (r : Result T E) → P → OnErr r P
on_err (Ok v) p = tt
on_err (Err e) p = p

pub next-of : {X : Type 0} (xs : List X) (i : ℕ) (d : X) → i < length xs →
    xs ≡ (take i xs ++ get_or xs i d ∷ []) ++ drop (i + 1) xs
next-of xs i d h = rw (← take_more xs i d h) (sym (take-append-drop (i + 1) xs))

module _ {S : Type 0} {sink : BitSinkView S} (k : ℕ) (d e : List Bool) {a b : StuffingWriter} {s t : S} where
  -- data d, and after it e
  pub data-sent : {c : StuffingWriter} {u : S} → Sent sink (raw_after k d) a b s t → b.run ≡ run_after k d →
      Sent sink (raw_after b.run e) b c t u → Sent sink (raw_after k (d ++ e)) a c s u
  data-sent {c} {u} p r q = subst (λ z. Sent sink z a c s u) (sym (raw-append k d e))
      (sent-more p (subst (λ n. Sent sink (raw_after n e) b c t u) r q))

  pub data-cut-before : Cut sink (raw_after k d) a b s t → Cut sink (raw_after k (d ++ e)) a b s t
  data-cut-before q = subst (λ z. Cut sink z a b s t) (sym (raw-append k d e)) (cut-before _ q)

  pub data-cut-behind : {c : StuffingWriter} {u : S} → Sent sink (raw_after k d) a b s t → b.run ≡ run_after k d →
      Cut sink (raw_after b.run e) b c t u → Cut sink (raw_after k (d ++ e)) a c s u
  data-cut-behind {c} {u} p r q = subst (λ z. Cut sink z a c s u) (sym (raw-append k d e))
      (cut-behind p (subst (λ n. Cut sink (raw_after n e) b c t u) r q))

pub octets-next : (os : List ℕ) (i : ℕ) → i < length os →
    bits_of_octets (take (i + 1) os) ≡ bits_of_octets (take i os) ++ bits_of 8 (get_or os i 0)
octets-next os i h = ap bits_of_octets (take_more os i 0 h) ∙ bits_of_octets-push (take i os) (get_or os i 0)

pub octets-split : (os : List ℕ) (i : ℕ) → i < length os →
    bits_of_octets os ≡ (bits_of_octets (take i os) ++ bits_of 8 (get_or os i 0)) ++ bits_of_octets (drop (i + 1) os)
octets-split os i h = ap bits_of_octets (next-of os i 0 h)
    ∙ (bits_of_octets-append (take i os ++ get_or os i 0 ∷ []) (drop (i + 1) os)
    ∙ ap (λ z. z ++ bits_of_octets (drop (i + 1) os)) (bits_of_octets-push (take i os) (get_or os i 0)))
