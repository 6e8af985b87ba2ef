-- The number of the first entry of each type, an entry more at a time, from the last on.
use Rattle.std.proofs.Common.{◌≡◌, ◌≢◌, ℕ, ◌+◌, ◌-◌, ◌<◌, ◌≤◌, ◌==◌, List, [], ◌∷◌, length, drop, set, replicate}
use Rattle.std.proofs.Common.{get_or, refl, sym, ◌∙◌, ap, arith, Some, None, true, false, cond, slice_get, slice_index}
use Rattle.std.proofs.lemmas.Bool.Decides.{nat_tests}
use Rattle.std.proofs.lemmas.Option.{slice_get-get_or}
use Rattle.std.proofs.lemmas.List.{drop_more, get_or-replicate, get_or-set_same, get_or-set_other, length-replicate}
use Rattle.std.proofs.lemmas.List.{length-set}
use Rattle.bus_dictionary.specs.Entry.{FrameType}
use Rattle.bus_dictionary.specs.Dictionary.{entry_at}
use Rattle.bus_dictionary.specs.Internal.TypeNumbers.{Numbers, numbered}

-- no entry has a number
pub none : (es : List FrameType) → Numbers (replicate 256 0) [] es
none es =
    let zero : ℕ = 0 in
    record {
      count = length-replicate 256 zero;
      each = λ t within. ap (λ n. numbered n es) (sym (get_or-replicate 256 t zero zero within));
    }

numbered_next : (k : ℕ) (es : List FrameType) → numbered (k + 1) es ≡ slice_get es k
numbered_next k es =
    let test : (k + 1 == 0) ≡ false = grind (arith, nat_tests) in
    let before : k + 1 - 1 ≡ k = omega arith in
    ap (λ b. cond b None (slice_get es (k + 1 - 1))) test ∙ ap (slice_get es) before

-- what stands at a place after a number is set
abbrev get_or_at : List ℕ → ℕ → ℕ → ℕ → ℕ
get_or_at ns i k y = get_or (set ns i (k + 1)) y 0

-- an entry before the others gets its number
pub one_more : (ns : List ℕ) (es rest : List FrameType) (k : ℕ) (x : FrameType) → slice_get es k ≡ Some x →
    x.ftype < 256
    → Numbers ns rest es → Numbers (set ns x.ftype (k + 1)) (x ∷ rest) es
one_more ns es rest k x is within before = record {
  count = length-set ns x.ftype (k + 1) ∙ before.count;
  each = λ t small. elim (x.ftype == t) as
      (λ b. (x.ftype == t) ≡ b → cond b (Some x) (entry_at t rest)
      ≡ numbered (slice_index (set ns x.ftype (k + 1)) t) es) [
        | true ↦ λ test.
            let same : x.ftype ≡ t = grind (arith, nat_tests) in
            let bound : x.ftype < length ns = let count = before.count in omega arith in
            let now = ap (get_or_at ns x.ftype k) (sym same) ∙ get_or-set_same ns x.ftype (k + 1) 0 bound in
            sym (ap (λ n. numbered n es) now ∙ numbered_next k es ∙ is)
        | false ↦ λ test.
            let other : t ≢ x.ftype = λ same. (let hit : (x.ftype == t) ≡ true = grind (arith, nat_tests) in cc) in
            before.each t small ∙ ap (λ n. numbered n es) (sym (get_or-set_other ns x.ftype t (k + 1) 0 other))
      ] refl;
}

-- the same, as the entries are gone through
pub step : (ns : List ℕ) (es : List FrameType) (n f : ℕ) (x : FrameType) → 0 < n → n ≤ length es →
    x ≡ get_or es (n - 1) x
    → f ≡ x.ftype → f < 256 → Numbers ns (drop n es) es → Numbers (set ns f n) (drop (n - 1) es) es
step ns es n f x some most is same small before =
    let back : n - 1 + 1 ≡ n = omega arith in
    let there = slice_get-get_or es (n - 1) x (omega arith) ∙ ap Some (sym is) in
    let within : x.ftype < 256 = omega arith in
    let more = one_more ns es (drop n es) (n - 1) x there within before in
    let split = drop_more es (n - 1) x (omega arith) in
    let shape : drop (n - 1) es ≡ x ∷ drop n es = split ∙ ap (λ y. y ∷ drop (n - 1 + 1) es) (sym is)
    ∙ ap (λ m. x ∷ drop m es) back in
    let placed : set ns f n ≡ set ns x.ftype (n - 1 + 1) = ap (λ m. set ns m n) same ∙ ap (set ns x.ftype) (sym back) in
    rw (placed, shape) more
