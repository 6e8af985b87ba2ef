-- How what a writer holds grows, in parts.
use Rattle.std.proofs.Common.{◌≡◌, ℕ, ◌+◌, ◌-◌, ◌<◌, ◌≤◌, List, [], ◌++◌, length, take, drop, refl, sym, ◌∙◌, ap, subst}
use Rattle.std.proofs.Common.{append_assoc, length-append, length-take, arith, Option, Some, None}
use Rattle.std.specs.Io.KnownBytes.{Appends, Keeps, Consumes}
use Rattle.std.proofs.lemmas.Grind.{common_steps}
use Rattle.std.proofs.Math.Seq.{take-add, take-append-add}
use Rattle.std.proofs.lemmas.List.{append-nil, take-append-le}

pub appends_nothing : (a : Option (List ℕ)) → Appends a a []
appends_nothing None = tt
appends_nothing (Some x) = grind (arith, common_steps)

pub appends_both : (a b c : Option (List ℕ)) (bs cs : List ℕ) → Appends a b bs → Appends b c cs → Appends a c (bs ++ cs)
appends_both None b c bs cs first second = tt
appends_both (Some x) None c bs cs first second = absurd first
appends_both (Some x) (Some y) None bs cs first second = absurd second
appends_both (Some x) (Some y) (Some z) bs cs first second = second ∙ ap (λ l. l ++ cs) first ∙ append_assoc x bs cs

pub appends_kept : (a b c : Option (List ℕ)) (bs : List ℕ) → Appends a b bs → Keeps b c → Appends a c bs
appends_kept None b c bs added kept = tt
appends_kept (Some x) None c bs added kept = absurd added
appends_kept (Some x) (Some y) None bs added kept = absurd kept
appends_kept (Some x) (Some y) (Some z) bs added kept = kept ∙ added

-- the first i of xs, and then the first n of the rest
pub take_both : (xs : List ℕ) (i n : ℕ) → take (i + n) xs ≡ take i xs ++ take n (drop i xs)
take_both xs i n = take-add i n xs

pub appends_more : (a b c : Option (List ℕ)) (xs : List ℕ) (i n : ℕ) → Appends a b (take i xs) →
    Appends b c (take n (drop i xs)) → Appends a c (take (i + n) xs)
appends_more a b c xs i n first second =
    subst (Appends a c) (sym (take_both xs i n)) (appends_both a b c _ _ first second)

-- the same, where the second write was handed the rest as a slice has it
pub appends_rest : (a b c : Option (List ℕ)) (xs : List ℕ) (i n : ℕ) → Appends a b (take i xs) →
    Appends b c (take n (take (length xs - i) (drop i xs))) → Appends a c (take (i + n) xs)
appends_rest a b c xs i n first second =
    let rest : take (length xs - i) (drop i xs) ≡ drop i xs = grind (arith, common_steps) in
    appends_more a b c xs i n first (subst (λ (ys : List ℕ). Appends b c (take n ys)) rest second)

pub consumes_nothing : (a : Option (List ℕ)) → Consumes a a []
consumes_nothing None = tt
consumes_nothing (Some x) = refl

pub consumes_both : (a b c : Option (List ℕ)) (bs cs : List ℕ) → Consumes a b bs → Consumes b c cs →
    Consumes a c (bs ++ cs)
consumes_both None b c bs cs first second = tt
consumes_both (Some x) None c bs cs first second = absurd first
consumes_both (Some x) (Some y) None bs cs first second = absurd second
consumes_both (Some x) (Some y) (Some z) bs cs first second =
    first ∙ ap (λ l. bs ++ l) second ∙ sym (append_assoc bs cs z)

-- a read that gave nothing
pub consumes_end : (a b c : Option (List ℕ)) (bs cs : List ℕ) → cs ≡ [] → Consumes a b bs → Consumes b c cs →
    Consumes a c bs
consumes_end a b c bs cs none first second =
    let whole : bs ++ cs ≡ bs = ap (λ l. bs ++ l) none ∙ append-nil bs in
    subst (λ (l : List ℕ). Consumes a c l) whole (consumes_both a b c bs cs first second)

pub consumes_kept : (a b c : Option (List ℕ)) (bs : List ℕ) → Consumes a b bs → Keeps b c → Consumes a c bs
consumes_kept None b c bs read kept = tt
consumes_kept (Some x) None c bs read kept = absurd read
consumes_kept (Some x) (Some y) None bs read kept = absurd kept
consumes_kept (Some x) (Some y) (Some z) bs read kept = read ∙ ap (λ l. bs ++ l) (sym kept)

-- a front went out, and then the first part of what follows it
pub part_out : (start before now : Option (List ℕ)) (front rest more : List ℕ) (n sent : ℕ) →
    Appends start before front → n ≡ length front
    → sent ≤ length rest → Appends before now (take sent rest) →
    Appends start now (take (n + sent) ((front ++ rest) ++ more))
part_out start before now front rest more n sent out count short part =
    let text : take (n + sent) ((front ++ rest) ++ more) ≡ front ++ take sent rest =
    rw (count, append_assoc, take-append-add) (ap (λ l. front ++ l) (take-append-le sent rest more short)) in
    subst (Appends start now) (sym text) (appends_both start before now _ _ out part)

-- each read gave an octet at least
pub longer : (xs buf : List ℕ) (count turn : ℕ) → turn ≤ length xs → 0 < count → count ≤ length buf →
    turn + 1 ≤ length (xs ++ take count buf)
longer xs buf count turn before some fits = simp (length-append, length-take) (omega arith)
