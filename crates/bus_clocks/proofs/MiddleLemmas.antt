-- The bits of either line in the middle of a block, and beyond its last bit of the second line.
use Rattle.std.proofs.Common.{◌≡◌, ℕ, suc, ◌+◌, ◌-◌, ◌<◌, ◌≤◌, List, [], ◌∷◌, ◌++◌, length, refl, sym, ap}
use Rattle.std.proofs.Common.{◌∙◌, arith, append-nil, length-append, Some, subst, take, drop}
use Rattle.std.proofs.Common.{◌*◌}
use Rattle.std.specs.Prelude.{slice_get}
use Rattle.std.proofs.lemmas.List.{get_or-drop, get_or-take, length-drop}
use Rattle.std.proofs.lemmas.List.{length-take}
use Rattle.std.proofs.lemmas.Option.{get_or_from_slice_get, slice_get-get_or, slice_get_within}
use Rattle.bus_bits.specs.Bits.{bits_from}
use Rattle.bus_line.specs.declared.line.Line.{Line}
use Rattle.bus_line.specs.declared.line.Line.TheVariants.{First, Second}
use Rattle.bus_tap.specs.Arrival.{Arrival, own, firsts_before}
use Rattle.bus_tap.proofs.ArrivalLemmas.{own-append}
use Rattle.bus_clocks.specs.Internal.Parts.{Parts, upto, beyond}
use Rattle.bus_clocks.specs.declared.parted.Parted.{Parted}
use Rattle.bus_clocks.proofs.LineBitsLemmas.{bits-middle}
use Rattle.bus_clocks.proofs.RoomLemmas.{own-count}
use Rattle.bus_clocks.proofs.PartsLemmas.{EndsWithSecond, before-stretch, count-beyond, count-upto}
use Rattle.bus_clocks.proofs.PartsLemmas.{ends-with, upto-beyond, upto-more}

own-parts : (line : Line) (m : ℕ) (ys : List Arrival) → own line ys ≡ own line (upto m ys) ++ own line (beyond m ys)
own-parts line m ys = ap (own line) (sym (upto-beyond m ys)) ∙ own-append line (upto m ys) (beyond m ys)

pub own-sizes : (line : Line) (m : ℕ) (ys : List Arrival) →
    length (own line ys) ≡ length (own line (upto m ys)) + length (own line (beyond m ys))
own-sizes line m ys = ap length (own-parts line m ys) ∙ length-append (own line (upto m ys)) (own line (beyond m ys))

pub rest-bits : (line : Line) (os : List ℕ) (m : ℕ) (ys : List Arrival) →
    bits_from os 0 (length (own line ys)) ≡ own line ys →
    bits_from os (length (own line (upto m ys))) (length (own line (beyond m ys))) ≡ own line (beyond m ys)
rest-bits line os m ys all =
    let rest = own line (beyond m ys) in
    let whole : own line ys ≡ own line (upto m ys) ++ (rest ++ []) =
    own-parts line m ys ∙ ap (λ b. own line (upto m ys) ++ b) (sym (append-nil rest)) in
    bits-middle os (own line (upto m ys)) rest [] (rw whole at all)

stretch-bits : (line : Line) (os : List ℕ) (m n : ℕ) (ys : List Arrival) →
    bits_from os 0 (length (own line ys)) ≡ own line ys →
    bits_from os (length (own line (upto m ys))) (length (own line (upto n (beyond m ys))))
    ≡ own line (upto n (beyond m ys))
stretch-bits line os m n ys all =
    let whole : own line ys ≡ own line (upto m ys) ++ (own line (upto n (beyond m ys))
    ++ own line (beyond n (beyond m ys))) =
    own-parts line m ys ∙ ap (λ b. own line (upto m ys) ++ b) (own-parts line n (beyond m ys)) in
    bits-middle os (own line (upto m ys)) (own line (upto n (beyond m ys))) (own line (beyond n (beyond m ys)))
    (rw whole at all)

-- ---- the arrivals beyond the last bit of the second line

pub record IsRest (p : Parted) (ys : List Arrival) (from past : ℕ) : Type 0 where
  pub from_is : from ≡ length (own First (upto (length p.second) ys))
  pub past_is : past ≡ from + length (own First (beyond (length p.second) ys))
  pub alone : own Second (beyond (length p.second) ys) ≡ []

no-items : {X : Type 0} (xs : List X) → length xs ≡ 0 → xs ≡ []
no-items [] none = refl
no-items (x ∷ xs) none = absurd (omega (arith, none))

pub is-rest : (ys : List Arrival) (p : Parted) (count from past : ℕ) → Parts ys p → count ≡ length p.second →
    ((zs : List Arrival) → Parts zs p → from ≡ length (own First (upto count zs))) → past ≡ length p.first →
    IsRest p ys from past
is-rest ys p count from past parts counted ahead all =
    let from_is : from ≡ length (own First (upto (length p.second) ys)) =
    ahead ys parts ∙ ap (λ k. length (own First (upto k ys))) counted in
    let size = ap length parts.second in
    record {
      from_is = from_is;
      past_is = omega (arith, all, ap length parts.first, own-sizes First (length p.second) ys, from_is);
      alone = no-items (own Second (beyond (length p.second) ys))
          (omega (arith, size, count-beyond (length p.second) ys (omega (arith, size))));
    }

pub rest-none : (p : Parted) (ys : List Arrival) (from past : ℕ) → IsRest p ys from past → from ≡ past →
    beyond (length p.second) ys ≡ []
rest-none p ys from past rest same =
    let zs = beyond (length p.second) ys in
    no-items zs (omega (arith, own-count zs, rest.past_is, same, ap length rest.alone))

-- ---- a stretch from bit `m` of the second line on

part-item : (xs : List ℕ) (a n i x : ℕ) → i < n → slice_get xs (a + i) ≡ Some x →
    slice_get (take n (drop a xs)) i ≡ Some x
part-item xs a n i x inside is =
    slice_get-get_or (take n (drop a xs)) i 0
    (omega (arith, inside, length-take n (drop a xs), length-drop a xs, slice_get_within xs (a + i) x is))
    ∙ ap Some (get_or-take n (drop a xs) i 0 inside ∙ (get_or-drop a xs i 0 ∙ get_or_from_slice_get xs (a + i) x 0 is))

-- so many of its bits, of which the last is one of the second line
pub record IsStretch (p : Parted) (ys : List Arrival) (m n from past : ℕ) : Type 0 where
  pub ends : EndsWithSecond (upto n (beyond m ys))
  pub seconds : length (own Second (upto n (beyond m ys))) ≡ n
  pub from_is : from ≡ length (own First (upto m ys))
  pub past_is : past ≡ from + length (own First (upto n (beyond m ys)))
  pub within : past ≤ length p.first
  pub size : length (upto n (beyond m ys)) ≡ length (own First (upto n (beyond m ys))) + n
  pub fits : length (upto n (beyond m ys)) ≤ length (beyond m ys)
  pub second_front : length (own Second (upto m ys)) ≡ m
  pub count : length (take n (drop m p.before)) ≡ n
  pub items : (i : ℕ) → i < n → (c : ℕ) × (slice_get (take n (drop m p.before)) i ≡ Some c)
      × (c ≡ from + firsts_before i (upto n (beyond m ys)))

pub is-stretch : {p : Parted} {m n count from past : ℕ} (ys : List Arrival) → Parts ys p → m < length p.second →
    count ≡ length p.second → (1 ≤ n) × (n ≤ count - m) → from ≡ length (own First (upto m ys)) →
    past ≡ length (own First (upto (m + n) ys)) → IsStretch p ys m n from past
is-stretch {p = p} {m = m} {n = n} {from = from} {past = past} ys parts inside counted few from_is further =
    let some : 1 ≤ n = few.0 in
    let within : m + n ≤ length p.second = omega (arith, inside, counted, few.1) in
    let rest = beyond m ys in
    let zs = upto n rest in
    let total = ap length parts.second in
    let left : length (own Second rest) ≡ length (own Second ys) - m =
    count-beyond m ys (omega (arith, total, within)) in
    let seconds : length (own Second zs) ≡ n = count-upto n rest (omega (arith, left, total, within)) in
    let past_is : past ≡ from + length (own First zs) = omega (
      arith,
      further,
      ap (λ xs. length (own First xs)) (upto-more m n ys),
      ap length (own-append First (upto m ys) zs),
      length-append (own First (upto m ys)) (own First zs),
      from_is,
    ) in
    let next : suc (n - 1) ≡ n = omega (arith, some) in
    record {
      ends = subst (λ k. EndsWithSecond (upto k rest)) next
          (ends-with (n - 1) rest (omega (arith, left, total, within, some)));
      seconds = seconds;
      from_is = from_is;
      past_is = past_is;
      within = omega (
        arith,
        past_is,
        from_is,
        own-sizes First m ys,
        own-sizes First n rest,
        ap length parts.first,
      );
      size = omega (arith, own-count zs, seconds);
      fits = omega (arith, ap length (upto-beyond n rest), length-append zs (beyond n rest));
      second_front = count-upto m ys (omega (arith, total, within));
      count = omega (
        arith,
        length-take n (drop m p.before),
        length-drop m p.before,
        parts.long,
        within,
        total,
        own-count ys,
        parts.few,
      );
      items = λ i inside. (
        firsts_before (m + i) ys,
        part-item p.before m n i _ inside (parts.before (m + i) (omega (arith, total, within, inside))),
        before-stretch m n i ys (omega (arith, total, within)) (omega (arith, seconds, inside))
            ∙ ap (λ k. k + firsts_before i zs) (sym from_is),
      );
    }

-- the bits of either line in it, of octets that hold all
pub stretch-seconds : (os : List ℕ) (p : Parted) (ys : List Arrival) (m n from past : ℕ) → Parts ys p →
    IsStretch p ys m n from past → bits_from os 0 (length p.second) ≡ p.second →
    bits_from os m n ≡ own Second (upto n (beyond m ys))
stretch-seconds os p ys m n from past parts some all =
    let zs = upto n (beyond m ys) in
    let whole : bits_from os 0 (length (own Second ys)) ≡ own Second ys = rw (parts.second) at all in
    ap (λ k. bits_from os k n) (sym some.second_front)
    ∙ (ap (λ k. bits_from os (length (own Second (upto m ys))) k) (sym some.seconds)
    ∙ stretch-bits Second os m n ys whole)

pub stretch-firsts : (os : List ℕ) (p : Parted) (ys : List Arrival) (m n from past : ℕ) → Parts ys p →
    IsStretch p ys m n from past → bits_from os 0 (length p.first) ≡ p.first →
    bits_from os from (past - from) ≡ own First (upto n (beyond m ys))
stretch-firsts os p ys m n from past parts some all =
    let zs = upto n (beyond m ys) in
    let whole : bits_from os 0 (length (own First ys)) ≡ own First ys = rw (parts.first) at all in
    let count : past - from ≡ length (own First zs) = omega (arith, some.past_is) in
    ap (λ k. bits_from os from k) count
    ∙ (ap (λ k. bits_from os k (length (own First zs))) some.from_is ∙ stretch-bits First os m n ys whole)
