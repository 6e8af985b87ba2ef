use Rattle.std.proofs.Common.{◌≡◌, ◌≢◌, ◌↔◌, ◌<◌, ◌≤◌, ◌||◌, ℕ, ◌-◌, ◌/◌, ◌^◌, Bool, List, ◌++◌, map, filter, take}
use Rattle.std.proofs.Common.{drop, get_or, length, Some, true, false, inl, inr, refl, sym, ap, ◌∙◌, arith, rules}
use Rattle.std.proofs.lemmas.Bool.{cases_lt}
use Rattle.std.proofs.lemmas.List.{length-take, length-drop, take_all, get_or-take}
use Rattle.std.specs.Array.{IsFirstChunk}
use Rattle.std.specs.Int.{w64, from_le_bytes, trailing_zeros}
use Rattle.std.specs.List.{All, list_all}
use Rattle.bus_formats.specs.Internal.Marks.{HasMarks}
use Rattle.bus_formats.specs.Capture.{EightBy}
use Rattle.bus_bits.specs.Text.{is_space}
use Rattle.bus_formats.specs.declared.eight_bits.EightMarks.{EightMarks}
use Rattle.bus_formats.proofs.TextBitsLemmas.{is_read}
use Rattle.bus_formats.proofs.EightBitsLemmas.{other}
use Rattle.bus_formats.proofs.FrontLemmas.{IsFront, all-small, first_chunk_front}
use Rattle.bus_formats.proofs.EightBitsOfNineLemmas.{all_kept, marks_text, eight-least, eight-marks, marks-eight}
use Rattle.bus_formats.proofs.EightBitsOfNineLemmas.{text-eight, IsNine, nine-long, nine-small, nine-given, nine-text}
use Rattle.bus_formats.proofs.EightBitsOfNineLemmas.{others-none, others-place, front-others}
use Rattle.bus_bits.proofs.CaseLemmas.{no-some}
use Rattle.bus_formats.proofs.eight_bits.eight_marks.Goals.{then-other_bits-ne0-via-then-other_bits-ne0}
use Rattle.bus_formats.proofs.eight_bits.eight_marks.Goals.{then-other_bits-ne0-via-else-other_bits-ne0+then-not-is_skipped}
use Rattle.bus_formats.proofs.eight_bits.eight_marks.Goals as goal

front_get : (xs ys : List ℕ) (k : ℕ) → IsFront xs ys → k < 8 → get_or ys k 0 ≡ get_or xs k 0
front_get xs ys k front place = ap (λ (z : List ℕ). get_or z k 0) front.same ∙ get_or-take 8 xs k 0 place

-- nine octets, of which the first eight are not all marks
nine-octets : (high : ℕ) (is_mark : ℕ → Bool) → HasMarks high is_mark → high < 256 → (xs ys zs marks : List ℕ) (n : ℕ) →
    IsFront xs ys → IsFirstChunk (take (length xs - 1) (drop 1 xs)) zs 8
    → n ≡ from_le_bytes w64 (map (other high) ys) → n ≢ 0 → n < 2 ^ 64
    → marks ≡ take (trailing_zeros w64 n / 8) ys ++ drop (trailing_zeros w64 n / 8) zs →
    IsNine is_mark xs marks (trailing_zeros w64 n / 8)
nine-octets high is_mark telling few xs ys zs marks n front back is some low joined =
    let k = trailing_zeros w64 n / 8 in
    let place = others-place high is_mark telling few ys n front.long front.small is some low in
    let all : take (length xs - 1) (drop 1 xs) ≡ drop 1 xs =
    take_all (length xs - 1) (drop 1 xs) (omega (arith, length-drop 1 xs)) in
    record {
      place = place.0;
      long = omega (arith, back.enough, ap length all, length-drop 1 xs);
      other = ap is_mark (sym (front_get xs ys k front place.0)) ∙ place.1;
      joined = joined ∙ ap (λ (z : List ℕ). take k z ++ drop k zs) front.same
          ∙ ap (λ (z : List ℕ). take k (take 8 xs) ++ drop k z) (back.same ∙ ap (take 8) all);
    }

-- nothing is other in the eight that are left exactly where all of these are marks
nine-others : (high : ℕ) (is_mark : ℕ → Bool) → HasMarks high is_mark → high < 256 → (xs marks : List ℕ) (k m : ℕ) →
    IsNine is_mark xs marks k → All (λ b. b < 256) xs → m ≡ from_le_bytes w64 (map (other high) marks)
    → (m ≡ 0) ↔ (list_all is_mark marks ≡ true)
nine-others high is_mark telling few xs marks k m nine small is =
    others-none high is_mark telling few marks m (nine-long is_mark xs marks k nine)
    (nine-small is_mark xs marks k nine small) is

-- what is known of eight marks in nine octets
record GivesNine (is_mark : ℕ → Bool) (xs marks : List ℕ) : Type 0 where
  all : list_all is_mark marks ≡ true
  text : list_all (is_read is_mark) (take 9 xs) ≡ true
  given : filter is_mark (take 9 xs) ≡ marks
  here : EightBy is_mark 9 xs
  least : (n : ℕ) → EightBy is_mark n xs → 9 ≤ n

-- nine octets, of which one is skipped and the others are marks
nine-gives : (high : ℕ) → high < 256 → (xs ys zs marks : List ℕ) (n m : ℕ) → IsFront xs ys → All (λ b. b < 256) xs →
    IsFirstChunk (take (length xs - 1) (drop 1 xs)) zs 8
    → n ≡ from_le_bytes w64 (map (other high) ys) → n ≢ 0 → n < 2 ^ 64
    → marks ≡ take (trailing_zeros w64 n / 8) ys ++ drop (trailing_zeros w64 n / 8) zs →
    m ≡ from_le_bytes w64 (map (other high) marks)
    → m ≡ 0 → is_space (get_or ys (trailing_zeros w64 n / 8) 0) ≡ true
    → (is_mark : ℕ → Bool) → HasMarks high is_mark → GivesNine is_mark xs marks
nine-gives high few xs ys zs marks n m front small back is some low joined those none space is_mark telling =
    let k = trailing_zeros w64 n / 8 in
    let nine = nine-octets high is_mark telling few xs ys zs marks n front back is some low joined in
    let all = (nine-others high is_mark telling few xs marks k m nine small those).0 none in
    let text =
    nine-text is_mark xs marks k nine all (ap is_space (sym (front_get xs ys k front nine.place)) ∙ space) in
    record {
      all = all;
      text = text.0;
      given = text.1;
      here = text-eight is_mark 9 xs nine.long text.0 (ap length text.1 ∙ nine-long is_mark xs marks k nine);
      least = λ i eight. elim (cases_lt 8 i) [
        | inl more ↦ omega (arith, more)
        | inr within ↦ let only : i ≡ 8 = omega (arith, within, eight-least is_mark i xs eight) in
            absurd (some ((front-others high is_mark telling few xs ys n front is).1
            (eight-marks is_mark xs (rw only at eight))))
      ];
    }

-- what is given is what the octets have
gives : (is_mark : ℕ → Bool) (xs marks : List ℕ) (n : ℕ) → list_all (is_read is_mark) (take n xs) ≡ true →
    filter is_mark (take n xs) ≡ marks
    → list_all is_mark marks ≡ true → (e : EightMarks) → Some (record { marks = marks; taken = n }) ≡ Some e
    → (list_all (λ x. is_mark x || is_space x) (take e.taken xs) ≡ true) × (filter is_mark (take e.taken xs) ≡ e.marks)
    × (list_all is_mark e.marks ≡ true)
gives is_mark xs marks n text given all e is =
    let same : n ≡ e.taken = cc in
    let those : marks ≡ e.marks = cc in
    rw (← same, ← those) (text, given, all)

-- and these are the fewest octets
fewest : (is_mark : ℕ → Bool) (xs marks : List ℕ) (n : ℕ) → EightBy is_mark n xs →
    ((m : ℕ) → EightBy is_mark m xs → n ≤ m)
    → (e : EightMarks) → Some (record { marks = marks; taken = n }) ≡ Some e
    → EightBy is_mark e.taken xs × ((m : ℕ) → EightBy is_mark m xs → e.taken ≤ m)
fewest is_mark xs marks n here least e is = let same : n ≡ e.taken = cc in rw (← same) (here, least)

-- which octets give eight marks in eight, where nothing in them is other
eight-all : (high : ℕ) → high < 256 → (xs ys : List ℕ) (n : ℕ) → IsFront xs ys →
    n ≡ from_le_bytes w64 (map (other high) ys) → n ≡ 0
    → (is_mark : ℕ → Bool) → HasMarks high is_mark → list_all is_mark (take 8 xs) ≡ true
eight-all high few xs ys n front is none is_mark telling =
    (front-others high is_mark telling few xs ys n front is).0 none

pub returns-then-others-eq0 : goal.returns-then-others-eq0
returns-then-others-eq0 c =
    let xs = c.args.octets.now in
    let ys = c.in_ok-front.front.now in
    let chunk = c.in_ok-front.ensures.cases in
    let front = first_chunk_front xs ys c.type_inv.octets chunk in
    let all = eight-all c.args.high c.ranges.high.fits xs ys c.other_bits-others.result front
    c.other_bits-others.ensures c.if-others-eq0.true in
    record {
      marks = λ is_mark telling. gives is_mark xs ys 8 (marks_text is_mark (take 8 xs) (all is_mark telling))
          (all_kept is_mark (take 8 xs) (all is_mark telling) ∙ sym front.same)
          (ap (list_all is_mark) front.same ∙ all is_mark telling);
      fewest = λ is_mark telling. fewest is_mark xs ys 8 (marks-eight is_mark xs chunk.enough (all is_mark telling))
          (λ n eight. eight-least is_mark n xs eight);
      few = search rules;
      some = λ is_mark telling. (
        λ is-some. inl (marks-eight is_mark xs chunk.enough (all is_mark telling)),
        λ either. refl,
      );
    }

pub returns-in_err-back-clause-some : goal.returns-in_err-back-clause-some
returns-in_err-back-clause-some c =
    λ is_mark telling.
    let xs = c.args.octets.now in
    let ys = c.in_ok-front.front.now in
    let front = first_chunk_front xs ys c.type_inv.octets c.in_ok-front.ensures.cases in
    let first = front-others c.args.high is_mark telling c.ranges.high.fits xs ys c.other_bits-others.result front
    c.other_bits-others.ensures in
    let few : length xs < 9 =
    omega (arith, c.in_err-back.ensures.cases, length-take (length xs - 1) (drop 1 xs), length-drop 1 xs) in (
      λ is-some. absurd (no-some c.from_residual-in_err-back.result c.from_residual-in_err-back.ensures is-some),
      λ either. absurd (elim either [
        | inl eight ↦ c.if-others-eq0.false (first.1 (eight-marks is_mark xs eight))
        | inr nine ↦ omega (arith, nine.0, few)
      ]),
    )

pub returns-then-other_bits-ne0-clause-some : goal.returns-then-other_bits-ne0-clause-some
returns-then-other_bits-ne0-clause-some c =
    λ is_mark telling.
    let xs = c.args.octets.now in
    let ys = c.in_ok-front.front.now in
    let n = c.other_bits-others.result in
    let marks = c.joined-marks.result in
    let high = c.args.high in
    let octet = c.ranges.high.fits in
    let front = first_chunk_front xs ys c.type_inv.octets c.in_ok-front.ensures.cases in
    let first = front-others high is_mark telling octet xs ys n front c.other_bits-others.ensures in
    let nine = nine-octets high is_mark telling octet xs ys c.in_ok-back.back.now marks n front
    c.in_ok-back.ensures.cases c.other_bits-others.ensures c.if-others-eq0.false c.other_bits-others.type_inv
    c.joined-marks.ensures in
    let k = trailing_zeros w64 n / 8 in (
      λ is-some. absurd (cc),
      λ either. absurd (elim either [
        | inl eight ↦ c.if-others-eq0.false (first.1 (eight-marks is_mark xs eight))
        | inr in-nine ↦ let given = nine-given is_mark xs marks k nine in-nine in
            elim c.then-other_bits-ne0.branch [
              | then-other_bits-ne0-via-then-other_bits-ne0 w ↦ w.if-other_bits-ne0.true
                  ((nine-others high is_mark telling octet xs marks k c.other_bits.result nine
                  (all-small xs c.type_inv.octets) c.other_bits.ensures).1 given.0)
              | then-other_bits-ne0-via-else-other_bits-ne0+then-not-is_skipped w ↦ let skipped : false ≡ true =
                  sym w.if-not-is_skipped.true ∙ w.is_skipped.ensures
                  ∙ ap is_space (front_get xs ys k front nine.place) ∙ given.1 in absurd (cc)
            ]
      ]),
    )

pub returns : goal.returns
returns c =
    let xs = c.args.octets.now in
    let ys = c.in_ok-front.front.now in
    let marks = c.joined-marks.result in
    let nine = nine-gives c.args.high c.ranges.high.fits xs ys c.in_ok-back.back.now marks c.other_bits-others.result
    c.other_bits.result (first_chunk_front xs ys c.type_inv.octets c.in_ok-front.ensures.cases)
    (all-small xs c.type_inv.octets) c.in_ok-back.ensures.cases c.other_bits-others.ensures c.if-others-eq0.false
    c.other_bits-others.type_inv c.joined-marks.ensures c.other_bits.ensures c.if-other_bits-ne0.false
    (sym c.is_skipped.ensures ∙ c.if-not-is_skipped.false) in
    record {
      marks = λ is_mark telling. let found = nine is_mark telling in
          gives is_mark xs marks 9 found.text found.given found.all;
      fewest = λ is_mark telling. let found = nine is_mark telling in
          fewest is_mark xs marks 9 found.here found.least;
      few = search rules;
      some = λ is_mark telling. (λ is-some. inr (nine is_mark telling).here, λ either. refl);
    }
