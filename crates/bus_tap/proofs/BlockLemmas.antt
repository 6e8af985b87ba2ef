-- What is counted in 64 samples more, and the bits that arrive in them.
use Rattle.std.proofs.Common.{◌≡◌, ℕ, zero, suc, ◌+◌, ◌-◌, ◌<◌, ◌≤◌, ◌^◌, Bool, true, false, if◌then◌else◌}
use Rattle.std.proofs.Common.{List, [], ◌∷◌, ◌++◌, length, map, refl, sym, ap, ◌∙◌, arith, append-nil, append_assoc}
use Rattle.std.proofs.Common.{length-append, w64, inl, inr}
use Rattle.std.specs.List.{flat_map}
use Rattle.std.specs.Prelude.{bit_or, slice_index, Some, None, ◌||◌}
use Rattle.std.specs.Int.{trailing_zeros, leading_zeros}
use Rattle.std.specs.Int.Count.{ones}
use Rattle.std.proofs.lemmas.List.{map-append, length-map, get_or_append_left, get_or-append_right}
use Rattle.std.proofs.lemmas.Bool.{cases_lt, true≢false}
use Rattle.std.proofs.lemmas.Nat.Bits.{bit_at-zero}
use Rattle.bus_line.specs.Due.{places}
use Rattle.bus_line.specs.declared.line.Line.{Line}
use Rattle.bus_line.specs.declared.line.Line.TheVariants.{First, Second}
use Rattle.bus_tap.specs.Blocks.{has_bit, ones_in, bit_in, edges_in, block_arrivals}
use Rattle.bus_tap.specs.Facts.{AreFacts, AreFactsOf, IsTallied, bit_samples, changes, changes_high, places_where}
use Rattle.bus_tap.specs.Internal.Counts.{AreBitFacts, CountsLine, AreCounted, bit_between, clock_changed, clock_rose}
use Rattle.bus_tap.specs.Internal.Counts.{data_changed, data_changed_high, marked}
use Rattle.bus_tap.specs.Sampled.{Channel, bit_on, bits_of_edges, clock_of, counted_level, data_of, edge, rises}
use Rattle.bus_tap.specs.Sampled.{timed, with_sample}
use Rattle.bus_tap.specs.declared.block.CountedBlock.{CountedBlock}
use Rattle.bus_tap.specs.declared.block.CountedLine.{CountedLine}
use Rattle.bus_tap.specs.declared.block.EdgeBlock.{EdgeBlock}
use Rattle.bus_tap.specs.declared.facts.LineFacts.{LineFacts}
use Rattle.bus_tap.specs.declared.facts.Occurrences.{Occurrences}
use Rattle.bus_tap.proofs.EachLemmas.{places-same, places-more}
use Rattle.bus_tap.proofs.FactsLemmas.{last-more}
use Rattle.bus_tap.proofs.OnesLemmas.{bit-or, lowest-first, no-bit, ones-count, ones-last, where-alone, where-none}
use Rattle.bus_tap.proofs.SampledLemmas.{bit-if, counted-front, edges-front}

-- what so many places more bring
pub places-both : {Y : Type 0} (f g h : ℕ → List Y) (n m : ℕ) → ((i : ℕ) → i < n → f i ≡ g i) →
    ((i : ℕ) → i < m → f (n + i) ≡ h i) →
    flat_map f (places (n + m)) ≡ flat_map g (places n) ++ flat_map h (places m)
places-both f g h n zero same behind =
    let none : n + zero ≡ n = omega arith in
    rw none (places-same f g n same ∙ sym (append-nil (flat_map g (places n))))
places-both f g h n (suc m) same behind =
    let next : n + suc m ≡ suc (n + m) = omega arith in
    rw next (places-more f f (n + m) (λ i inside. refl)
    ∙ (ap (λ l. l ++ f (n + m)) (places-both f g h n m same (λ i inside. behind i (omega (arith, inside))))
    ∙ (append_assoc (flat_map g (places n)) (flat_map h (places m)) (f (n + m))
    ∙ ap (λ l. flat_map g (places n) ++ l)
    (ap (λ l. flat_map h (places m) ++ l) (behind m (omega arith)) ∙ sym (places-more h h m (λ i inside. refl))))))

-- places that are numbered from another one on
moved-where : (is : ℕ → Bool) (n m : ℕ) →
    flat_map (λ i. if is i then (n + i) ∷ [] else []) (places m) ≡ map (λ i. n + i) (places_where is m)
moved-where is n zero = refl
moved-where is n (suc m) =
    let f : ℕ → List ℕ = λ i. if is i then (n + i) ∷ [] else [] in
    let g : ℕ → List ℕ = λ i. if is i then i ∷ [] else [] in
    places-more f f m (λ i inside. refl)
    ∙ (ap (λ l. l ++ f m) (moved-where is n m) ∙ (ap (λ l. map (λ i. n + i) (places_where is m) ++ l) (one (is m))
    ∙ (sym (map-append (λ i. n + i) (places_where is m) (g m))
    ∙ ap (map (λ i. n + i)) (sym (places-more g g m (λ i inside. refl))))))
  where
    one : (b : Bool) → (if b then (n + m) ∷ [] else []) ≡ map (λ i. n + i) (if b then m ∷ [] else [])
    one true = refl
    one false = refl

pub where-block : (is was now : ℕ → Bool) (n : ℕ) → ((i : ℕ) → i < n → is i ≡ was i) →
    ((i : ℕ) → i < 64 → is (n + i) ≡ now i) → places_where is (n + 64) ≡ places_where was n ++ marked n now
unfolding marked
where-block is was now n same behind =
    places-both (λ i. if is i then i ∷ [] else []) (λ i. if was i then i ∷ [] else [])
    (λ i. if now i then (n + i) ∷ [] else []) n 64
    (λ i inside. ap (λ b. if b then i ∷ [] else []) (same i inside))
    (λ i inside. ap (λ b. if b then (n + i) ∷ [] else []) (behind i inside))
    ∙ ap (λ l. places_where was n ++ l) (moved-where now n 64)

pub marked-same : (from : ℕ) (is was : ℕ → Bool) → ((i : ℕ) → i < 64 → is i ≡ was i) → marked from is ≡ marked from was
unfolding marked
marked-same from is was same =
    ap (map (λ i. from + i)) (places-same (λ i. if is i then i ∷ [] else []) (λ i. if was i then i ∷ [] else []) 64
    (λ i inside. ap (λ b. if b then i ∷ [] else []) (same i inside)))

pub marked-ones : (from word : ℕ) → marked from (has_bit word) ≡ map (λ i. from + i) (ones_in word)
unfolding marked ones_in
marked-ones from word = refl

-- ---- occurrences

-- none more
pub none-in : ones_in 0 ≡ []
unfolding ones_in
none-in = where-none (has_bit 0) 64 (λ i inside. no-bit 0 i (bit_at-zero i))

pub none-marked : (from : ℕ) → marked from (has_bit 0) ≡ []
none-marked from = marked-ones from 0 ∙ ap (map (λ i. from + i)) none-in

pub tallied-block : (old new : Occurrences) (es : List ℕ) (from word : ℕ) → 1 ≤ word → word < 2 ^ 64 →
    IsTallied old es → new.count ≡ old.count + ones word →
    (old.count ≡ 0 → new.first ≡ from + trailing_zeros w64 word) → (0 < old.count → new.first ≡ old.first) →
    new.last ≡ from + (63 - leading_zeros w64 word) → IsTallied new (es ++ marked from (has_bit word))
tallied-block old new es from word some fits was count begins stays last =
    let up : ℕ → ℕ = λ i. from + i in
    let ms = map up (ones_in word) in
    let tail = ones-last word some fits in
    let size : length (es ++ ms) ≡ length es + ones word =
    omega (arith, length-append es ms, length-map (ones_in word) up, ones-count word fits) in
    let end : es ++ ms ≡ (es ++ map up tail.0) ++ (from + (63 - leading_zeros w64 word)) ∷ [] =
    ap (λ l. es ++ map up l) tail.1
    ∙ (ap (λ l. es ++ l) (map-append up tail.0 ((63 - leading_zeros w64 word) ∷ []))
    ∙ sym (append_assoc es (map up tail.0) ((from + (63 - leading_zeros w64 word)) ∷ []))) in
    let place : length (es ++ ms) - 1 ≡ length (es ++ map up tail.0) =
    omega (arith, ap length end, length-append (es ++ map up tail.0) ((from + (63 - leading_zeros w64 word)) ∷ [])) in
    rw (marked-ones from word) (record {
      count = omega (arith, count, was.count, size);
      first = elim (cases_lt 0 old.count) [
        | inl before ↦
            stays before ∙ (was.first ∙ sym (get_or_append_left es ms 0 0 (omega (arith, before, was.count))))
        | inr none ↦
            (let at : 0 - length es ≡ 0 = omega arith in
            begins (omega (arith, none))
            ∙ sym (get_or-append_right es ms (length es) 0 0 refl (omega (arith, none, was.count))
            ∙ (ap (slice_index ms) at ∙ ap (λ l. slice_index (map up l) 0) (lowest-first word some fits))))
      ];
      last = last ∙ sym (ap (λ l. slice_index l (length (es ++ ms) - 1)) end
          ∙ (ap (slice_index ((es ++ map up tail.0) ++ (from + (63 - leading_zeros w64 word)) ∷ [])) place
          ∙ last-more (es ++ map up tail.0) (from + (63 - leading_zeros w64 word))));
    })

-- bits that arrive, as far as they are noted
pub record HasNoted (jump from rises : ℕ) (old now : LineFacts) (left : ℕ) : Type 0 where
  pub done : List ℕ
  pub ones : ones_in rises ≡ done ++ ones_in left
  pub facts : (es : List ℕ) → AreBitFacts jump old es → AreBitFacts jump now (es ++ map (λ i. from + i) done)
  pub upto : ℕ
  pub few : upto ≤ 64
  pub none : (i : ℕ) → i < upto → has_bit left i ≡ false
  pub count : now.bits.count ≤ from + upto
  pub last : now.bits.last ≤ from + upto
  pub jumps : now.jumps.count ≤ from + upto
  pub others : (now.clock_changes ≡ old.clock_changes) × (now.data_changes ≡ old.data_changes)
      × (now.data_changes_high ≡ old.data_changes_high)

pub noted-first : (jump from rises : ℕ) (f : LineFacts) → f.bits.count ≤ from → f.bits.last ≤ from →
    f.jumps.count ≤ from → HasNoted jump from rises f f rises
noted-first jump from rises f count last more = record {
  done = [];
  ones = refl;
  facts = λ es was. rw (append-nil es) was;
  upto = 0;
  few = omega arith;
  none = λ i inside. absurd (omega (arith, inside));
  count = omega (arith, count);
  last = omega (arith, last);
  jumps = omega (arith, more);
  others = (refl, refl, refl);
}

module _ (jump from rises left rest place : ℕ) (old now : LineFacts) (noted : HasNoted jump from rises old now left)
    (set : has_bit left place ≡ true) where
  pub noted-upto : noted.upto ≤ place
  noted-upto = elim (cases_lt place noted.upto) [
    | inl below ↦ absurd (true≢false (sym set ∙ noted.none place below))
    | inr above ↦ omega (arith, above)
  ]

  pub noted-more : (new : LineFacts) → place < 64 → ones_in left ≡ place ∷ ones_in rest →
      ((i : ℕ) → i ≤ place → has_bit rest i ≡ false) →
      ((es : List ℕ) → AreBitFacts jump now es → AreBitFacts jump new (es ++ (from + place) ∷ [])) →
      new.bits.count ≤ now.bits.count + 1 → new.jumps.count ≤ now.jumps.count + 1 → new.bits.last ≡ from + place →
      (new.clock_changes ≡ now.clock_changes) × (new.data_changes ≡ now.data_changes)
      × (new.data_changes_high ≡ now.data_changes_high) → HasNoted jump from rises old new rest
  noted-more new inside first none step count more last others =
      let up : ℕ → ℕ = λ i. from + i in
      record {
        done = noted.done ++ place ∷ [];
        ones = noted.ones ∙ (ap (λ l. noted.done ++ l) first
            ∙ sym (append_assoc noted.done (place ∷ []) (ones_in rest)));
        facts = λ es was.
            rw (map-append up noted.done (place ∷ []), ← append_assoc)
            (step (es ++ map up noted.done) (noted.facts es was));
        upto = place + 1;
        few = omega (arith, inside);
        none = λ i before. none i (omega (arith, before));
        count = omega (arith, count, noted.count, noted-upto);
        last = omega (arith, last);
        jumps = omega (arith, more, noted.jumps, noted-upto);
        others = (others.0 ∙ noted.others.0, others.1 ∙ noted.others.1, others.2 ∙ noted.others.2);
      }

pub noted-all : (jump from rises left : ℕ) (old now : LineFacts) → HasNoted jump from rises old now left → left ≡ 0 →
    (es : List ℕ) → AreBitFacts jump old es → AreBitFacts jump now (es ++ marked from (has_bit rises))
noted-all jump from rises left old now noted end es was =
    let all : ones_in rises ≡ noted.done =
    noted.ones ∙ (ap (λ w. noted.done ++ ones_in w) end
    ∙ (ap (λ l. noted.done ++ l) none-in ∙ append-nil noted.done)) in
    rw (marked-ones from rises, all) (noted.facts es was)

-- ---- a line

module _ (hold : ℕ) (ss more : List ℕ) (long : length more ≡ 64) where
  abbrev all : List ℕ
  all = ss ++ more

  size : length (ss ++ more) ≡ length ss + 64
  size = omega (arith, length-append ss more, long)

  -- samples that come later change no level
  same-level : (channel : Channel) (i : ℕ) → i < length ss →
      counted_level hold channel all i ≡ counted_level hold channel ss i
  same-level channel i inside = counted-front channel ss more hold i inside

  same-before : (channel : Channel) (i : ℕ) → i < length ss →
      counted_level hold channel all (i - 1) ≡ counted_level hold channel ss (i - 1)
  same-before channel i inside = same-level channel (i - 1) (omega (arith, inside))

  module _ (line : Line) (c : CountedLine) (counts : CountsLine hold (clock_of line) (data_of line) ss more c) where
    clock-block : places_where (changes hold (clock_of line) all) (length ss + 64)
        ≡ places_where (changes hold (clock_of line) ss) (length ss) ++ marked (length ss) (clock_changed c)
    clock-block =
        where-block (changes hold (clock_of line) all) (changes hold (clock_of line) ss) (clock_changed c) (length ss)
        (λ i inside. rw (same-before (clock_of line) i inside, same-level (clock_of line) i inside) refl)
        (λ i inside. rw (counts.clock_before i inside, counts.clock_after i inside) refl)

    data-block : places_where (changes hold (data_of line) all) (length ss + 64)
        ≡ places_where (changes hold (data_of line) ss) (length ss) ++ marked (length ss) (data_changed c)
    data-block =
        where-block (changes hold (data_of line) all) (changes hold (data_of line) ss) (data_changed c) (length ss)
        (λ i inside. rw (same-before (data_of line) i inside, same-level (data_of line) i inside) refl)
        (λ i inside. rw (counts.bits_before i inside, counts.bits_after i inside) refl)

    high-block : places_where (changes_high hold line all) (length ss + 64)
        ≡ places_where (changes_high hold line ss) (length ss) ++ marked (length ss) (data_changed_high c)
    high-block =
        where-block (changes_high hold line all) (changes_high hold line ss) (data_changed_high c) (length ss)
        (λ i inside. rw (
          same-before (data_of line) i inside,
          same-level (data_of line) i inside,
          same-level (clock_of line) i inside,
        ) refl)
        (λ i inside. rw (counts.bits_before i inside, counts.bits_after i inside, counts.clock_after i inside) refl)

    bits-block : places_where (rises hold (clock_of line) all) (length ss + 64)
        ≡ bit_samples hold line ss ++ marked (length ss) (clock_rose c)
    bits-block =
        where-block (rises hold (clock_of line) all) (rises hold (clock_of line) ss) (clock_rose c) (length ss)
        (λ i inside. rw (same-before (clock_of line) i inside, same-level (clock_of line) i inside) refl)
        (λ i inside. rw (counts.clock_before i inside, counts.clock_after i inside) refl)

    -- its facts
    pub facts-block : (jump : ℕ) (f : LineFacts) → AreFactsOf jump f
        (places_where (changes hold (clock_of line) ss) (length ss) ++ marked (length ss) (clock_changed c))
        (places_where (changes hold (data_of line) ss) (length ss) ++ marked (length ss) (data_changed c))
        (places_where (changes_high hold line ss) (length ss) ++ marked (length ss) (data_changed_high c))
        (bit_samples hold line ss ++ marked (length ss) (clock_rose c)) → AreFacts hold jump line f (ss ++ more)
    facts-block jump f of = rw (size, clock-block, data-block, high-block, bits-block) of

    -- its bits
    edge-block : (i : ℕ) → i < 64 → edge hold all line (length ss + i) ≡ bit_on line (bit_between c i)
    edge-block i inside =
        sym (bit-if line (clock_rose c i) (has_bit c.before.bits i)
        ∙ rw (counts.clock_before i inside, counts.clock_after i inside, counts.bits_before i inside) refl)

  pub timed-block : (c : CountedBlock) (e : EdgeBlock) → AreCounted hold ss more c →
      ((i : ℕ) → i < 64 → bit_in e.first i ≡ bit_between c.first i) →
      ((i : ℕ) → i < 64 → bit_in e.second i ≡ bit_between c.second i) →
      timed hold (ss ++ more) ≡ timed hold ss ++ block_arrivals (length ss) e
  unfolding block_arrivals
  timed-block c e counts first second =
      ap (λ n. flat_map (λ i. with_sample i (edge hold all First i ++ edge hold all Second i)) (places n)) size
      ∙ places-both (λ i. with_sample i (edge hold all First i ++ edge hold all Second i))
      (λ i. with_sample i (edge hold ss First i ++ edge hold ss Second i))
      (λ i. with_sample (length ss + i) (bits_of_edges (edges_in e i))) (length ss) 64
      (λ i inside. ap (with_sample i) (edges-front hold ss more i inside))
      (λ i inside. rw (
        edge-block First c.first counts.0 i inside,
        edge-block Second c.second counts.1 i inside,
        first i inside,
        second i inside,
      ) refl)

-- what arrives in a block comes where a clock rises
pub arrivals-ones : (from : ℕ) (e : EdgeBlock) → block_arrivals from e
    ≡ flat_map (λ i. with_sample (from + i) (bits_of_edges (edges_in e i)))
    (ones_in (bit_or e.first.rises e.second.rises))
unfolding block_arrivals ones_in
arrivals-ones from e =
    where-alone (λ i. with_sample (from + i) (bits_of_edges (edges_in e i)))
    (has_bit (bit_or e.first.rises e.second.rises)) 64
    (λ i none. ap (with_sample (from + i)) (quiet i (has_bit e.first.rises i) (has_bit e.second.rises i) refl refl
    (sym (bit-or e.first.rises e.second.rises i) ∙ none)))
  where
    quiet : (i : ℕ) (a b : Bool) → has_bit e.first.rises i ≡ a → has_bit e.second.rises i ≡ b → (a || b) ≡ false →
        bits_of_edges (edges_in e i) ≡ []
    quiet i true b one two none = absurd (cc)
    quiet i false true one two none = absurd (cc)
    quiet i false false one two none =
        ap (λ c. bit_on First (if c then Some (has_bit e.first.bits i) else None) ++ bit_on Second (bit_in e.second i))
        one ∙ ap (λ c. bit_on Second (if c then Some (has_bit e.second.bits i) else None)) two
