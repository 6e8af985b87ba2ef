-- Samples that are taken, and bits that are put.
use Rattle.std.proofs.Common.{◌≡◌, ℕ, zero, suc, ◌+◌, ◌-◌, ◌*◌, ◌/◌, ◌%◌, ◌<◌, ◌≤◌, List, [], ◌∷◌, ◌++◌, length, map}
use Rattle.std.proofs.Common.{drop, replicate, flat_map, length-append}
use Rattle.std.proofs.Common.{refl, sym, ap, ◌∙◌, arith, subst, inl, inr, get_or, slice_set, append_assoc, append-nil}
use Rattle.std.proofs.lemmas.Bool.{cases_lt}
use Rattle.std.proofs.lemmas.List.{drop-set, drop_more, get_or-drop, get_or-replicate, get_or-take, length-drop}
use Rattle.std.proofs.lemmas.List.{map-append, length-map}
use Rattle.std.proofs.lemmas.List.Concat.{flat_map-cons}
use Rattle.std.proofs.Math.Seq.{drop-cons, set-append_seam, take-suc}
use Rattle.bus_tap.specs.Arrival.{Arrival}
use Rattle.std.proofs.lemmas.Grind.{flat_map-append}
use Rattle.std.specs.Prelude.{bit_or, slice_index, take}
use Rattle.bus_tap.specs.Blocks.{block_arrivals, edges_in, ones_in}
use Rattle.bus_tap.specs.declared.block.EdgeBlock.{EdgeBlock}
use Rattle.bus_tap.proofs.BlockLemmas.{arrivals-ones, none-in}
use Rattle.bus_tap.proofs.OnesLemmas.{ones-few}
use Rattle.bus_tap.specs.Sampled.{Timed, bits_of_edges, with_sample}
use Rattle.bus_tap.specs.declared.stop.StopRule.{StopRule}
use Rattle.bus_line.specs.Due.{places}
use Rattle.bus_tap.specs.Recorded.{record_at}
use Rattle.bus_tap.specs.Tapped.{TapState, AdvancesTap, channels}
use Rattle.bus_tap.specs.declared.wires.Wires.{Wires}
use Rattle.bus_tap.proofs.EachLemmas.{length-more}
use Rattle.bus_tap.proofs.StopLemmas.{stops-further, stops-nothing}
use Rattle.bus_tap.proofs.TapLemmas.{advances-further, advances-nothing, replicate-both, replicate-more}
use Rattle.port1_c.specs.Tap.{HasTapped, PutsArrivals, PutsTimed, TapsMore, TapsRuns, coded, levels_from, put_over}
use Rattle.port1_c.specs.Tap.{run_levels}
use Rattle.port1_c.specs.Tap.{samples_from}
use Rattle.port1_c.specs.declared.arrival.Port1Arrival.{Port1Arrival}

-- one arrival more
pub put-more : (start : List Port1Arrival) (xs : List Arrival) (x : Arrival) → length xs < length start →
    slice_set (put_over start xs) (length xs) (coded x) ≡ put_over start (xs ++ x ∷ [])
put-more start xs x room =
    let ys : List Port1Arrival = map coded xs in
    let next : Port1Arrival = get_or start (length xs) (coded x) in
    let rest : List Port1Arrival = drop (suc (length xs)) start in
    ap (λ zs. slice_set (ys ++ zs) (length xs) (coded x)) (drop-cons start (length xs) (coded x) room)
    ∙ ap (λ n. slice_set (ys ++ next ∷ rest) n (coded x)) (sym (length-map xs coded))
    ∙ set-append_seam ys next rest (coded x)
    ∙ sym
    (ap (λ zs. zs ++ drop (length (xs ++ x ∷ [])) start) (map-append coded xs (x ∷ []))
    ∙ ap (λ n. (ys ++ coded x ∷ []) ++ drop n start) (length-more xs x)
    ∙ append_assoc ys (coded x ∷ []) rest)

-- arrivals that are put one behind the other
pub puts-nothing : (count : ℕ) (old : List Port1Arrival) → PutsArrivals count old [] old
puts-nothing count old = record {
  long = refl;
  put = λ start ys number long is. is ∙ ap (put_over start) (sym (append-nil ys));
}

pub puts-further : (count next : ℕ) (old mid new : List Port1Arrival) (xs ys : List Arrival) →
    next ≡ count + length xs → PutsArrivals count old xs mid → PutsArrivals next mid ys new →
    PutsArrivals count old (xs ++ ys) new
puts-further count next old mid new xs ys is one two = record {
  long = two.long ∙ one.long;
  put = λ start zs number long from.
      two.put start (zs ++ xs) (omega (arith, is, number, length-append zs xs)) (long ∙ sym one.long)
      (one.put start zs number long from) ∙ ap (put_over start) (append_assoc zs xs ys);
}

-- before the first sample
pub tapped-none : (t : TapState) (r : StopRule) (start : List Port1Arrival) → HasTapped t r start [] t r start 0
tapped-none t r start = record {
  ts = [];
  xs = [];
  number = refl;
  fits = omega arith;
  put = refl;
  advances = advances-nothing t;
  rested = stops-nothing r;
}

-- bits that are put one behind the other
module _ (rule one two : StopRule) (old mid new : List Port1Arrival) (count next past : ℕ) where
  pub timed-further : (m n : ℕ) (us vs : List Timed) → PutsTimed m us rule old count one mid next →
      PutsTimed n vs one mid next two new past → PutsTimed (m + n) (us ++ vs) rule old count two new past
  timed-further m n us vs first second = record {
    xs = first.xs ++ second.xs;
    few = omega (arith, first.few, second.few, length-append first.xs second.xs);
    number = omega (arith, first.number, second.number, length-append first.xs second.xs);
    put = puts-further count next old mid new first.xs second.xs first.number first.put second.put;
    rested = stops-further rule one two us vs first.xs second.xs first.rested second.rested;
  }

-- further samples, and the bits that arrive with them
module _ (from old new : TapState) (rule one two : StopRule) (start before behind : List Port1Arrival)
    (ls more : List ℕ) (ts : List Timed) (most count past : ℕ) where
  pub tapped-more : length start ≡ length before → count + most ≤ length before → AdvancesTap old more ts new →
      PutsTimed most ts one before count two behind past → HasTapped from rule start ls old one before count →
      HasTapped from rule start (ls ++ more) new two behind past
  tapped-more long room advances puts tapped =
      let xs : List Arrival = tapped.xs ++ puts.xs in
      let count-all : past ≡ length xs = omega (arith, puts.number, tapped.number, length-append tapped.xs puts.xs) in
      record {
        ts = tapped.ts ++ ts;
        xs = xs;
        number = count-all;
        fits = omega (arith, count-all, puts.number, puts.few, long, room);
        put = puts.put.put start tapped.xs tapped.number long tapped.put;
        advances = advances-further from old new ls more tapped.ts ts tapped.advances advances;
        rested = stops-further rule one two tapped.ts ts tapped.xs puts.xs tapped.rested puts.rested;
      }

-- what arrives with a sample of a block
abbrev arrive-at : ℕ → EdgeBlock → ℕ → List Timed
arrive-at from e i = with_sample (from + i) (bits_of_edges (edges_in e i))

-- the bits of a block are put, but for those of the samples that are left
pub record PutsFront (from : ℕ) (e : EdgeBlock) (left : ℕ) (rule : StopRule) (old : List Port1Arrival) (count : ℕ)
    (stops : StopRule) (new : List Port1Arrival) (past : ℕ) : Type 0 where
  pub done : List ℕ
  pub ones : ones_in (bit_or e.first.rises e.second.rises) ≡ done ++ ones_in left
  pub puts : PutsTimed (32 * length done) (flat_map (arrive-at from e) done) rule old count stops new past

module _ (from : ℕ) (e : EdgeBlock) (rule : StopRule) (old : List Port1Arrival) (count : ℕ) where
  pub front-none : PutsFront from e (bit_or e.first.rises e.second.rises) rule old count rule old count
  front-none = record {
    done = [];
    ones = refl;
    puts = record {
      xs = [];
      few = omega arith;
      number = omega arith;
      put = puts-nothing count old;
      rested = stops-nothing rule;
    };
  }

  module _ (left rest place : ℕ) (stops : StopRule) (new : List Port1Arrival) (past : ℕ)
      (front : PutsFront from e left rule old count stops new past) where
    front-few : length front.done + length (ones_in left) ≤ 64
    front-few =
        omega (
          arith,
          ap length front.ones,
          length-append front.done (ones_in left),
          ones-few (bit_or e.first.rises e.second.rises),
        )

    pub front-room : ones_in left ≡ place ∷ ones_in rest → count + 2048 ≤ length old → past + 32 ≤ length new
    front-room next room =
        omega (arith, front-few, ap length next, room, front.puts.number, front.puts.few, front.puts.put.long)

    pub front-next : ones_in left ≡ place ∷ ones_in rest → (two : StopRule) (more : List Port1Arrival) (last : ℕ) →
        PutsTimed 32 (arrive-at from e place) stops new past two more last →
        PutsFront from e rest rule old count two more last
    front-next next two more last puts =
        let done = front.done ++ place ∷ [] in
        let size : 32 * length done ≡ 32 * length front.done + 32 =
        omega (arith, length-append front.done (place ∷ [])) in
        let all : flat_map (arrive-at from e) done ≡ flat_map (arrive-at from e) front.done ++ arrive-at from e place =
        flat_map-append (arrive-at from e) front.done (place ∷ [])
        ∙ ap (λ ts. flat_map (arrive-at from e) front.done ++ ts) (append-nil (arrive-at from e place)) in record {
          done = done;
          ones = front.ones ∙ (ap (λ l. front.done ++ l) next
              ∙ sym (append_assoc front.done (place ∷ []) (ones_in rest)));
          puts = rw (size, all) (timed-further rule stops two old new more count past last (32 * length front.done) 32
              (flat_map (arrive-at from e) front.done) (arrive-at from e place) front.puts puts);
        }

    pub front-all : left ≡ 0 → PutsTimed 2048 (block_arrivals from e) rule old count stops new past
    front-all none =
        let end : ones_in left ≡ [] = ap ones_in none ∙ none-in in
        let all : ones_in (bit_or e.first.rises e.second.rises) ≡ front.done =
        front.ones ∙ (ap (λ l. front.done ++ l) end ∙ append-nil front.done) in
        let puts = front.puts in record {
          xs = puts.xs;
          few = omega (arith, puts.few, front-few);
          number = puts.number;
          put = puts.put;
          rested = rw (arrivals-ones from e ∙ ap (flat_map (arrive-at from e)) all) puts.rested;
        }

-- what holds below a number, and of it, holds below the next
pub up-to : (P : ℕ → Type 0) (n : ℕ) → ((k : ℕ) → k < n → P k) → P n → (k : ℕ) → k < n + 1 → P k
up-to P n below here k inside =
    elim (cases_lt k n) [
      | inl less ↦ below k less
      | inr more ↦ subst P (omega (arith, inside, more)) here
    ]

-- some samples more, which are the same
samples-next : (width : ℕ) (octets : List ℕ) (from n : ℕ) →
    samples_from width octets from (suc n) ≡ samples_from width octets from n ++ record_at width octets (from + n) ∷ []
samples-next width octets from n = map-append (λ k. record_at width octets (from + k)) (places n) (n ∷ [])

samples-further : (width : ℕ) (octets : List ℕ) (from n m : ℕ) →
    samples_from width octets from (n + m) ≡ samples_from width octets from n ++ samples_from width octets (from + n) m
samples-further width octets from n zero =
    let none : n + 0 ≡ n = omega arith in
    rw none (sym (append-nil (samples_from width octets from n)))
samples-further width octets from n (suc m) =
    let next : n + suc m ≡ suc (n + m) = omega arith in
    let here : from + (n + m) ≡ from + n + m = omega arith in
    let front = samples_from width octets from n in
    let back = samples_from width octets (from + n) m in
    ap (samples_from width octets from) next
    ∙ samples-next width octets from (n + m)
    ∙ ap (λ xs. xs ++ record_at width octets (from + (n + m)) ∷ []) (samples-further width octets from n m)
    ∙ ap (λ k. (front ++ back) ++ record_at width octets k ∷ []) here
    ∙ append_assoc front back (record_at width octets (from + n + m) ∷ [])
    ∙ ap (λ xs. front ++ xs) (sym (samples-next width octets (from + n) m))

-- and their levels
pub levels-more : (wires : Wires) (width : ℕ) (octets : List ℕ) (from at n : ℕ) → from ≤ at →
    map (channels wires) (samples_from width octets from (at + n - from))
    ≡ map (channels wires) (samples_from width octets from (at - from))
    ++ map (channels wires) (samples_from width octets at n)
levels-more wires width octets from at n order =
    let parts : at + n - from ≡ (at - from) + n = omega (arith, order) in
    let there : from + (at - from) ≡ at = omega (arith, order) in
    ap (λ k. map (channels wires) (samples_from width octets from k)) parts
    ∙ ap (map (channels wires)) (samples-further width octets from (at - from) n)
    ∙ map-append (channels wires) (samples_from width octets from (at - from))
    (samples_from width octets (from + (at - from)) n)
    ∙ ap (λ k. map (channels wires) (samples_from width octets from (at - from))
    ++ map (channels wires) (samples_from width octets k n)) there

-- samples that are the same
samples-alike : (width : ℕ) (octets : List ℕ) (at sample n : ℕ) →
    ((k : ℕ) → k < n → record_at width octets (at + k) ≡ sample) → samples_from width octets at n ≡ replicate n sample
samples-alike width octets at sample zero same = refl
samples-alike width octets at sample (suc n) same =
    let one : suc n ≡ n + 1 = omega arith in
    samples-next width octets at n
    ∙ ap (λ xs. xs ++ record_at width octets (at + n) ∷ [])
    (samples-alike width octets at sample n (λ k less. same k (omega (arith, less))))
    ∙ ap (λ s. replicate n sample ++ s ∷ []) (same n (omega arith))
    ∙ sym (ap (λ k. replicate k sample) one ∙ replicate-more n sample)

map-replicate : (f : ℕ → ℕ) (n s : ℕ) → map f (replicate n s) ≡ replicate n (f s)
map-replicate f zero s = refl
map-replicate f (suc n) s = ap (λ xs. f s ∷ xs) (map-replicate f n s)

pub levels-alike : (wires : Wires) (width : ℕ) (octets : List ℕ) (at sample level n : ℕ) →
    ((k : ℕ) → k < n → record_at width octets (at + k) ≡ sample) → level ≡ channels wires sample →
    map (channels wires) (samples_from width octets at n) ≡ replicate n level
levels-alike wires width octets at sample level n same is-level =
    ap (map (channels wires)) (samples-alike width octets at sample n same)
    ∙ (map-replicate (channels wires) n sample ∙ ap (replicate n) (sym is-level))

-- samples of an octet each are these octets
octet-at : (octets : List ℕ) (k : ℕ) → k < length octets → record_at 1 octets k ≡ get_or octets k 0
octet-at octets k inside =
    let place : k * 1 ≡ k = omega arith in
    rw (place, drop-cons octets k 0 inside) (omega arith)

-- octets that are the same are samples that are
pub octets-alike : (octets : List ℕ) (at end n sample : ℕ) → end ≤ length octets → n ≤ end - at →
    take n (take (end - at) (drop at octets)) ≡ replicate n (slice_index (take (end - at) (drop at octets)) 0) →
    sample ≡ record_at 1 octets at → (k : ℕ) → k < n → record_at 1 octets (at + k) ≡ sample
octets-alike octets at end n sample within few alike first k inside =
    let some = take (end - at) (drop at octets) in
    let zero : at + 0 ≡ at = omega arith in
    let there : (i : ℕ) → i < n → get_or some i 0 ≡ record_at 1 octets (at + i) = λ i below.
    get_or-take (end - at) (drop at octets) i 0 (omega (arith, below, few))
    ∙ (get_or-drop at octets i 0 ∙ sym (octet-at octets (at + i) (omega (arith, below, few, within)))) in
    sym (there k inside)
    ∙ (sym (get_or-take n some k 0 inside)
    ∙ (ap (λ l. get_or l k 0) alike
    ∙ (get_or-replicate n k (slice_index some 0) 0 inside
    ∙ (there 0 (omega (arith, inside)) ∙ (ap (record_at 1 octets) zero ∙ sym first)))))

pub samples-octets : (octets : List ℕ) (at n : ℕ) → at + n ≤ length octets →
    samples_from 1 octets at n ≡ take n (drop at octets)
samples-octets octets at zero within = refl
samples-octets octets at (suc n) within =
    let inside : at + n < length octets = omega (arith, within) in
    let rest : n < length (drop at octets) = omega (arith, within, length-drop at octets) in
    samples-next 1 octets at n
    ∙ ap (λ xs. xs ++ record_at 1 octets (at + n) ∷ []) (samples-octets octets at n (omega (arith, within)))
    ∙ ap (λ x. take n (drop at octets) ++ x ∷ [])
    (octet-at octets (at + n) inside ∙ sym (get_or-drop at octets n 0))
    ∙ sym (take-suc (drop at octets) n 0 rest)

-- no samples more, and some behind others
pub taps-none : (t : TapState) (r : StopRule) (arrivals : List Port1Arrival) (count : ℕ) →
    TapsMore t r arrivals count [] t r arrivals count
taps-none t r arrivals count = λ from rule start ls long tapped.
    subst (λ l. HasTapped from rule start l t r arrivals count) (sym (append-nil ls)) tapped

module _ (old mid new : TapState) (one two three : StopRule) (before between behind : List Port1Arrival)
    (count next past : ℕ) (xs ys : List ℕ) where
  pub taps-further : length between ≡ length before → TapsMore old one before count xs mid two between next →
      TapsMore mid two between next ys new three behind past →
      TapsMore old one before count (xs ++ ys) new three behind past
  taps-further long first second = λ from rule start ls same tapped.
      subst (λ l. HasTapped from rule start l new three behind past) (append_assoc ls xs ys)
      (second from rule start (ls ++ xs) (same ∙ sym long) (first from rule start ls same tapped))

-- the first of some runs
pub levels-of-run : (wires : Wires) (runs : List ℕ) (i : ℕ) → i < length runs →
    levels_from wires runs i ≡ run_levels wires (get_or runs i 0) ++ levels_from wires runs (i + 1)
levels-of-run wires runs i inside =
    ap (flat_map (run_levels wires)) (drop_more runs i 0 inside)
    ∙ flat_map-cons (run_levels wires) (get_or runs i 0) (drop (i + 1) runs)

-- what is left of a run
pub left-of-run : (run left : ℕ) → left ≤ run / 256 →
    ((run - 256 * (run / 256 - left)) / 256 ≡ left) × ((run - 256 * (run / 256 - left)) % 256 ≡ run % 256)
left-of-run run left few = (omega (arith, few), omega (arith, few))

run-parts : (wires : Wires) (run left : ℕ) → left ≤ run / 256 →
    run_levels wires run ≡ replicate (run / 256 - left) (channels wires (run % 256))
    ++ run_levels wires (run - 256 * (run / 256 - left))
run-parts wires run left few =
    let level : ℕ = channels wires (run % 256) in
    let both : run / 256 ≡ (run / 256 - left) + left = omega (arith, few) in
    ap (λ k. replicate k level) both
    ∙ replicate-both (run / 256 - left) left level
    ∙ ap (λ l. replicate (run / 256 - left) level ++ l)
    (sym (ap (λ k. replicate k (channels wires ((run - 256 * (run / 256 - left)) % 256))) (left-of-run run left few).0
    ∙ ap (λ k. replicate left (channels wires k)) (left-of-run run left few).1))

-- runs that are taken
pub runs-none : (t : TapState) (r : StopRule) (start : List Port1Arrival) (wires : Wires) (runs : List ℕ) (at : ℕ) →
    TapsRuns t r start wires runs at t r start 0 runs at
runs-none t r start wires runs at = record { levels = []; taken = refl; tapped = tapped-none t r start }

module _ (from old new : TapState) (rule one two : StopRule) (start before behind : List Port1Arrival) (wires : Wires)
    (runs : List ℕ) (at i count past left : ℕ) where
  abbrev pub run-there : ℕ
  run-there = get_or runs i 0

  abbrev pub levels-taken : List ℕ
  levels-taken = replicate (run-there / 256 - left) (channels wires (run-there % 256))

  pub runs-part : i < length runs → length start ≡ length before → left ≤ run-there / 256 →
      TapsRuns from rule start wires runs at old one before count runs i →
      TapsMore old one before count levels-taken new two behind past →
      TapsRuns from rule start wires runs at new two behind past
      (slice_set runs i (run-there - 256 * (run-there / 256 - left))) i
  runs-part inside long few tapped more =
      let rest : List ℕ = levels_from wires runs (i + 1) in
      let next : ℕ = run-there - 256 * (run-there / 256 - left) in
      let there : levels_from wires (slice_set runs i next) i ≡ run_levels wires next ++ rest =
      ap (flat_map (run_levels wires)) (drop-set runs i next inside)
      ∙ flat_map-cons (run_levels wires) next (drop (i + 1) runs) in record {
        levels = tapped.levels ++ levels-taken;
        taken = tapped.taken
            ∙ ap (λ l. tapped.levels ++ l) (levels-of-run wires runs i inside
            ∙ ap (λ l. l ++ rest) (run-parts wires run-there left few)
            ∙ append_assoc levels-taken (run_levels wires next) rest
            ∙ ap (λ l. levels-taken ++ l) (sym there))
            ∙ sym (append_assoc tapped.levels levels-taken (levels_from wires (slice_set runs i next) i));
        tapped = more from rule start tapped.levels long tapped.tapped;
      }

  pub runs-whole : i < length runs → length start ≡ length before → left ≡ 0 →
      TapsRuns from rule start wires runs at old one before count runs i →
      TapsMore old one before count levels-taken new two behind past →
      TapsRuns from rule start wires runs at new two behind past runs (i + 1)
  runs-whole inside long none tapped more =
      let all : run-there / 256 - left ≡ run-there / 256 = omega (arith, none) in record {
        levels = tapped.levels ++ levels-taken;
        taken = tapped.taken
            ∙ ap (λ l. tapped.levels ++ l) (levels-of-run wires runs i inside
            ∙ ap (λ k. replicate k (channels wires (run-there % 256)) ++ levels_from wires runs (i + 1)) (sym all))
            ∙ sym (append_assoc tapped.levels levels-taken (levels_from wires runs (i + 1)));
        tapped = more from rule start tapped.levels long tapped.tapped;
      }
