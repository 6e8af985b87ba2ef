-- Eight octets that are the same.
use Rattle.std.proofs.Common.{◌≡◌, ◌+◌, ◌*◌, ◌^◌, ◌<◌, ◌≤◌, ℕ, suc, List, ◌∷◌, ◌++◌, length, take, drop, replicate}
use Rattle.std.proofs.Common.{w64, refl, sym, ap, ◌∙◌, arith, get_or, inl, inr, All}
use Rattle.std.specs.Prelude.{slice_index}
use Rattle.std.specs.Int.{from_le_bytes}
use Rattle.std.proofs.Math.Seq.{take-add}
use Rattle.std.proofs.lemmas.Nat.{le_bytes_8}
use Rattle.std.proofs.lemmas.List.{drop_more, length-replicate, get_or-replicate, get_or_past}
use Rattle.std.proofs.lemmas.List.{replicate-append-replicate}
use Rattle.std.proofs.lemmas.Bool.{cases_lt}
use Rattle.bus_bits.specs.Bits.{bits_from}
use Rattle.bus_bits.specs.Octet.{bits_of}
use Rattle.bus_bits.proofs.WordLemmas.{eight, eight-is, eight-items, word-eight}

-- one number comes of one list of octets
one-list : (xs ys : List ℕ) (n : ℕ) → length xs ≡ 8 → length ys ≡ 8 → ((i : ℕ) → get_or xs i 0 < 256) →
    ((i : ℕ) → get_or ys i 0 < 256) → n ≡ from_le_bytes w64 xs → n ≡ from_le_bytes w64 ys → xs ≡ ys
one-list xs ys n long also small few is so = sym (le_bytes_8 xs n long small is) ∙ le_bytes_8 ys n also few so

module _ (xs : List ℕ) (count first : ℕ) (octets : (i : ℕ) → slice_index xs i < 256) (octet : first < 256)
    (enough : count + 8 ≤ length xs) where
  next : (k : ℕ) → k < 8 → drop (count + k) xs ≡ slice_index xs (count + k) ∷ drop (count + suc k) xs
  next k inside =
      drop_more xs (count + k) 0 (omega (arith, enough, inside))
      ∙ ap (λ i. slice_index xs (count + k) ∷ drop i xs) (omega arith)

  front : take 8 (drop (count + 0) xs) ≡ eight xs count
  front =
      let zero : count + 0 ≡ count = omega arith in
      rw (
        next 0 (omega arith),
        next 1 (omega arith),
        next 2 (omega arith),
        next 3 (omega arith),
        next 4 (omega arith),
        next 5 (omega arith),
        next 6 (omega arith),
        next 7 (omega arith),
        zero,
      ) refl

  items : (i : ℕ) → get_or (eight xs count) i 0 < 256
  items i = elim (cases_lt i 8) [
    | inl inside ↦ rw (eight-items xs count i inside) (octets (count + i))
    | inr past ↦ rw (get_or_past (eight xs count) i 0 past) (omega arith)
  ]

  firsts : (i : ℕ) → get_or (replicate 8 first) i 0 < 256
  firsts i = elim (cases_lt i 8) [
    | inl inside ↦ rw (get_or-replicate 8 i first 0 inside) octet
    | inr past ↦
        rw (get_or_past (replicate 8 first) i 0 (omega (arith, length-replicate 8 first, past))) (omega arith)
  ]

  pub eight-more : (n : ℕ) → n < 2 ^ 64 → bits_of 64 n ≡ bits_from xs (8 * count) 64 →
      n ≡ from_le_bytes w64 (replicate 8 first) → take count xs ≡ replicate count first →
      take (count + 8) xs ≡ replicate (count + 8) first
  eight-more n fits is so same =
      let zero : count + 0 ≡ count = omega arith in
      let read : n ≡ from_le_bytes w64 (eight xs count) =
      eight-is xs count n octets fits is ∙ sym (word-eight (eight xs count) refl) in
      take-add count 8 xs
      ∙ (ap (λ l. l ++ take 8 (drop count xs)) same
      ∙ (ap (λ l. replicate count first ++ l)
      (rw zero at front
      ∙ one-list (eight xs count) (replicate 8 first) n refl (length-replicate 8 first) items firsts read so)
      ∙ replicate-append-replicate count 8 first))
