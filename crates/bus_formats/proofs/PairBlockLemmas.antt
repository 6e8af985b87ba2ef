-- Pairs that are parted into octets of either line.
use Rattle.std.proofs.Common.{◌≡◌, ℕ, ◌+◌, ◌-◌, ◌*◌, ◌/◌, ◌%◌, ◌^◌, ◌<◌, ◌≤◌, List, Bool, [], ◌∷◌, ◌++◌, length, take}
use Rattle.std.proofs.Common.{drop, zip, append-nil, length-append, refl, sym, ap, ◌∙◌, arith}
use Rattle.std.specs.Prelude.{slice_index, slice_set}
use Rattle.std.proofs.lemmas.List.{get_or-take, length-drop, length-set, length-take, take_more_set}
use Rattle.std.proofs.lemmas.Nat.{shr-shr}
use Rattle.std.proofs.lemmas.Slice.{take-put_mid}
use borrow.Rule.Slice.PartMut.{put_mid}
use Rattle.bus_bits.specs.Octet.{bits_of, bits_of_octets}
use Rattle.bus_bits.specs.Bits.{bits_from}
use Rattle.bus_formats.specs.Packed.{in_pairs}
use Rattle.bus_bits.proofs.BitLemmas.{bits-more, length-from}
use Rattle.bus_bits.proofs.OctetLemmas.{length-bits, bits_of_octets-append, bits_of_octets-push, bits-low, bits-split}
use Rattle.bus_formats.proofs.PairsLemmas.{pairs-append}
use Rattle.bus_bits.proofs.ListLemmas.{zip-append}
use Rattle.bus_bits.proofs.WordLemmas.{bits-octets}

-- four octets of a number
pub four-bits : (b : ℕ) → bits_of_octets (b % 256 ∷ b / 256 % 256 ∷ b / 65536 % 256 ∷ b / 16777216 % 256 ∷ [])
    ≡ bits_of 32 b
unfolding bits_of_octets
four-bits b =
    let second : b / 2 ^ 8 / 2 ^ 8 ≡ b / 65536 = shr-shr b 8 8 in
    let third : b / 65536 / 2 ^ 8 ≡ b / 16777216 = shr-shr b 16 8 in
    let low : (n : ℕ) → bits_of 8 (n % 256) ≡ bits_of 8 n = λ n. bits-low 8 n in
    let one : bits_of_octets (b / 16777216 % 256 ∷ []) ≡ bits_of 8 (b / 16777216) =
    append-nil (bits_of 8 (b / 16777216 % 256)) ∙ low (b / 16777216) in
    let two : bits_of_octets (b / 65536 % 256 ∷ b / 16777216 % 256 ∷ []) ≡ bits_of 16 (b / 65536) =
    ap (λ bits. bits ++ bits_of_octets (b / 16777216 % 256 ∷ [])) (low (b / 65536))
    ∙ (ap (λ bits. bits_of 8 (b / 65536) ++ bits) (one ∙ ap (bits_of 8) (sym third))
    ∙ sym (bits-split 8 8 (b / 65536))) in
    let three : bits_of_octets (b / 256 % 256 ∷ b / 65536 % 256 ∷ b / 16777216 % 256 ∷ []) ≡ bits_of 24 (b / 256) =
    ap (λ bits. bits ++ bits_of_octets (b / 65536 % 256 ∷ b / 16777216 % 256 ∷ [])) (low (b / 256))
    ∙ (ap (λ bits. bits_of 8 (b / 256) ++ bits) (two ∙ ap (bits_of 16) (sym second))
    ∙ sym (bits-split 8 16 (b / 256))) in
    ap (λ bits. bits ++ bits_of_octets (b / 256 % 256 ∷ b / 65536 % 256 ∷ b / 16777216 % 256 ∷ [])) (low b)
    ∙ (ap (λ bits. bits_of 8 b ++ bits) three ∙ sym (bits-split 8 24 b))

-- the first octets of a slice
bits-front-octets : (os : List ℕ) (k : ℕ) → k ≤ length os → bits_from os 0 (8 * k) ≡ bits_of_octets (take k os)
bits-front-octets os k within =
    let long : length (take k os) ≡ k = omega (arith, length-take k os, within) in
    sym (bits-octets (take k os) os 0 0 (8 * k) refl (ap (λ (n : ℕ). 8 * n) (sym long))
    (λ i below. get_or-take k os i 0 (omega (arith, below, long)) ∙ ap (slice_index os) (omega arith)))

-- and some that were written after them
pub bits-stored : (os written : List ℕ) (from k n : ℕ) → k ≡ length written → n ≡ from + k → n ≤ length os
    → bits_from (put_mid from (n - from) os written) 0 (8 * n) ≡ bits_from os 0 (8 * from) ++ bits_of_octets written
bits-stored os written from k n long sum room =
    let behind = drop (n - from) (drop from os) in
    let same : length (put_mid from (n - from) os written) ≡ length os =
    omega (
      arith,
      length-append (take from os) (written ++ behind),
      length-append written behind,
      length-take from os,
      length-drop (n - from) (drop from os),
      length-drop from os,
      long,
      sum,
      room,
    ) in
    bits-front-octets (put_mid from (n - from) os written) n (omega (arith, same, room))
    ∙ (ap bits_of_octets
    (take-put_mid from (n - from) os written n (omega (arith, sum, long)) (omega (arith, sum, room)))
    ∙ (bits_of_octets-append (take from os) written
    ∙ rw (bits-front-octets os from (omega (arith, sum, room))) refl))

-- octets more, whose pairs are parted
pub pairs-parted : (os first second further others : List ℕ) (i j count : ℕ) (ones twos : List Bool)
    → in_pairs (bits_from os 0 (8 * i)) ≡ zip (bits_from first 0 (4 * i)) (bits_from second 0 (4 * i))
    → 8 * j ≡ 8 * i + count → in_pairs (bits_from os (8 * i) count) ≡ zip ones twos
    → bits_from further 0 (4 * j) ≡ bits_from first 0 (4 * i) ++ ones
    → bits_from others 0 (4 * j) ≡ bits_from second 0 (4 * i) ++ twos
    → in_pairs (bits_from os 0 (8 * j)) ≡ zip (bits_from further 0 (4 * j)) (bits_from others 0 (4 * j))
pairs-parted os first second further others i j count ones twos before all parted one two =
    let here : 0 + 8 * i ≡ 8 * i = omega arith in
    let even : length (bits_from os 0 (8 * i)) % 2 ≡ 0 = omega (arith, length-from os 0 (8 * i)) in
    let grown : in_pairs (bits_from os 0 (8 * j)) ≡ in_pairs (bits_from os 0 (8 * i))
    ++ in_pairs (bits_from os (8 * i) count) =
    ap (λ (n : ℕ). in_pairs (bits_from os 0 n)) all
    ∙ (ap in_pairs (bits-more os 0 (8 * i) count ∙ ap (λ (k : ℕ). bits_from os 0 (8 * i) ++ bits_from os k count) here)
    ∙ pairs-append (bits_from os 0 (8 * i)) (bits_from os (8 * i) count) even) in
    rw (one, two)
    (grown
    ∙ rw (before, parted)
    (sym (zip-append (bits_from first 0 (4 * i)) (bits_from second 0 (4 * i)) ones twos
    (length-from first 0 (4 * i) ∙ sym (length-from second 0 (4 * i))))))

-- sixteen octets in two numbers, each parted
pub sixteen-parted : (os : List ℕ) (i low high a b c d : ℕ)
    → bits_of 64 low ≡ bits_from os (8 * i) 64 → bits_of 64 high ≡ bits_from os (8 * (i + 8)) 64
    → in_pairs (bits_of 64 low) ≡ zip (bits_of 32 a) (bits_of 32 c) →
    in_pairs (bits_of 64 high) ≡ zip (bits_of 32 b) (bits_of 32 d)
    → in_pairs (bits_from os (8 * i) 128) ≡ zip (bits_of 32 a ++ bits_of 32 b) (bits_of 32 c ++ bits_of 32 d)
sixteen-parted os i low high a b c d front behind one two =
    let here : 8 * i + 64 ≡ 8 * (i + 8) = omega arith in
    let even : length (bits_of 64 low) % 2 ≡ 0 = omega (arith, length-bits 64 low) in
    let all : bits_from os (8 * i) 128 ≡ bits_of 64 low ++ bits_of 64 high =
    bits-more os (8 * i) 64 64 ∙ rw (here, front, behind) refl in
    ap in_pairs all
    ∙ (pairs-append (bits_of 64 low) (bits_of 64 high) even
    ∙ rw (one, two)
    (sym (zip-append (bits_of 32 a) (bits_of 32 c) (bits_of 32 b) (bits_of 32 d)
    (length-bits 32 a ∙ sym (length-bits 32 c)))))

-- an octet that was written after those before it
pub octet-stored : (os : List ℕ) (i o : ℕ) → i < length os →
    bits_from (slice_set os i o) 0 (8 * (i + 1)) ≡ bits_from os 0 (8 * i) ++ bits_of 8 o
octet-stored os i o inside =
    bits-front-octets (slice_set os i o) (i + 1) (omega (arith, length-set os i o, inside))
    ∙ (ap bits_of_octets (take_more_set os i o inside)
    ∙ (bits_of_octets-push (take i os) o
    ∙ rw (bits-front-octets os i (omega (arith, inside))) refl))

-- eight pairs more, an octet of either line
pub pairs-stored : (first second : List ℕ) (i f s : ℕ) → i < length first → i < length second
    → zip (bits_from (slice_set first i f) 0 (8 * (i + 1))) (bits_from (slice_set second i s) 0 (8 * (i + 1)))
    ≡ zip (bits_from first 0 (8 * i)) (bits_from second 0 (8 * i)) ++ zip (bits_of 8 f) (bits_of 8 s)
pairs-stored first second i f s inside-first inside-second =
    rw (octet-stored first i f inside-first, octet-stored second i s inside-second)
    (zip-append (bits_from first 0 (8 * i)) (bits_from second 0 (8 * i)) (bits_of 8 f) (bits_of 8 s)
    (length-from first 0 (8 * i) ∙ sym (length-from second 0 (8 * i))))
