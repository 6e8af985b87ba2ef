-- A bit of each of eight octets, by a product.
use Rattle.std.proofs.Common.{◌≡◌, ℕ, zero, suc, ◌+◌, ◌*◌, ◌/◌, ◌%◌, ◌<◌, ◌==◌, inl, inr, Bool, true, ◌&&◌, cond}
use Rattle.std.proofs.Common.{List, [], ◌∷◌, length, map, bit_and, refl, sym, ap, ◌∙◌, arith}
use Rattle.std.proofs.lemmas.Bool.{cases_order, and_parts, eqb-true}
use Rattle.std.proofs.lemmas.List.Elements.{All-head, All-tail}
use Rattle.std.proofs.lemmas.Nat.{and_block}
use Rattle.std.specs.List.{All}
use Rattle.bus_bits.specs.Octet.{bits_of, number}
use Rattle.bus_bits.proofs.WordLemmas.{word}
use Rattle.bus_bits.proofs.OctetLemmas.{bits-number, number-lt}

-- a test of each number below n
unfoldable pub upto : (ℕ → Bool) → ℕ → Bool
upto p zero = true
upto p (suc n) = p n && upto p n

pub upto-all : (p : ℕ → Bool) (n : ℕ) → upto p n ≡ true → (i : ℕ) → i < n → p i ≡ true
unfolding upto
upto-all p zero all i below = absurd (omega (arith, below))
upto-all p (suc n) all i below =
    let both = and_parts (p n) (upto p n) all in
    elim (cases_order i n) [
      | inl last ↦ rw last both.0
      | inr (inl less) ↦ upto-all p n both.1 i less
      | inr (inr less) ↦ absurd (omega (arith, below, less))
    ]

-- one octet many times
unfoldable pub copies : ℕ → ℕ → ℕ
copies c zero = 0
copies c (suc n) = copies c n * 256 + c

-- an operation on bits works on each octet
pub word-and : (c : ℕ) (bs : List ℕ) → c < 256 → All (λ b. b < 256) bs
    → bit_and (word bs) (copies c (length bs)) ≡ word (map (λ b. bit_and b c) bs)
unfolding word copies
word-and c [] octet small = refl
word-and c (b ∷ bs) octet small =
    and_block 8 (word bs) (copies c (length bs)) b c (All-head (λ n. n < 256) b bs small) octet
    ∙ ap (λ n. n * 256 + bit_and b c) (word-and c bs octet (All-tail (λ n. n < 256) b bs small))

-- eight octets, each 0 or 1, as the bits of the highest octet of a product
abbrev pub gathered : ℕ → ℕ
gathered n = n * 72624976668147840 % 18446744073709551616 / 72057594037927936

gathers : ℕ → Bool
gathers o = gathered (word (map (λ b. cond b 1 0) (bits_of 8 o))) == o

all-gathers : upto gathers 256 ≡ true
unfolding upto gathers word bits_of
all-gathers = refl

pub gathered-is : (ys : List Bool) → length ys ≡ 8 → gathered (word (map (λ b. cond b 1 0) ys)) ≡ number ys
unfolding gathers
gathered-is ys eight =
    let small : number ys < 256 = rw eight at (number-lt ys) in
    ap (λ (z : List Bool). gathered (word (map (λ b. cond b 1 0) z))) (sym (bits-number ys 8 eight))
    ∙ eqb-true (gathered (word (map (λ b. cond b 1 0) (bits_of 8 (number ys))))) (number ys)
    (upto-all gathers 256 all-gathers (number ys) small)
