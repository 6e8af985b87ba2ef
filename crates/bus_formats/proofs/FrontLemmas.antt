-- The first eight octets of some.
use Rattle.std.proofs.Common.{◌≡◌, ◌<◌, ℕ, List, take, length, Fits, w8, slice_index_or, sym, ap, ◌∙◌, subst, arith}
use Rattle.std.proofs.lemmas.List.{length-take}
use Rattle.std.proofs.lemmas.List.Elements.{All-take, All-from_get_or}
use Rattle.std.specs.Array.{IsFirstChunk}
use Rattle.std.specs.List.{All}

pub all-small : (xs : List ℕ) → ((i : ℕ) → Fits w8 (slice_index_or xs i 0)) → All (λ b. b < 256) xs
all-small xs fits = All-from_get_or (λ b. b < 256) xs 0 (λ i inside. (fits i).fits)

-- the first eight octets
pub record IsFront (xs ys : List ℕ) : Type 0 where
  pub long : length ys ≡ 8
  pub small : All (λ b. b < 256) ys
  pub same : ys ≡ take 8 xs

pub first_chunk_front : (xs ys : List ℕ) → ((i : ℕ) → Fits w8 (slice_index_or xs i 0)) → IsFirstChunk xs ys 8 →
    IsFront xs ys
first_chunk_front xs ys fits chunk = record {
  long = ap length chunk.same ∙ omega (arith, length-take 8 xs, chunk.enough);
  small = subst (All (λ b. b < 256)) (sym chunk.same) (All-take (λ b. b < 256) 8 xs (all-small xs fits));
  same = chunk.same;
}
