-- What a call did that was to append to a text.
use Rattle.std.specs.Prelude.{◌≡◌, ◌+◌, ◌++◌, ◌≤◌, ℕ, List}
use Rattle.arrayvec.specs.ArrayVec.{ArrayVec, array_vec_len}
use Rattle.bus_text.specs.declared.page.Page.{Page}

-- a text went from `old` to `new` by a part of at most so many octets
pub record AdvancesText (old : ArrayVec ℕ) (part : List ℕ) (most : ℕ) (new : ArrayVec ℕ) : Type 0 where
  pub bytes : new.items ≡ old.items ++ part
  pub len : array_vec_len new ≤ array_vec_len old + most

-- likewise the text of a page, of which nothing was written
pub record AdvancesPage (old : Page) (part : List ℕ) (most : ℕ) (new : Page) : Type 0 where
  pub bytes : new.text.items ≡ old.text.items ++ part
  pub len : array_vec_len new.text ≤ array_vec_len old.text + most
  pub written : new.written ≡ old.written
