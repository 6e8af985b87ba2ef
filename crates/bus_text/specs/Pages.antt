-- A text that is written by and by.
use Rattle.std.specs.Prelude.{◌≡◌, ◌+◌, ◌++◌, ◌≤◌, ℕ, List, length, take, Option, Result, Ok, Err}
use Rattle.std.specs.Io.KnownBytes.{Appends}
use Rattle.arrayvec.specs.ArrayVec.{ArrayVec, array_vec_len}
use Rattle.bus_text.specs.declared.page.Page.{Page}
use Rattle.bus_text.specs.declared.put.ShortWrite.{ShortWrite}

-- the writer went from `start` to `now`: with Ok by the whole text, and else by a front of it
abbrev pub Puts : Option (List ℕ) → Option (List ℕ) → List ℕ → Result ℕ ShortWrite → Type 0
Puts start now text (Ok sent) = Appends start now text × (sent ≡ length text)
Puts start now text (Err cut) = Appends start now (take cut.sent text) × (cut.sent ≤ length text)

-- a text, the last part of which stands on a page and the rest of which was written
pub record Pages (start now : Option (List ℕ)) (page : ArrayVec ℕ) (written : ℕ) (text : List ℕ) : Type 0 where
  pub sent : List ℕ
  pub out : Appends start now sent
  pub count : written ≡ length sent
  pub whole : text ≡ sent ++ page.items

-- a page, which holds 16384 octets, has room for so many more
abbrev pub HasRoomFor : ℕ → Page → Type 0
HasRoomFor more page = array_vec_len page.text + more ≤ 16384
