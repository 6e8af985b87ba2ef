-- A text on a page, as it goes on.
use Rattle.std.proofs.Common.{◌≡◌, ℕ, ◌+◌, ◌<◌, List, [], ◌∷◌, ◌++◌, length, take, Option, refl, sym, ap, ◌∙◌, subst}
use Rattle.std.proofs.Common.{arith, append_assoc, append-nil, length-append}
use Rattle.std.specs.Io.KnownBytes.{Appends}
use Rattle.std.proofs.Math.Seq.{take-length}
use Rattle.std.proofs.lemmas.List.{take-append-le}
use Rattle.arrayvec.specs.ArrayVec.{ArrayVec, array_vec_len}
use Rattle.bus_text.specs.Put.{TextStopsAt}
use Rattle.bus_text.specs.Advances.{AdvancesPage}
use Rattle.bus_text.specs.Pages.{Pages}
use Rattle.bus_text.specs.declared.page.Page.{Page}

-- what is put on the page comes after the text
pub pages-more : (start now : Option (List ℕ)) (page page' : ArrayVec ℕ) (written : ℕ) (text more : List ℕ)
    → page'.items ≡ page.items ++ more → Pages start now page written text → Pages start now page' written
    (text ++ more)
pages-more start now page page' written text more put pages = record {
  sent = pages.sent;
  out = pages.out;
  count = pages.count;
  whole = ap (λ t. t ++ more) pages.whole ∙ append_assoc pages.sent page.items more ∙ ap (λ t. pages.sent ++ t)
      (sym put);
}

-- likewise what is printed on it
pub pages-printed : {start now : Option (List ℕ)} {page new : Page} {text more : List ℕ} {most : ℕ}
    → AdvancesPage page more most new → Pages start now page.text page.written text →
    Pages start now new.text new.written (text ++ more)
pages-printed {start = start} {now = now} {page = page} {new = new} {text = text} {more = more} put before =
    rw put.written (pages-more start now page.text new.text page.written text more put.bytes before)

-- what was cut short is a front of the text however it goes on
pub cuts-more : (start now : Option (List ℕ)) (text more : List ℕ) (sent : ℕ) → TextStopsAt start now text sent →
    TextStopsAt start now (text ++ more) sent
cuts-more start now text more sent cut = record {
  out = subst (Appends start now) (sym (take-append-le sent text more cut.within)) cut.out;
  within = omega (arith, cut.within, length-append text more);
}

-- after an empty page the whole text went out
pub pages-whole : (start now : Option (List ℕ)) (page : ArrayVec ℕ) (written : ℕ) (text : List ℕ) →
    array_vec_len page ≡ 0 →
    Pages start now page written text → Appends start now text × (written ≡ length text)
pages-whole start now page written text none pages =
    let whole : text ≡ pages.sent =
    pages.whole ∙ (ap (λ l. pages.sent ++ l) (nothing page.items none) ∙ append-nil pages.sent) in
    (subst (Appends start now) (sym whole) pages.out, pages.count ∙ ap length (sym whole))
  where
    nothing : (l : List ℕ) → length l ≡ 0 → l ≡ []
    nothing [] empty = refl
    nothing (x ∷ l) empty = absurd (let never : ⊥ = omega (arith, empty) in never)

-- and nothing more is sent by what keeps it
pub whole-cut : (start now : Option (List ℕ)) (text : List ℕ) (sent : ℕ) →
    Appends start now text × (sent ≡ length text) → TextStopsAt start now text sent
whole-cut start now text sent whole = record {
  out = subst (λ n. Appends start now (take n text)) (sym whole.1)
      (subst (Appends start now) (sym (take-length text)) whole.0);
  within = omega (arith, whole.1);
}

-- less went out than the text has
pub cut-short : (start now : Option (List ℕ)) (page : ArrayVec ℕ) (written : ℕ) (text : List ℕ) (sent : ℕ) →
    Pages start now page written text → sent < written + array_vec_len page → sent < length text
cut-short start now page written text sent pages less =
    omega (arith, less, pages.count, ap length pages.whole, length-append pages.sent page.items)
