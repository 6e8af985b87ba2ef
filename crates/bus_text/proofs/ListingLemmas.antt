-- The listing of more reports, in parts.
use Rattle.std.proofs.Common.{◌≡◌, ℕ, true, false, if◌then◌else◌, List, [], ◌∷◌, ◌++◌, option_map, refl, sym, ap}
use Rattle.std.proofs.Common.{◌∙◌, ◌+◌, append_assoc, append-nil, arith}
use Rattle.std.specs.List.{flat_map, filter}
use Rattle.std.specs.Option.{option_to_list}
use Rattle.std.proofs.lemmas.Grind.{flat_map-append}
use Rattle.std.proofs.lemmas.List.Elements.{filter-append}
use Rattle.bus_dictionary.specs.Entry.{FrameType}
use Rattle.bus_pairing.specs.Seen.{SeenReport}
use Rattle.bus_text.specs.Listing.{Line, is_left, text_of, report_line, verdict_line, stray_lines, seen_lines, lines_of}
use Rattle.bus_text.specs.Listing.{listing}
use Rattle.bus_text.specs.Advances.{AdvancesPage}
use Rattle.bus_text.specs.declared.filter.Filter.{Filter}
use Rattle.bus_text.specs.declared.page.Page.{Page}
use Rattle.bus_text.specs.declared.printer.Printer.{Printer}

-- the text of lines is in parts
pub text-append : (f : Filter) (xs ys : List Line) → text_of f (xs ++ ys) ≡ text_of f xs ++ text_of f ys
unfolding text_of
text-append f xs ys = ap (flat_map (λ l. l.text)) (filter-append (is_left f) xs ys)
    ∙ flat_map-append (λ (l : Line). l.text) (filter (is_left f) xs) (filter (is_left f) ys)

-- the text of one line, if the filter leaves it
pub text-one : (f : Filter) (l : Line) → text_of f (l ∷ []) ≡ (if is_left f l then l.text else [])
unfolding text_of
text-one f l = elim (is_left f l) as (λ b.
    flat_map (λ (l : Line). l.text) (if b then l ∷ [] else []) ≡ (if b then l.text else [])) [
      | true ↦ append-nil l.text
      | false ↦ refl
    ]

-- a page that stays is one on which nothing is put
pub nothing-put : (most : ℕ) (page : Page) → AdvancesPage page [] most page
nothing-put most page = record { bytes = sym (append-nil page.text.items); len = omega arith; written = refl }

-- nothing is put for no lines
pub put-none : (f : Filter) (lines : List Line) (most : ℕ) (page : Page) → lines ≡ [] →
    AdvancesPage page (text_of f lines) most page
unfolding text_of
put-none f lines most page none = rw none (nothing-put most page)

-- nothing is put for a line that the filter drops
pub put-dropped : (f : Filter) (l : Line) (most : ℕ) (page : Page) → is_left f l ≡ false →
    AdvancesPage page (text_of f (l ∷ [])) most page
put-dropped f l most page dropped = rw (text-one f l) (rw dropped (nothing-put most page))

-- the text of a line that the filter leaves
pub put-left : (f : Filter) (l : Line) {most : ℕ} {page new : Page} → is_left f l ≡ true →
    AdvancesPage page l.text most new → AdvancesPage page (text_of f (l ∷ [])) most new
put-left f l left put = rw (text-one f l) (rw left put)

-- two texts are put, one after the other
pub put-behind : {first second : List ℕ} {m n : ℕ} {page mid new : Page} → AdvancesPage page first m mid →
    AdvancesPage mid second n new → AdvancesPage page (first ++ second) (m + n) new
put-behind {first = first} {second = second} {page = page} before behind = record {
  bytes = behind.bytes ∙ ap (λ t. t ++ second) before.bytes ∙ append_assoc page.text.items first second;
  len = omega (arith, before.len, behind.len);
  written = behind.written ∙ before.written;
}

-- the texts of some lines and of more
pub put-both : (f : Filter) (xs ys : List Line) {m n : ℕ} {page mid new : Page} →
    AdvancesPage page (text_of f xs) m mid →
    AdvancesPage mid (text_of f ys) n new → AdvancesPage page (text_of f (xs ++ ys)) (m + n) new
put-both f xs ys before behind = rw (text-append f xs ys) (put-behind before behind)

-- the listing of reports is in parts
pub listing-append : (p : Printer) (d : List FrameType) (xs ys : List SeenReport) →
    listing p d (xs ++ ys) ≡ listing p d xs ++ listing p d ys
listing-append p d xs ys = ap (text_of p.filter) (flat_map-append (seen_lines p.heads d) xs ys)
    ∙ text-append p.filter (lines_of p.heads d xs) (lines_of p.heads d ys)

-- the listing of one report is its own line, and the lines after it
pub listing-one : (p : Printer) (d : List FrameType) (s : SeenReport)
    → listing p d (s ∷ []) ≡ text_of p.filter (report_line p.heads d s ∷ [])
    ++ (text_of p.filter (option_to_list (option_map (verdict_line s.line) s.verdict))
    ++ text_of p.filter (stray_lines p.heads s))
listing-one p d s =
    let own = report_line p.heads d s in
    let verdict = option_to_list (option_map (verdict_line s.line) s.verdict) in
    let stray = stray_lines p.heads s in
    ap (text_of p.filter) (append-nil (seen_lines p.heads d s))
    ∙ text-append p.filter (own ∷ []) (verdict ++ stray)
    ∙ ap (λ t. text_of p.filter (own ∷ []) ++ t) (text-append p.filter verdict stray)

-- they were put, one after the other
pub put-one : (p : Printer) (d : List FrameType) (s : SeenReport) {k m n : ℕ} {page own verdict all : Page}
    → AdvancesPage page (text_of p.filter (report_line p.heads d s ∷ [])) k own →
    AdvancesPage own (text_of p.filter (option_to_list (option_map (verdict_line s.line) s.verdict))) m verdict
    → AdvancesPage verdict (text_of p.filter (stray_lines p.heads s)) n all →
    AdvancesPage page (listing p d (s ∷ [])) (k + (m + n)) all
put-one p d s own verdict stray = rw (listing-one p d s) (put-behind own (put-behind verdict stray))
