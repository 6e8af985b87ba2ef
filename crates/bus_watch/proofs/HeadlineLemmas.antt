-- What a whole run comes to.
use Rattle.std.proofs.Common.{◌≡◌, ℕ, ◌+◌, ◌-◌, ◌*◌, ◌≤◌, ◌<◌, Bool, List, [], ◌∷◌, ◌++◌, length, map, take, drop}
use Rattle.std.proofs.Common.{get_or, Bor, refl, sym, ap, ◌∙◌, subst, append-nil, arith, length-append, length-take}
use Rattle.std.proofs.lemmas.List.{take_more, flat_map_more, take-take, take-append-drop}
use Rattle.std.proofs.lemmas.Grind.{flat_map-append}
use Rattle.bus_fcs.specs.Check.{CheckView}
use Rattle.bus_line.specs.Due.{placed, reports}
use Rattle.bus_line.specs.Laws.{ReportsAre}
use Rattle.bus_line.specs.Ledger.{stored_open}
use Rattle.bus_dictionary.specs.Dictionary.{longest_of}
use Rattle.bus_line.specs.LineReport.{of_line}
use Rattle.bus_line.specs.Told.{told}
use Rattle.bus_pairing.specs.Sink.{SinkView}
use Rattle.bus_pairing.specs.Seen.{SeenReport, report_in}
use Rattle.bus_pairing.specs.History.{history}
use Rattle.bus_pairing.specs.Ledger.{IsAnalyserLedger, total}
use Rattle.bus_watch.specs.Watch.{Watch}
use Rattle.bus_watch.specs.After.{AnalyserState, IsAfter, line_reports, one_line}
use Rattle.bus_watch.specs.Laws.{AnyCut, SeenAreReports, Runs, ended, called, joined}
use Rattle.bus_watch.proofs.FedLemmas.{same-seen}
use Rattle.bus_watch.specs.Fed.{Fed, RefusedAt}
use Rattle.bus_watch.specs.Headline.{Headline, WholeRun, StoppedAt, all_seen, bits_in}
use Rattle.bus_watch.specs.declared.usage.Usage.{Usage}

-- what no call changes
pub record IsAlike {A X : Type 0} (w : Watch A X) (a e : A) : Type 0 where
  pub dictionary : w.dictionary e ≡ w.dictionary a
  pub depth : w.depth e ≡ w.depth a
  pub origin : w.origin e ≡ w.origin a

pub runs-alike : {A X : Type 0} (w : Watch A X) (start end : A) (pieces : List (List X))
    (tolds : List (List SeenReport)) → Runs w start pieces tolds end → IsAlike w start end
runs-alike w start _ _ _ (ended a) = record { dictionary = refl; depth = refl; origin = refl }
runs-alike w start end _ _ (called a c e xs told pieces tolds leads runs) =
    let rest = runs-alike w c e pieces tolds runs in
    record {
      dictionary = rest.dictionary ∙ leads.dictionary;
      depth = rest.depth ∙ leads.depth;
      origin = rest.origin ∙ leads.origin;
    }

-- what the getters answer that a usage is made of
pub record Answers {C : Type 0} (view : CheckView C) (e : AnalyserState C) (u : Usage) :
    Type 0 where
  pub room : u.buffered ≤ longest_of e.conversation.dictionary + 2
  pub buffered : (b : List Bool) → IsAfter view e b →
      u.buffered ≡ stored_open (longest_of e.conversation.dictionary) b
  pub kept : (b : List Bool) → IsAfter view e b
      → u.history_len ≡ length (history e.conversation.depth (line_reports e b))
  pub deep : u.history_len ≤ e.conversation.depth
  pub ledger : (b : List Bool) → IsAfter view e b
      → IsAnalyserLedger view.cost (longest_of e.conversation.dictionary) b u.spent
  pub seventeen : (b : List Bool) → IsAfter view e b → total u.spent ≤ 17 * length b
  pub four : (b : List Bool) → IsAfter view e b → total u.spent ≤ 4 * length b
  pub three : view.cost ≡ 1 → (b : List Bool) → IsAfter view e b → total u.spent ≤ 3 * length b

pub whole-run : {C : Type 0} (view : CheckView C) (e : AnalyserState C) (u : Usage) →
    AnyCut view → ReportsAre → SeenAreReports → Answers view e u → WholeRun view e u
whole-run view e u cut are in-order answers = λ start pieces tolds new runs.
    let alike = runs-alike (one_line view) start e pieces tolds runs in
    let both = cut start e pieces tolds new runs in
    let is_after = both.0 in
    let b = joined pieces in
    let all_told = both.1 ∙ sym (same-seen (one_line view) start e b alike.dictionary alike.origin) in
    rw (← alike.dictionary, ← alike.depth, ← alike.origin)
    (record {
      told = all_told;
      framing = (
        reports (longest_of e.conversation.dictionary) b,
        are (longest_of e.conversation.dictionary) b,
        ap (map report_in) all_told ∙ in-order e.conversation.dictionary
            (of_line (placed e.decoder.origin (longest_of e.conversation.dictionary) b)),
      );
      buffer_bound = answers.room;
      buffered = answers.buffered _ is_after;
      history = is_after.conversation.history;
      history_len = answers.kept _ is_after ∙ ap length (sym is_after.conversation.history);
      history_bound = answers.deep;
      ledger = answers.ledger _ is_after;
      seventeen = answers.seventeen _ is_after;
      four = answers.four _ is_after;
      three = λ one. answers.three one _ is_after;
    })

-- one piece more
pub pieces-more : (ps : List (Bor (List Bool))) (i : ℕ) (d : Bor (List Bool)) → i < length ps →
    bits_in (take (i + 1) ps) ≡ bits_in (take i ps) ++ (get_or ps i d).now
pieces-more ps i d inside = ap bits_in (take_more ps i d inside)
    ∙ sym (flat_map_more (λ (p : Bor (List Bool)). p.now) [] (take i ps) (get_or ps i d))

-- the first pieces and the others
pub pieces-split : (ps : List (Bor (List Bool))) (i : ℕ) →
    length (bits_in ps) ≡ length (bits_in (take i ps)) + length (bits_in (drop i ps))
pieces-split ps i =
    ap (λ (qs : List (Bor (List Bool))). length (bits_in qs)) (sym (take-append-drop i ps))
    ∙ (ap length (flat_map-append (λ (p : Bor (List Bool)). p.now) (take i ps) (drop i ps))
    ∙ length-append (bits_in (take i ps)) (bits_in (drop i ps)))

-- and one of them
pub pieces-one : (ps : List (Bor (List Bool))) (i : ℕ) (d : Bor (List Bool)) → i < length ps →
    length (bits_in (take i ps)) + length (get_or ps i d).now ≤ length (bits_in ps)
pieces-one ps i d inside =
    omega (
      arith,
      pieces-split ps (i + 1),
      ap length (pieces-more ps i d inside),
      length-append (bits_in (take i ps)) (get_or ps i d).now,
    )

-- all bits, at one piece
pub pieces-at : (ps : List (Bor (List Bool))) (i : ℕ) (d : Bor (List Bool)) → i < length ps →
    bits_in ps ≡ (bits_in (take i ps) ++ (get_or ps i d).now) ++ bits_in (drop (i + 1) ps)
pieces-at ps i d inside =
    ap bits_in (sym (take-append-drop (i + 1) ps))
    ∙ (flat_map-append (λ (p : Bor (List Bool)). p.now) (take (i + 1) ps) (drop (i + 1) ps)
    ∙ ap (λ bs. bs ++ bits_in (drop (i + 1) ps)) (pieces-more ps i d inside))

-- what was fed to a new analyser is a whole run
pub fed-headline : {C S : Type 0} (view : CheckView C) (sink : SinkView S)
    (a e : AnalyserState C) (b : List Bool) (s t : S) (u : Usage)
    → IsAfter view a [] → (f : Fed view sink a b e s t) → WholeRun view e u →
    Headline view.cost a.conversation.dictionary a.conversation.depth a.decoder.origin b f.seen e.conversation.history u
fed-headline view sink a e b s t u new fed whole =
    let d = a.conversation.dictionary in
    let depth = a.conversation.depth in
    let origin = a.decoder.origin in
    let headline = whole a (b ∷ []) (fed.seen ∷ []) new (called a e e b fed.seen [] [] fed.sees (ended e)) in
    subst (λ x. Headline view.cost d depth origin x fed.seen e.conversation.history u) (append-nil b)
    (subst (λ y. Headline view.cost d depth origin (b ++ []) y e.conversation.history u) (append-nil fed.seen) headline)

-- what a new analyser saw of all it was fed
pub fed-seen : {C S : Type 0} (view : CheckView C) (sink : SinkView S)
    (a e : AnalyserState C) (b : List Bool) (s t : S)
    → IsAfter view a [] → (f : Fed view sink a b e s t) →
    f.seen ≡ all_seen a.conversation.dictionary a.decoder.origin b
fed-seen view sink a e b s t new fed = sym (fed.sees.seen [] new)

-- where a sink refused a report of what a new analyser was fed
pub stopped : {C S : Type 0} (view : CheckView C) (sink : SinkView S)
    (a e : AnalyserState C) (b : List Bool) (s t : S) (consumed : ℕ)
    → IsAfter view a [] → RefusedAt view sink a b consumed e s t →
    StoppedAt sink a.conversation.dictionary a.decoder.origin b s t consumed
stopped view sink a e b s t consumed new at =
    let refused = at.refused in
    let d = a.conversation.dictionary in
    let origin = a.decoder.origin in
    let count : length (take consumed b) - 1 ≡ consumed - 1 = omega (arith, at.within, length-take consumed b) in
    let front : take (length (take consumed b) - 1) (take consumed b) ≡ take (consumed - 1) b =
    ap (λ k. take k (take consumed b)) count ∙ take-take (consumed - 1) consumed b (omega arith) in
    let before : all_seen d origin (take (consumed - 1) b) ≡ refused.seen =
    ap (all_seen d origin) (sym front) ∙ refused.front [] new in
    record {
      some = at.some;
      within = at.within;
      took = refused.took ∙ ap (told (sink.taken s)) (sym before);
      lost = refused.lost;
      refused = refused.sees.seen [] new ∙ ap (λ xs. xs ++ refused.lost ∷ []) (sym before);
    }
