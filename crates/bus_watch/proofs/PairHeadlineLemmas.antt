-- What a whole run over two lines comes to.
use Rattle.std.proofs.Common.{◌≡◌, ℕ, ◌+◌, ◌-◌, ◌*◌, ◌≤◌, Bool, List, [], ◌∷◌, ◌++◌, length, map, take, sym, ap}
use Rattle.std.proofs.Common.{◌∙◌, subst, append-nil, arith, length-take}
use Rattle.std.proofs.lemmas.List.{take-take}
use Rattle.bus_fcs.specs.Check.{CheckView}
use Rattle.bus_line.specs.Due.{reports}
use Rattle.bus_line.specs.Laws.{ReportsAre}
use Rattle.bus_line.specs.Ledger.{stored_open}
use Rattle.bus_dictionary.specs.Dictionary.{longest_of}
use Rattle.bus_line.specs.LineReport.{firsts, seconds, merged, of_side}
use Rattle.bus_pairing.specs.History.{history}
use Rattle.bus_pairing.specs.Seen.{report_in}
use Rattle.bus_line.specs.declared.line.Line.TheVariants.{First, Second}
use Rattle.bus_pairing.specs.Ledger.{IsPairLedger, total}
use Rattle.bus_watch.specs.Pairs.{PairState, IsAfterPairs, two_lines, pair_reports}
use Rattle.bus_watch.specs.Laws.{AnyCutOfPairs, SeenAreReports, MergedIsMerged, joined, ended, called}
use Rattle.bus_watch.specs.PairHeadline.{PairHeadline, StoppedAtPair, WholePairRun, all_seen_on_both}
use Rattle.bus_watch.specs.Fed.{FedBy, RefusedByAt}
use Rattle.bus_line.specs.Told.{told}
use Rattle.bus_pairing.specs.Sink.{SinkView}
use Rattle.bus_watch.specs.declared.pair.usage.PairUsage.{PairUsage}
use Rattle.bus_watch.proofs.FedLemmas.{same-seen}
use Rattle.bus_watch.proofs.HeadlineLemmas.{runs-alike}

-- what the getters answer that a usage is made of
pub record Answers {C : Type 0} (view : CheckView C) (e : PairState C) (u : PairUsage) :
    Type 0 where
  pub first_room : u.first_buffered ≤ longest_of e.conversation.dictionary + 2
  pub second_room : u.second_buffered ≤ longest_of e.conversation.dictionary + 2
  pub first_buffered : (ps : List (Bool × Bool)) → IsAfterPairs view e ps →
      u.first_buffered ≡ stored_open (longest_of e.conversation.dictionary) (firsts ps)
  pub second_buffered : (ps : List (Bool × Bool)) → IsAfterPairs view e ps →
      u.second_buffered ≡ stored_open (longest_of e.conversation.dictionary) (seconds ps)
  pub kept : (ps : List (Bool × Bool)) → IsAfterPairs view e ps →
      u.history_len ≡ length (history e.conversation.depth (pair_reports e ps))
  pub deep : u.history_len ≤ e.conversation.depth
  pub ledger : (ps : List (Bool × Bool)) → IsAfterPairs view e ps →
      IsPairLedger view.cost (longest_of e.conversation.dictionary) ps u.spent
  pub seventeen : (ps : List (Bool × Bool)) → IsAfterPairs view e ps → total u.spent ≤ 17 * (2 * length ps)
  pub four : (ps : List (Bool × Bool)) → IsAfterPairs view e ps → total u.spent ≤ 4 * (2 * length ps)
  pub three : view.cost ≡ 1 → (ps : List (Bool × Bool)) → IsAfterPairs view e ps → total u.spent ≤ 3 * (2 * length ps)

pub whole-pair-run : {C : Type 0} (view : CheckView C) (e : PairState C) (u : PairUsage) →
    AnyCutOfPairs view → ReportsAre → SeenAreReports → MergedIsMerged → Answers view e u →
    WholePairRun view e u
whole-pair-run view e u cut are in-order sides answers = λ start pieces tolds new runs.
    let alike = runs-alike (two_lines view) start e pieces tolds runs in
    let both = cut start e pieces tolds new runs in
    let is_after = both.0 in
    let ps = joined pieces in
    let longest = longest_of e.conversation.dictionary in
    let origin = e.first.origin in
    let all_told = both.1 ∙ sym (same-seen (two_lines view) start e ps alike.dictionary alike.origin) in
    let all_reported = ap (map report_in) all_told ∙ in-order e.conversation.dictionary (merged origin longest ps) in
    let merges = sides longest origin ps in
    rw (← alike.dictionary, ← alike.depth, ← alike.origin)
    (record {
      told = all_told;
      first_framing =
          (reports longest (firsts ps), are longest (firsts ps), ap (of_side First) all_reported ∙ merges.first);
      second_framing =
          (reports longest (seconds ps), are longest (seconds ps), ap (of_side Second) all_reported ∙ merges.second);
      first_bound = answers.first_room;
      second_bound = answers.second_room;
      first_buffered = answers.first_buffered _ is_after;
      second_buffered = answers.second_buffered _ is_after;
      history = is_after.conversation.history;
      history_len = answers.kept _ is_after ∙ ap length (sym is_after.conversation.history);
      history_bound = answers.deep;
      ledger = answers.ledger _ is_after;
      seventeen = answers.seventeen _ is_after;
      four = answers.four _ is_after;
      three = λ one. answers.three one _ is_after;
    })

-- what was fed to a new analyser is a whole run
pub fed-pair-headline : {C S : Type 0} (view : CheckView C) (sink : SinkView S)
    (a e : PairState C) (ps : List (Bool × Bool)) (s t : S) (u : PairUsage)
    → IsAfterPairs view a [] → (f : FedBy (two_lines view) sink a ps e s t) →
    WholePairRun view e u
    → PairHeadline view.cost a.conversation.dictionary a.conversation.depth a.first.origin ps f.seen
    e.conversation.history u
fed-pair-headline view sink a e ps s t u new fed whole =
    let d = a.conversation.dictionary in
    let depth = a.conversation.depth in
    let origin = a.first.origin in
    let headline = whole a (ps ∷ []) (fed.seen ∷ []) new (called a e e ps fed.seen [] [] fed.sees (ended e)) in
    subst (λ x. PairHeadline view.cost d depth origin x fed.seen e.conversation.history u) (append-nil ps)
    (subst (λ y. PairHeadline view.cost d depth origin (ps ++ []) y e.conversation.history u) (append-nil fed.seen)
    headline)

-- where a sink refused reports of what a new analyser was fed
pub stopped-at-pair : {C S : Type 0} (view : CheckView C) (sink : SinkView S)
    (a e : PairState C) (ps : List (Bool × Bool)) (s t : S) (n consumed : ℕ)
    → IsAfterPairs view a [] → RefusedByAt (two_lines view) sink n a ps consumed e s t
    → StoppedAtPair sink n a.conversation.dictionary a.first.origin ps s t consumed
stopped-at-pair view sink a e ps s t n consumed new at =
    let refused = at.refused in
    let d = a.conversation.dictionary in
    let origin = a.first.origin in
    let count : length (take consumed ps) - 1 ≡ consumed - 1 = omega (arith, at.within, length-take consumed ps) in
    let front : take (length (take consumed ps) - 1) (take consumed ps) ≡ take (consumed - 1) ps =
    ap (λ k. take k (take consumed ps)) count ∙ take-take (consumed - 1) consumed ps (omega arith) in
    let before : all_seen_on_both d origin (take (consumed - 1) ps) ≡ refused.seen =
    ap (all_seen_on_both d origin) (sym front) ∙ refused.front [] new in
    record {
      some = at.some;
      within = at.within;
      at_last = refused.at_last;
      of_last = refused.of_last;
      seen = refused.sees.seen [] new ∙ ap (λ xs. xs ++ refused.at_last) (sym before);
      some_refused = refused.some_refused;
      lacks = refused.lacks;
      took = refused.took ∙ ap (λ xs. told (sink.taken s) (xs ++ refused.of_last)) (sym before);
    }
