use Rattle.std.proofs.Common.{rules, ℕ, List, ◌++◌, sym, ap, ◌∙◌, arith, append-nil, length-append}
use Rattle.bus_text.proofs.KnownBytesLemmas.{appends_both}
use Rattle.bus_text.proofs.page.Page.write_out.Goals as goal

pub returns-clause-turned : goal.returns-clause-turned
returns-clause-turned g c = λ start text pages.
    let bytes = c.args.self.now.text.items in
    record {
      sent = pages.sent ++ bytes;
      out = appends_both start (g.W.Write.contents c.args.w.now) (g.W.Write.contents c.put_text.new.w) pages.sent bytes
          pages.out (search rules);
      count = omega (arith, pages.count, c.len.ensures.value, length-append pages.sent bytes);
      whole =
          pages.whole ∙ sym (ap (λ (l : List ℕ). pages.sent ++ bytes ++ l) c.clear.ensures
          ∙ append-nil (pages.sent ++ bytes));
    }
