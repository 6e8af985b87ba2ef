use Rattle.bus_text.proofs.KnownBytesLemmas.{appends_kept}
use Rattle.bus_text.proofs.PagesLemmas.{pages-whole, whole-cut}
use Rattle.bus_text.proofs.page.Page.close.Goals as goal

pub returns-then-self-eq0-clause-closed : goal.returns-then-self-eq0-clause-closed
returns-then-self-eq0-clause-closed g c = λ start text pages.
    (pages-whole start (g.W.Write.contents c.write_out.new.w) c.write_out.new.self.text c.write_out.new.self.written
    text c.in_ok-write_out.ensures.empty (c.in_ok-write_out.ensures.turned start text pages)).0

pub returns-in-Ok-clause-closed : goal.returns-in-Ok-clause-closed
returns-in-Ok-clause-closed g c = λ start text pages.
    let out = pages-whole start (g.W.Write.contents c.write_out.new.w) c.write_out.new.self.text
    c.write_out.new.self.written text c.in_ok-write_out.ensures.empty
    (c.in_ok-write_out.ensures.turned start text pages) in
    appends_kept start (g.W.Write.contents c.write_out.new.w) (g.W.Write.contents c.flush.new.self) text out.0
    c.flush.ensures.bytes

pub returns-in-Err-clause-closed : goal.returns-in-Err-clause-closed
returns-in-Err-clause-closed g c = λ start text pages.
    let out = pages-whole start (g.W.Write.contents c.write_out.new.w) c.write_out.new.self.text
    c.write_out.new.self.written text c.in_ok-write_out.ensures.empty
    (c.in_ok-write_out.ensures.turned start text pages) in
    whole-cut start (g.W.Write.contents c.flush.new.self) text c.write_out.new.self.written (
      appends_kept start (g.W.Write.contents c.write_out.new.w) (g.W.Write.contents c.flush.new.self) text out.0
          c.flush.ensures.bytes,
      out.1,
    )
