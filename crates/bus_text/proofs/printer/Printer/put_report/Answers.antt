use Rattle.std.proofs.Common.{◌≡◌, ◌++◌, ◌∙◌, sym, ap, codes, append_assoc, arith, rules}
use Rattle.std.proofs.lemmas.Grind.{common_steps}
use Rattle.bus_line.specs.Shown.{reported, span_of}
use Rattle.bus_pairing.specs.Shown.{found_on}
use Rattle.bus_text.specs.Listing.{line_number, report_line, report_word, span_text, head_part}
use Rattle.bus_text.proofs.ListingLemmas.{put-dropped, put-left}
use Rattle.bus_text.proofs.printer.Printer.put_report.Goals as goal

pub returns-then-not-passes : goal.returns-then-not-passes
returns-then-not-passes c =
    put-dropped c.args.self.now.filter
    (report_line c.args.self.now.heads c.args.dictionary.now
    (found_on c.args.line c.args.octets.now c.args.seen_event.now)) _ c.args.page.now
    (sym (c.passes.ensures c.args.octets.now) ∙ c.if-not-passes.true)

pub returns : goal.returns
returns c =
    let page = c.args.page.now.text.items in
    let r = reported c.args.octets.now c.args.seen_event.now.event in
    let front = span_text (span_of r) ++ report_word r.kind in
    let head = head_part c.args.self.now.heads c.args.dictionary.now c.args.seen_event.now.standing in
    let end : c.push.new.self.items ≡ c.put_head.new.page.text.items ++ codes "\n" = search rules in
    let line = line_number c.args.line in
    let told : c.push_front.new.text.items ≡ page ++ (line ++ front) =
    c.push_front.ensures.bytes ∙ ap (λ t. t ++ front) c.push_line_number.ensures.bytes
    ∙ append_assoc page line front in
    let named : c.put_head.new.page.text.items ≡ c.push_front.new.text.items ++ head = c.put_head.ensures.bytes in
    let all : c.push.new.self.items ≡ page ++ (((line ++ front) ++ head) ++ codes "\n") =
    end ∙ ap (λ t. t ++ codes "\n") (named ∙ ap (λ t. t ++ head) told ∙ append_assoc page (line ++ front) head)
    ∙ append_assoc page ((line ++ front) ++ head) (codes "\n") in
    put-left c.args.self.now.filter
    (report_line c.args.self.now.heads c.args.dictionary.now
    (found_on c.args.line c.args.octets.now c.args.seen_event.now))
    (sym (c.passes.ensures c.args.octets.now) ∙ c.if-not-passes.false)
    (record { bytes = all; len = grind (arith, common_steps); written = search rules })
