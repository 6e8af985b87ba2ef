use Rattle.std.proofs.Common.{Bool, sym, ap, ◌∙◌, arith, if◌then◌else◌}
use Rattle.bus_line.specs.Report.{Frame, Damaged}
use Rattle.bus_line.specs.declared.cause.Cause.TheVariants.{Fcs}
use Rattle.bus_line.proofs.ClassLemmas.{is_closed, class-five, class-read, data-over, data-short, data-unaligned}
use Rattle.bus_line.proofs.ClassLemmas.{class-checked}
use Rattle.bus_line.proofs.decoder_words.DecoderWords.class.Goals as goal

pub returns-then-self-eq31-clause-closes : goal.returns-then-self-eq31-clause-closes
returns-then-self-eq31-clause-closes g c = λ b bit p tracks last some.
    let closed = is_closed b bit p tracks last some in
    sym (class-five _ closed c.if-self-eq31.true)

pub returns-then-self-clause-closes : goal.returns-then-self-clause-closes
returns-then-self-clause-closes g c = λ b bit p tracks last some.
    let closed = is_closed b bit p tracks last some in
    sym (class-read _ closed c.if-self-eq31.false
    ∙ data-over c.args.self.now.longest _ (omega (arith, closed.holds.count, c.if-self.true)))

pub returns-then-self-lt32-clause-closes : goal.returns-then-self-lt32-clause-closes
returns-then-self-lt32-clause-closes g c = λ b bit p tracks last some.
    let closed = is_closed b bit p tracks last some in
    sym (class-read _ closed c.if-self-eq31.false
    ∙ data-short c.args.self.now.longest _ (omega (arith, closed.holds.count, c.if-self.false))
    (omega (arith, closed.holds.count, c.if-self-lt32.true)))

pub returns-then-self-ne0-clause-closes : goal.returns-then-self-ne0-clause-closes
returns-then-self-ne0-clause-closes g c = λ b bit p tracks last some.
    let closed = is_closed b bit p tracks last some in
    sym (class-read _ closed c.if-self-eq31.false
    ∙ data-unaligned c.args.self.now.longest _ (omega (arith, closed.holds.count, c.if-self.false))
    (omega (arith, closed.holds.count, c.if-self-lt32.false))
    (λ is. c.if-self-ne0.true (omega (arith, closed.holds.count, is))))

pub returns-then-not-is_good-clause-closes : goal.returns-then-not-is_good-clause-closes
returns-then-not-is_good-clause-closes g c = λ b bit p tracks last some.
    let closed = is_closed b bit p tracks last some in
    sym (class-read _ closed c.if-self-eq31.false
    ∙ (class-checked _ c.is_good.result (c.store_last.ensures.holds _ closed.holds
    (omega (arith, closed.holds.count, c.if-self.false)))
    (omega (arith, closed.holds.count, c.if-self-lt32.false)) (omega (arith, closed.holds.count, c.if-self.false))
    (omega (arith, closed.holds.count, c.if-self-ne0.false))
    c.is_good.ensures
    ∙ ap (λ (t : Bool). if t then Frame (g.F.FrameBuffer.octets c.store_last.new.frame) else Damaged Fcs)
    c.if-not-is_good.true))

pub returns-clause-closes : goal.returns-clause-closes
returns-clause-closes g c = λ b bit p tracks last some.
    let closed = is_closed b bit p tracks last some in
    sym (class-read _ closed c.if-self-eq31.false
    ∙ (class-checked _ c.is_good.result (c.store_last.ensures.holds _ closed.holds
    (omega (arith, closed.holds.count, c.if-self.false)))
    (omega (arith, closed.holds.count, c.if-self-lt32.false)) (omega (arith, closed.holds.count, c.if-self.false))
    (omega (arith, closed.holds.count, c.if-self-ne0.false))
    c.is_good.ensures
    ∙ ap (λ (t : Bool). if t then Frame (g.F.FrameBuffer.octets c.store_last.new.frame) else Damaged Fcs)
    c.if-not-is_good.false))
