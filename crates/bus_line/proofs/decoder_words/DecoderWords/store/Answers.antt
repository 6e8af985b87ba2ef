use Rattle.std.proofs.Common.{◌++◌, List, ℕ, sym, ap, ◌∙◌, subst, arith, append-nil}
use Rattle.bus_line.specs.Words.{state}
use Rattle.bus_line.proofs.TracksAppendLemmas.{eight-octets, stores-word}
use Rattle.bus_line.proofs.decoder_words.DecoderWords.store.Goals as goal

pub returns-then-len-self-clause-stores : goal.returns-then-len-self-clause-stores
returns-then-len-self-clause-stores g c =
    let held = g.F.FrameBuffer.octets c.args.frame.now in
    let d = state c.args.self.now c.args.check.now held in
    stores-word g.C.Check.check.folded d d c.args.word 0
    (λ a size. omega (arith, size, c.len.ensures, c.if-len-self.true)) (sym (append-nil held))
    (λ xs folded. subst (g.C.Check.check.folded c.args.check.now) (sym (append-nil xs)) folded)

pub returns-clause-stores : goal.returns-clause-stores
returns-clause-stores g c =
    let held = g.F.FrameBuffer.octets c.args.frame.now in
    let d = state c.args.self.now c.args.check.now held in
    let e = state c.args.self.now c.fold_eight.new.self (g.F.FrameBuffer.octets c.push_eight.new.self) in
    let octets = c.to_le_bytes-octets.ensures ∙ eight-octets c.args.word in
    stores-word g.C.Check.check.folded d e c.args.word 8
    (λ a size. omega (arith, size, c.len.ensures, c.if-len-self.false))
    (c.push_eight.ensures ∙ ap (λ (os : List ℕ). held ++ os) octets)
    (λ xs folded. subst (λ (os : List ℕ). g.C.Check.check.folded c.fold_eight.new.self (xs ++ os)) octets
    (c.fold_eight.ensures.folded xs folded))
