use Rattle.std.proofs.Common.{◌≡◌, ◌+◌, ◌<◌, ◌≤◌, ◌++◌, ◌∷◌, [], length, sym, ap, ◌∙◌, arith}
use Rattle.bus_tap.specs.Recorded.{record_number}
use Rattle.bus_sample.specs.Recording.{cut_record, size_of, run_of, recorded}
use Rattle.bus_sample.proofs.RecordLemmas.{part-cut, part-recorded, whole-cut, whole-recorded, cut-short}
use Rattle.bus_sample.proofs.ReadLemmas.{read-whole}
use Rattle.bus_sample.proofs.reader.SampleRun.read_octet.Goals as goal

pub returns-then-len-from-clause-read : goal.returns-then-len-from-clause-read
returns-then-len-from-clause-read g c = λ start xs read.
    let form = c.args.self.now.options.form in
    let x = c.args.octet in
    let some : 1 ≤ size_of form = c.requires.sound.size.0 in
    let count : length c.args.self.now.part.items ≡ length (cut_record form xs) = ap length read.part in
    let inside : length (cut_record form xs) + 1 < size_of form =
    omega (arith, count, c.if-len-from.true, c.len.ensures.value, c.push.ensures.len, c.from.ensures, c.size.ensures) in
    record {
      taken = rw (part-recorded form xs x some inside) (record { tap = read.taken.tap; marks = read.taken.marks });
      part = c.push.ensures.items ∙ (ap (λ p. p ++ x ∷ []) read.part ∙ sym (part-cut form xs x some inside));
    }

pub returns-clause-read : goal.returns-clause-read
returns-clause-read g c = λ start xs read.
    let self = c.args.self.now in
    let form = self.options.form in
    let x = c.args.octet in
    let some : 1 ≤ size_of form = c.requires.sound.size.0 in
    let count : length self.part.items ≡ length (cut_record form xs) = ap length read.part in
    let last : length (cut_record form xs) + 1 ≡ size_of form =
    omega (
      arith,
      count,
      c.if-len-from.false,
      c.len.ensures.value,
      c.push.ensures.len,
      c.from.ensures,
      c.size.ensures,
      cut-short form xs x some,
    ) in
    let items = c.push.ensures.items ∙ ap (λ p. p ++ x ∷ []) read.part in
    let number : c.number_of-number.result ≡ record_number (cut_record form xs ++ x ∷ []) =
    c.number_of-number.ensures ∙ ap record_number (c.as_slice.ensures.value ∙ items) in
    let is : recorded form (xs ++ x ∷ []) ≡ recorded form xs ++ run_of form c.number_of-number.result =
    whole-recorded form xs x some last ∙ ap (λ n. recorded form xs ++ run_of form n) (sym number) in
    let same = c.put_record.ensures.same in
    read-whole start (g.W.Write.contents c.put_record.new.w) c.put_record.new.self form (xs ++ x ∷ [])
    (recorded form xs ++ run_of form c.number_of-number.result) c.put_record.result (ap (λ o. o.form) same.1) is
    (whole-cut form xs x some last) (ap (λ p. p.items) same.0 ∙ c.clear.ensures)
    (c.put_record.ensures.taken start (recorded form xs)
    (record { tap = read.taken.tap; marks = read.taken.marks }))
