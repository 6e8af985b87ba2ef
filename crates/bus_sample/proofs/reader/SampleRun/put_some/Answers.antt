use Rattle.std.proofs.Common.{◌≡◌, ◌+◌, ◌-◌, ◌++◌, ◌∙◌, [], replicate, refl, sym, ap, subst, append-nil, arith}
use Rattle.bus_tap.specs.Sampled.{bits_of_edges, with_sample}
use Rattle.bus_sample.specs.Internal.Runs.{HasMarked, timed_levels}
use Rattle.std.proofs.lemmas.List.{length-replicate, length-map}
use Rattle.bus_tap.specs.Tapped.{channels}
use Rattle.bus_sample.proofs.CloseLemmas.{whole-front}
use Rattle.bus_sample.proofs.RunLemmas.{advances-run, arrivals-with, taken-with, run-front}
use Rattle.bus_sample.proofs.reader.SampleRun.put_some.Goals as goal

pub returns-in-Err-clause-taken : goal.returns-in-Err-clause-taken
returns-in-Err-clause-taken g c = λ sample is start ss taken. (
  ss,
  record {
    sample = sample;
    count = c.args.count;
    stands = whole-front (ss ++ replicate c.args.count sample);
    more = omega (
      arith,
      c.in-Err.ensures.limit.0 refl,
      taken.tap.samples,
      length-map ss (channels c.args.self.now.options.wires),
    );
  },
  taken.marks,
)

pub returns-in-Ok-put-clause-sound : goal.returns-in-Ok-put-clause-sound
returns-in-Ok-put-clause-sound g c =
    let sound = c.requires.sound in
    let advances = c.in-Ok.ensures.taken.2 in
    let some = c.in-Ok.ensures.taken.1 c.requires.some in record {
      given = (advances.hold ∙ sound.given.0, advances.jump ∙ sound.given.1);
      size = sound.size;
      levels = sound.levels;
      samples = c.consume.ensures.fits;
      few = omega (
        arith,
        sound.few,
        c.put.ensures.few,
        advances.samples,
        some,
        length-replicate c.in-Ok.taken.samples c.args.levels,
      );
      part = sound.part;
    }

pub returns-in-Err-put-clause-sound : goal.returns-in-Err-put-clause-sound
returns-in-Err-put-clause-sound g c =
    let sound = c.requires.sound in
    let advances = c.in-Ok.ensures.taken.2 in
    let some = c.in-Ok.ensures.taken.1 c.requires.some in record {
      given = (advances.hold ∙ sound.given.0, advances.jump ∙ sound.given.1);
      size = sound.size;
      levels = sound.levels;
      samples = c.consume.ensures.fits;
      few = omega (
        arith,
        sound.few,
        c.put.ensures.few,
        advances.samples,
        some,
        length-replicate c.in-Ok.taken.samples c.args.levels,
      );
      part = sound.part;
    }

pub returns-then-is_none-clause-taken : goal.returns-then-is_none-clause-taken
returns-then-is_none-clause-taken g c = λ sample is start ss taken.
    let self = c.args.self.now in
    let w = g.W.Write.contents c.args.w.now in
    let n = c.in-Ok.taken.samples in
    let xs = with_sample (self.tap.samples + n - 1) (bits_of_edges c.in-Ok.taken.edges) in
    let none : xs ≡ [] =
    ap (λ e. with_sample (self.tap.samples + n - 1) (bits_of_edges e)) (c.if-is_none.ensures.0 refl) in
    let marked : HasMarked start w self.marks self.options.rest (timed_levels self.options ss ++ xs) =
    subst (λ ts. HasMarked start w self.marks self.options.rest (timed_levels self.options ss ++ ts)) (sym none)
    (rw (append-nil (timed_levels self.options ss)) taken.marks) in
    taken-with start w w self _ ss (replicate n sample) xs c.requires.sound.given.0
    (advances-run self.options self.tap c.consume.new.self n sample c.args.levels xs is c.in-Ok.ensures.taken.2) taken
    refl marked

pub overflow_sub-last : goal.overflow_sub-last
overflow_sub-last g c =
    omega (
      arith,
      c.samples-last.ensures,
      c.in-Ok.ensures.taken.1 c.requires.some,
      c.in-Ok.ensures.taken.2.samples,
      length-replicate c.in-Ok.taken.samples c.args.levels,
    )

pub returns-in-Ok-put-clause-taken : goal.returns-in-Ok-put-clause-taken
returns-in-Ok-put-clause-taken g c = λ sample is start ss taken.
    let self = c.args.self.now in
    let n = c.in-Ok.taken.samples in
    let xs = with_sample (self.tap.samples + n - 1) (bits_of_edges c.in-Ok.taken.edges) in
    let last : c.samples-last.result - 1 ≡ self.tap.samples + n - 1 =
    omega (arith, c.samples-last.ensures, c.in-Ok.ensures.taken.2.samples, length-replicate n c.args.levels) in
    taken-with start (g.W.Write.contents c.args.w.now) (g.W.Write.contents c.put.new.w) self _ ss (replicate n sample)
    xs c.requires.sound.given.0
    (advances-run self.options self.tap c.consume.new.self n sample c.args.levels xs is c.in-Ok.ensures.taken.2) taken
    refl (rw last at (c.in-Ok-put.ensures.put start _ _ taken.marks))

pub returns-in-Err-put-clause-taken : goal.returns-in-Err-put-clause-taken
returns-in-Err-put-clause-taken g c = λ sample is start ss taken.
    let self = c.args.self.now in
    let n = c.in-Ok.taken.samples in
    let xs = with_sample (self.tap.samples + n - 1) (bits_of_edges c.in-Ok.taken.edges) in
    let last : c.samples-last.result - 1 ≡ self.tap.samples + n - 1 =
    omega (arith, c.samples-last.ensures, c.in-Ok.ensures.taken.2.samples, length-replicate n c.args.levels) in (
      ss ++ replicate n sample,
      run-front ss c.args.count n sample c.in-Ok.ensures.taken.0,
      rw (arrivals-with self.options self.tap c.consume.new.self ss (replicate n sample) xs
          c.requires.sound.given.0
          (advances-run self.options self.tap c.consume.new.self n sample c.args.levels xs is
          c.in-Ok.ensures.taken.2) taken.tap) (rw last at (c.in-Err-put.ensures.put start _ _ taken.marks)),
    )
