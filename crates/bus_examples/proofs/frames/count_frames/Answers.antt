use Rattle.std.proofs.Common.{◌≡◌, ◌+◌, ◌^◌, ◌++◌, inl, inr, List, Bool, ℕ, [], ◌∷◌, take, get_or, false, sym, ap, ◌∙◌}
use Rattle.std.proofs.Common.{subst, arith}
use Rattle.std.proofs.lemmas.Bool.{cases_lt}
use Rattle.std.specs.Option.{option_map, option_to_list}
use Rattle.std.proofs.lemmas.List.{take_all}
use Rattle.bus_line.specs.Due.{placed}
use Rattle.bus_line.specs.Shown.{reported}
use Rattle.bus_line.specs.After.{After}
use Rattle.bus_examples.specs.Frames.{frame_count}
use Rattle.bus_examples.proofs.FramesLemmas.{count-append, at_most_one, next_bit}
use Rattle.bus_examples.proofs.frames.count_frames.Goals as goal

pub overflow_add-count : goal.overflow_add-count
overflow_add-count g c =
    let one = at_most_one [] c.in_ok-advance.field-0 in
    omega (
      arith,
      one,
      c.frames_in.ensures [],
      c.loop-bit.invariant.few,
      c.loop-bit-test.true,
      c.loop-bit.auto.bit-index-end,
    )

pub loop-bit-preserved : goal.loop-bit-preserved
loop-bit-preserved g c =
    let bits = c.args.bits.now in
    let i = c.loop-bit.bit-index in
    let bit = get_or bits i false in
    let old = c.loop-bit.decoder in
    let event = c.in_ok-advance.field-0 in
    let told = c.in_ok-advance.ensures in
    let inv = c.loop-bit.invariant in
    let next : take (i + 1) bits ≡ take i bits ++ bit ∷ [] = next_bit bits i c.loop-bit-test.true in
    let counted = c.frames_in.ensures c.advance.new.self.octets in
    let decides = told.advances.decides in
    let more = decides.says (take i bits) inv.after in
    let all : frame_count (placed 0 256 (take (i + 1) bits)) ≡ c.loop-bit.count + c.frames_in.result =
    ap (λ (x : List Bool). frame_count (placed 0 256 x)) next
    ∙ ap frame_count (rw (inv.origin, inv.longest) at more)
    ∙ count-append (placed 0 256 (take i bits))
    (option_to_list (option_map (reported c.advance.new.self.octets) event))
    ∙ ap (λ (n : ℕ). n + frame_count (option_to_list (option_map (reported c.advance.new.self.octets) event)))
    (sym inv.count)
    ∙ ap (λ (n : ℕ). c.loop-bit.count + n) (sym counted) in
    record {
      after =
          subst (After g.C.Check.check c.advance.new.self) (sym next)
          (decides.leads.after (take i bits) inv.after);
      origin = decides.leads.origin ∙ inv.origin;
      longest = decides.leads.longest ∙ inv.longest;
      count = sym all;
      few = omega (arith, counted, at_most_one c.advance.new.self.octets event, inv.few);
      place = decides.leads.place ∙ ap (λ (n : ℕ). n + 1) inv.place;
      room = elim (cases_lt (2 ^ 60) (old.place + 1)) [
        | inl far ↦ absurd (let e = told.limit.1 (omega (arith, far)) in cc)
        | inr near ↦ omega (arith, near, inv.place)
      ];
    }

pub returns-clause-count : goal.returns-clause-count
returns-clause-count g c =
    c.loop-bit.invariant.count ∙ ap (λ (x : List Bool). frame_count (placed 0 256 x))
    (take_all c.loop-bit.bit-index c.args.bits.now c.loop-bit-test.false)
