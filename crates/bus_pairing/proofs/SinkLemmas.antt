-- What a sink did that was offered reports, one call after another.
use Rattle.std.proofs.Common.{◌≡◌, ℕ, ◌+◌, List, Option, Some, None, Result, Ok, Err, OnOk, OnErr, refl, ◌∙◌, arith}
use Rattle.std.proofs.Common.{length-append, inl, inr}
use Rattle.std.proofs.lemmas.Bool.{cases_lt}
use Rattle.bus_pairing.specs.Seen.{SeenReport}
use Rattle.bus_line.specs.Told.{told}
use Rattle.bus_pairing.specs.Sink.{SinkView, IsFull, IsWithinRoom, SinkTook}

full-within : (room : Option ℕ) (taken : Option (List SeenReport)) → IsFull room taken → IsWithinRoom room taken
full-within None taken full = tt
full-within (Some room) None full = tt
full-within (Some room) (Some reports) full = omega arith

-- a full sink stays full, whatever it takes
still-full : (room : Option ℕ) (taken : Option (List SeenReport)) (more : List SeenReport) → IsFull room taken →
    IsWithinRoom room (told taken more) → IsFull room (told taken more)
still-full None taken more full within = tt
still-full (Some room) None more full within = tt
still-full (Some room) (Some reports) more full within = omega (arith, full, within, length-append reports more)

-- a sink's answer to one report
module _ {S : Type 0} (sink : SinkView S) where
  pub took-one : {T E : Type 0} (answer : Result T E) (s t : S) → OnOk answer (sink.refusals t ≡ sink.refusals s)
      → sink.room t ≡ sink.room s → OnOk answer (IsWithinRoom (sink.room t) (sink.taken t)) →
      OnOk answer (SinkTook sink 0 s t)
  took-one (Ok x) s t counted same_room within = record {
    counted = omega (arith, counted);
    same_room = same_room;
    full = λ some. absurd (omega (arith, some));
    within = λ _. within;
  }
  took-one (Err e) s t counted same_room within = tt

  pub refused-one : {T E : Type 0} (answer : Result T E) (s t : S) → OnErr answer (sink.taken t ≡ sink.taken s)
      → OnErr answer (sink.refusals t ≡ sink.refusals s + 1) → sink.room t ≡ sink.room s →
      OnErr answer (IsFull (sink.room s) (sink.taken s)) →
      OnErr answer (SinkTook sink 1 s t)
  refused-one (Ok x) s t not_taken counted same_room full = tt
  refused-one (Err e) s t not_taken counted same_room full =
      let still : IsFull (sink.room t) (sink.taken t) = rw (same_room, not_taken) full in
      record {
        counted = counted;
        same_room = same_room;
        full = λ _. still;
        within = λ _. full-within (sink.room t) (sink.taken t) still;
      }

module _ {S : Type 0} {sink : SinkView S} where
  pub took-none : {s : S} → SinkTook sink 0 s s
  took-none = record {
    counted = omega arith;
    same_room = refl;
    full = λ some. absurd (omega (arith, some));
    within = λ fits. fits;
  }

  -- more, after none was refused
  pub took-after : {n : ℕ} {s t u : S} → SinkTook sink 0 s t → SinkTook sink n t u →
      SinkTook sink n s u
  took-after first next = record {
    counted = omega (arith, first.counted, next.counted);
    same_room = next.same_room ∙ first.same_room;
    full = next.full;
    within = λ fits. next.within (first.within fits);
  }

  -- more, whether any was refused or not
  pub took-more : {m n : ℕ} {s t u : S} (more : List SeenReport) → SinkTook sink m s t →
      SinkTook sink n t u → sink.taken u ≡ told (sink.taken t) more → SinkTook sink (n + m) s u
  took-more {m} {n} {s} {t} {u} more first next took = record {
    counted = omega (arith, first.counted, next.counted);
    same_room = next.same_room ∙ first.same_room;
    full = λ some. elim (cases_lt 0 n) [
      | inl refused ↦ next.full refused
      | inr none ↦
          let full = first.full (omega (arith, some, none)) in
          let within = next.within (full-within (sink.room t) (sink.taken t) full) in
          rw (next.same_room, took)
          (still-full (sink.room t) (sink.taken t) more full (rw (next.same_room, took) at within))
    ];
    within = λ fits. next.within (first.within fits);
  }
