-- The kinds of lines, and the words for them.
use Rattle.std.specs.Prelude.{Bool, true, false, List, [], ◌∷◌, ℕ, ◌==◌, codes, find, Option}
use Rattle.std.specs.Cmp.Lexicographic.{pointwise}
use Rattle.bus_text.specs.declared.kind.Kind.{Kind}
use Rattle.bus_text.specs.declared.kind.Kind.TheVariants.{Frame, Damaged, Overlong, Abort, Idle, Stray, Answered}
use Rattle.bus_text.specs.declared.kind.Kind.TheVariants.{Missing, Spoilt, Late, Begun, Pending}

abbrev pub kind_word : Kind → List ℕ
kind_word Frame = codes "frame"
kind_word Damaged = codes "damaged"
kind_word Overlong = codes "overlong"
kind_word Abort = codes "abort"
kind_word Idle = codes "idle"
kind_word Stray = codes "stray"
kind_word Answered = codes "answered"
kind_word Missing = codes "missing"
kind_word Spoilt = codes "spoilt"
kind_word Late = codes "late"
kind_word Begun = codes "open"
kind_word Pending = codes "pending"

-- each kind
abbrev pub all_kinds : List Kind
all_kinds =
    Frame ∷ Damaged ∷ Overlong ∷ Abort ∷ Idle ∷ Stray ∷ Answered ∷ Missing ∷ Spoilt ∷ Late ∷ Begun ∷ Pending ∷ []

-- the kind that a word names, if it names one
abbrev pub kind_named : List ℕ → Option Kind
kind_named word = find (λ k. pointwise (λ x y. x == y) (kind_word k) word) all_kinds

-- whether two kinds are one
abbrev pub is_kind : Kind → Kind → Bool
is_kind Frame Frame = true
is_kind Damaged Damaged = true
is_kind Overlong Overlong = true
is_kind Abort Abort = true
is_kind Idle Idle = true
is_kind Stray Stray = true
is_kind Answered Answered = true
is_kind Missing Missing = true
is_kind Spoilt Spoilt = true
is_kind Late Late = true
is_kind Begun Begun = true
is_kind Pending Pending = true
is_kind k l = false
