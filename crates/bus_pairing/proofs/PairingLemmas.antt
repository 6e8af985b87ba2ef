-- The command that waits after one report more.
use Rattle.std.proofs.Common.{◌≡◌, ℕ, true, false, List, [], ◌∷◌, ◌++◌, Option, None, sym, ap, refl, ◌∙◌}
use Rattle.bus_bits.specs.declared.span.Span.{Span}
use Rattle.bus_dictionary.specs.Standing.{standing}
use Rattle.bus_dictionary.specs.declared.standing.Standing.{Standing}
use Rattle.std.specs.Option.{option_and_then}
use Rattle.bus_dictionary.specs.Entry.{FrameType}
use Rattle.bus_line.specs.Report.{Kind, Frame, Damaged, Overlong, Abort, Idle}
use Rattle.bus_line.specs.Shown.{span_of}
use Rattle.bus_line.specs.LineReport.{LineReport, line_report}
use Rattle.bus_line.specs.declared.line.Line.{Line}
use Rattle.bus_pairing.specs.declared.pending.Pending.{Pending}
use Rattle.bus_pairing.specs.Internal.Damage.{is_damage}
use Rattle.bus_pairing.specs.Talk.{command_on, is_idle_kind, pending, standing_of}
use Rattle.bus_pairing.proofs.TalkLemmas.{pending-talk}

damage-has-no-standing : (d : List FrameType) (kind : Kind) → is_damage kind ≡ true →
    (is_idle_kind kind ≡ false) × (standing_of d kind ≡ None)
damage-has-no-standing d (Damaged cause) damage = (refl, refl)
damage-has-no-standing d Overlong damage = (refl, refl)
damage-has-no-standing d Abort damage = (refl, refl)
damage-has-no-standing d (Frame octets) damage = absurd (cc)
damage-has-no-standing d Idle damage = absurd (cc)

-- none waits after damage
pub waiting-damage : (d : List FrameType) (hs : List LineReport) (r : LineReport) → is_damage r.report.kind ≡ true →
    None ≡ pending d (hs ++ r ∷ [])
waiting-damage d hs r damage =
    let no_standing = damage-has-no-standing d r.report.kind damage in
    sym (pending-talk d hs r no_standing.0
    ∙ ap (λ s. option_and_then (command_on r.line d (span_of r.report)) s) no_standing.1)

-- and after a frame that which its standing makes of it
pub waiting-frame : (d : List FrameType) (hs : List LineReport) (line : Option Line) (span : Span) (octets : List ℕ)
    (s : Standing) (waits : Option Pending) → s ≡ standing octets d → waits ≡ command_on line d span s
    → waits ≡ pending d (hs ++ line_report line
    (record { kind = Frame octets; first = span.first; past = span.past }) ∷ [])
waiting-frame d hs line span octets s waits stands is =
    is ∙ (ap (command_on line d span) stands ∙ sym (pending-talk d hs _ refl))
