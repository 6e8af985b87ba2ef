-- What is seen of lists that were worked out by hand, computed from the definitions alone. Types and names are made up.
use Rattle.std.proofs.Common.{◌≡◌, ℕ, Bool, true, false, List, [], ◌∷◌, ◌++◌, Option, Some, None, codes, refl, zip}
use Rattle.bus_bits.specs.Octet.{number, octets}
use Rattle.bus_bits.specs.Text.{text_bits}
use Rattle.bus_fcs.specs.Division.{add, step, divided, remainder}
use Rattle.bus_fcs.specs.FrameCheck.{ends_inverted, is_good}
use Rattle.bus_line.specs.Report.{Report, Frame, Damaged, Idle}
use Rattle.bus_line.specs.declared.cause.Cause.TheVariants.{Short}
use Rattle.bus_line.specs.Due.{placed}
use Rattle.bus_dictionary.specs.Entry.{FrameType}
use Rattle.bus_dictionary.specs.declared.standing.Standing.{Standing}
use Rattle.bus_dictionary.specs.declared.standing.Standing.TheVariants.{Unknown, Known}
use Rattle.bus_line.specs.LineReport.{of_line, merged}
use Rattle.bus_line.specs.declared.line.Line.TheVariants.{First, Second}
use Rattle.bus_line.specs.declared.line.Line.{Line}
use Rattle.bus_pairing.specs.Talk.{pending}
use Rattle.bus_pairing.specs.Seen.{SeenReport, seen}
use Rattle.bus_pairing.specs.History.{tally, history}
use Rattle.bus_pairing.specs.Ledger.{handled}
use Rattle.bus_pairing.specs.declared.outcome.Outcome.{Outcome}
use Rattle.bus_pairing.specs.declared.outcome.Outcome.TheVariants.{Answered, Late, Missing, Spoilt}
use Rattle.bus_pairing.specs.declared.verdict.Verdict.{Verdict}

abbrev frame_type : ℕ → List ℕ → Bool → Option ℕ → FrameType
frame_type ftype name answered window =
    record { ftype = ftype; name = name; size = 0; answered = answered; window = window; bits = [] }

-- a call that is answered by a reply, within this many bits or whenever it comes, and a notice
abbrev calls_within : Option ℕ → List FrameType
calls_within window = frame_type 0 (codes "call") true window ∷ frame_type 128 (codes "reply") false None
    ∷ frame_type 9 (codes "notice") false None ∷ []

abbrev calls : List FrameType
calls = calls_within None

abbrev call_at : ℕ → ℕ → Report
call_at first past = record { kind = Frame (16 ∷ 131 ∷ 0 ∷ 253 ∷ 229 ∷ []); first = first; past = past }

abbrev reply_at : ℕ → ℕ → Report
reply_at first past = record { kind = Frame (16 ∷ 131 ∷ 128 ∷ 245 ∷ 97 ∷ []); first = first; past = past }

abbrev told : Report → Option Standing → Option Verdict → Bool → SeenReport
told r standing verdict stray =
    record { line = None; report = r; standing = standing; verdict = verdict; stray = stray }

abbrev verdict_on_call : Outcome → ℕ → ℕ → Option Verdict
verdict_on_call outcome first past =
    Some (record { outcome = outcome; span = record { first = first; past = past }; station = 16; ftype = 0 })

-- a call and its reply
call_and_reply :
    seen calls
    (of_line
    (placed 0 3
    (text_bits (codes "01111110 00001000 11000001 00000000 101111101 10100111 01111110 00001000 11000001 00000001 "
    ++ codes "10101111 100000110 01111110"))))
    ≡ told (call_at 8 49) (Some (Known 16 0)) None false ∷ told (reply_at 57 98) (Some (Known 16 128))
    (verdict_on_call Answered 8 49) false ∷ []
unfolding is_good remainder divided step add ends_inverted octets number
call_and_reply = refl

-- a reply that begins as many bits after the call as its window has
reply_in_time :
    seen (calls_within (Some 16))
    (of_line
    (placed 0 3
    (text_bits (codes "01111110 00001000 11000001 00000000 101111101 10100111 01111110 01111110 00001000 11000001 "
    ++ codes "00000001 10101111 100000110 01111110"))))
    ≡ told (call_at 8 49) (Some (Known 16 0)) None false ∷ told (reply_at 65 106) (Some (Known 16 128))
    (verdict_on_call Answered 8 49) false ∷ []
unfolding is_good remainder divided step add ends_inverted octets number
reply_in_time = refl

-- and eight bits more: it is late, and no stray
late_reply :
    seen (calls_within (Some 16))
    (of_line
    (placed 0 3
    (text_bits (codes "01111110 00001000 11000001 00000000 101111101 10100111 01111110 01111110 01111110 00001000 "
    ++ codes "11000001 00000001 10101111 100000110 01111110"))))
    ≡ told (call_at 8 49) (Some (Known 16 0)) None false ∷ told (reply_at 73 114) (Some (Known 16 128))
    (verdict_on_call Late 8 49) false ∷ []
unfolding is_good remainder divided step add ends_inverted octets number
late_reply = refl

-- the same without a window
whenever_it_comes :
    seen calls
    (of_line
    (placed 0 3
    (text_bits (codes "01111110 00001000 11000001 00000000 101111101 10100111 01111110 01111110 01111110 00001000 "
    ++ codes "11000001 00000001 10101111 100000110 01111110"))))
    ≡ told (call_at 8 49) (Some (Known 16 0)) None false ∷ told (reply_at 73 114) (Some (Known 16 128))
    (verdict_on_call Answered 8 49) false ∷ []
unfolding is_good remainder divided step add ends_inverted octets number
whenever_it_comes = refl

-- the same from place 100 on
moved_on :
    seen calls
    (of_line (placed 100 3 (text_bits (codes "01111110 00001000 11000001 00000000 101111101 10100111 01111110"))))
    ≡ told (call_at 108 149) (Some (Known 16 0)) None false ∷ []
unfolding is_good remainder divided step add ends_inverted octets number
moved_on = refl

-- a call in place of the reply, and then a damaged piece
missing_and_spoilt :
    seen calls
    (of_line
    (placed 0 3
    (text_bits (codes "01111110 00001000 11000001 00000000 101111101 10100111 01111110 00001000 11000001 00000000 "
    ++ codes "101111101 10100111 01111110 000000000000000000000000 01111110"))))
    ≡ told (call_at 8 49) (Some (Known 16 0)) None false
    ∷ told (call_at 57 98) (Some (Known 16 0)) (verdict_on_call Missing 8 49) false
    ∷ told (record { kind = Damaged Short; first = 106; past = 130 }) None (verdict_on_call Spoilt 57 98) false ∷ []
unfolding is_good remainder divided step add ends_inverted octets number
missing_and_spoilt = refl

-- a reply that nobody asked for
stray_reply :
    seen calls
    (of_line (placed 0 3 (text_bits (codes "01111110 00001000 11000001 00000001 10101111 100000110 01111110"))))
    ≡ told (reply_at 8 49) (Some (Known 16 128)) None true ∷ []
unfolding is_good remainder divided step add ends_inverted octets number
stray_reply = refl

-- an idle decides nothing; a frame of a type that the dictionary lacks is no reply
idle_and_unknown :
    seen calls
    (of_line
    (placed 0 3
    (text_bits (codes "01111110 00001000 11000001 00000000 101111101 10100111 01111110 111111111111111 01111110 "
    ++ codes "00001000 11000001 011111011 00110000 110111110 01111110"))))
    ≡ told (call_at 8 49) (Some (Known 16 0)) None false
    ∷ told (record { kind = Idle; first = 57; past = 72 }) None None false
    ∷ told (record { kind = Frame (16 ∷ 131 ∷ 254 ∷ 12 ∷ 251 ∷ []); first = 80; past = 122 }) (Some (Unknown 16 254))
    (verdict_on_call Missing 8 49) true ∷ []
unfolding is_good remainder divided step add ends_inverted octets number
idle_and_unknown = refl

-- a call to all stations waits for nothing
to_all_stations :
    pending calls
    (of_line (placed 0 3 (text_bits (codes "01111110 111110111 110000001 00000000 11011001 01100101 01111110")))) ≡ None
unfolding is_good remainder divided step add ends_inverted octets number
to_all_stations = refl

-- a call that nothing follows but an idle is pending
still_pending :
    pending calls
    (of_line
    (placed 0 3 (text_bits (codes "01111110 00001000 11000001 00000000 101111101 10100111 01111110 111111111111111"))))
    ≡ Some (record { span = record { first = 8; past = 49 }; station = 16; ftype = 0 })
unfolding is_good remainder divided step add ends_inverted octets number
still_pending = refl

-- the verdicts that name station 16, of a call, a second one in place of its reply, and a damaged piece
three_reports : List Report
three_reports = call_at 8 49 ∷ call_at 57 98 ∷ record { kind = Damaged Short; first = 106; past = 130 } ∷ []

tallied : tally calls (of_line three_reports) 16 ≡ record { answered = 0; missing = 1; spoilt = 1; late = 0 }
unfolding three_reports
tallied = refl

last_of_two : history 1 (of_line three_reports)
    ≡ record { line = First; span = record { first = 57; past = 98 }; octets = 16 ∷ 131 ∷ 0 ∷ 253 ∷ 229 ∷ [] } ∷ []
unfolding three_reports
last_of_two = refl

fifteen_steps : handled three_reports ≡ 15
unfolding three_reports
fifteen_steps = refl

abbrev told_on : Line → Report → Option Standing → Option Verdict → Bool → SeenReport
told_on line r standing verdict stray =
    record { line = Some line; report = r; standing = standing; verdict = verdict; stray = stray }

abbrev idle_from : ℕ → ℕ → Report
idle_from first past = record { kind = Idle; first = first; past = past }

abbrev both : List ℕ → List ℕ → List (Bool × Bool)
both first second = zip (text_bits first) (text_bits second)

-- two lines: the call on the first, its reply on the second after it
answered_on_second :
    seen calls
    (merged 0 3
    (both (codes "01111110 00001000 11000001 00000000 101111101 10100111 01111110 "
    ++ codes "111111111111111111111111111111111111111111111111111111111")
    (codes "111111111111111111111111111111111111111111111111111111111 01111110 00001000 11000001 "
    ++ codes "00000001 10101111 100000110 01111110")))
    ≡ told_on Second (idle_from 0 15) None None false ∷ told_on First (call_at 8 49) (Some (Known 16 0)) None false
    ∷ told_on First (idle_from 57 72) None None false
    ∷ told_on Second (reply_at 65 106) (Some (Known 16 128)) (verdict_on_call Answered 8 49) false ∷ []
unfolding is_good remainder divided step add ends_inverted octets number
answered_on_second = refl

-- the reply on the first line answers nothing
unanswered_on_first :
    seen calls
    (merged 0 3
    (both (codes "01111110 00001000 11000001 00000000 101111101 10100111 01111110 00001000 11000001 00000001 "
    ++ codes "10101111 100000110 01111110")
    (codes "1111111111111111111111111111111111111111111111111111111111111111111111111111111111111111111111111111111111"
    ++ codes "")))
    ≡ told_on Second (idle_from 0 15) None None false ∷ told_on First (call_at 8 49) (Some (Known 16 0)) None false
    ∷ told_on First (reply_at 57 98) (Some (Known 16 128)) (verdict_on_call Missing 8 49) true ∷ []
unfolding is_good remainder divided step add ends_inverted octets number
unanswered_on_first = refl

-- both are decided at one place: the first line's comes first
both_at_one_place :
    seen calls
    (merged 0 3 (both (codes "01111110 00001000 11000001 00000000 101111101 10100111 01111110")
    (codes "01111110 00001000 11000001 00000001 10101111 100000110 01111110")))
    ≡ told_on First (call_at 8 49) (Some (Known 16 0)) None false
    ∷ told_on Second (reply_at 8 49) (Some (Known 16 128)) (verdict_on_call Answered 8 49) false ∷ []
unfolding is_good remainder divided step add ends_inverted octets number
both_at_one_place = refl
