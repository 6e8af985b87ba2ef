use Rattle.std.proofs.Common.{rules, tests, ◌≡◌, ◌∙◌, true, false, sym, ap, [], ℕ, ◌++◌, Option, option_map, Bool}
use Rattle.std.specs.Option.{option_to_list}
use Rattle.bus_bits.specs.declared.span.Span.{Span}
use Rattle.bus_dictionary.specs.declared.standing.Standing.{Standing}
use Rattle.bus_line.specs.declared.line.Line.{Line}
use Rattle.bus_text.specs.Listing.{strays_at, frame_line}
use Rattle.bus_dictionary.specs.Standing.{station_in}
use Rattle.bus_text.specs.declared.kind.Kind.TheVariants as kind
use Rattle.bus_text.proofs.ListingLemmas.{put-none}
use Rattle.bus_text.proofs.printer.Printer.put_stray.Goals as goal

-- no lines, unless heads are named and the frame is a stray
no_heads : (line : Option Line) (heads stray : Bool) (span : Span) (standing : Option Standing) → heads ≡ false →
    strays_at line heads stray span standing ≡ []
no_heads line heads stray span standing h = ap (λ (b : Bool). strays_at line b stray span standing) h

is_told : (line : Option Line) (heads stray : Bool) (span : Span) (standing : Option Standing) → heads ≡ true →
    stray ≡ true → strays_at line heads stray span standing ≡ strays_at line true true span standing
is_told line heads stray span standing h s = ap (λ (b : Bool). strays_at line b stray span standing) h
    ∙ ap (λ (b : Bool). strays_at line true b span standing) s

pub returns-then-not-self : goal.returns-then-not-self
returns-then-not-self c =
    let b = c.args.seen_event.now in
    put-none c.args.self.now.filter (strays_at c.args.line c.args.self.now.heads b.stray b.event.span b.standing) _
    c.args.page.now
    (no_heads c.args.line c.args.self.now.heads b.stray b.event.span b.standing (search (rules, tests)))

pub returns-then-not-seen_event : goal.returns-then-not-seen_event
returns-then-not-seen_event c =
    let b = c.args.seen_event.now in
    let heads : c.args.self.now.heads ≡ true = search (rules, tests) in
    let stray : b.stray ≡ false = search (rules, tests) in
    put-none c.args.self.now.filter (strays_at c.args.line c.args.self.now.heads b.stray b.event.span b.standing) _
    c.args.page.now
    (ap (λ (h : Bool). strays_at c.args.line h b.stray b.event.span b.standing) heads
    ∙ ap (λ (s : Bool). strays_at c.args.line true s b.event.span b.standing) stray)

pub returns-in_default : goal.returns-in_default
returns-in_default c =
    let b = c.args.seen_event.now in
    put-none c.args.self.now.filter (strays_at c.args.line c.args.self.now.heads b.stray b.event.span b.standing) _
    c.args.page.now
    (is_told c.args.line c.args.self.now.heads b.stray b.event.span b.standing (search (rules, tests))
    (search (rules, tests))
    ∙ ap (λ (s : Option Standing). strays_at c.args.line true true b.event.span s) c.in_default.is)

pub returns-in_default-frame_type : goal.returns-in_default-frame_type
returns-in_default-frame_type c =
    let b = c.args.seen_event.now in
    put-none c.args.self.now.filter (strays_at c.args.line c.args.self.now.heads b.stray b.event.span b.standing) _
    c.args.page.now
    (is_told c.args.line c.args.self.now.heads b.stray b.event.span b.standing (search (rules, tests))
    (search (rules, tests))
    ∙ ap (λ (s : Option Standing). strays_at c.args.line true true b.event.span s) c.in-Some.is
    ∙ ap (λ (t : Option ℕ).
    option_to_list (option_map (frame_line c.args.line kind.Stray b.event.span (station_in c.in-Some.standing)) t)
    ++ []) (sym c.frame_type.ensures ∙ c.in_default-frame_type.is))
