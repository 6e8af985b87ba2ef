-- The parts of what is shown of a frame.
use Rattle.std.proofs.Common.{◌≡◌, ℕ, ◌-◌, ◌*◌, ◌/◌, ◌%◌, ◌≤◌, ◌<◌, true, false, List, [], ◌∷◌, ◌++◌, length, take}
use Rattle.std.proofs.Common.{drop, nat_le, Option, Some, append_assoc, zero, suc, get_or, codes, Result, Ok, Err, refl}
use Rattle.std.proofs.Common.{sym, ap, ◌∙◌, subst, arith, length-append}
use Rattle.std.proofs.lemmas.Grind.{common_steps, flat_map-append}
use Rattle.std.proofs.lemmas.List.{append-nil, take-append-le}
use Rattle.std.specs.Io.KnownBytes.{Appends}
use Rattle.std.specs.List.{AllPass, flat_map, AllPairs}
use Rattle.hex.specs.Hex.{decode_of, is_hex_digit}
use Rattle.hex.specs.declared.error.FromHexError.{FromHexError}
use Rattle.hex.proofs.HexLemmas.{decode_of-ok, decode_of-digits}
use Rattle.bus_dictionary.specs.BitName.{NamedBit, AreBits}
use Rattle.bus_dictionary.specs.Entry.{FrameType}
use Rattle.bus_dictionary.specs.Dictionary.{entry_at}
use Rattle.bus_dictionary.specs.Standing.{standing, Means}
use Rattle.bus_dictionary.specs.declared.standing.Standing.{Standing}
use Rattle.bus_dictionary.specs.declared.standing.Standing.TheVariants.{Known}
use Rattle.bus_text.specs.declared.put.ShortWrite.{ShortWrite}
use Rattle.bus_text.specs.Pages.{Puts}
use Rattle.bus_text.specs.Show.{typed_frame, if_frame, if_decoded, name_text, frame_text, names_text, shown_text, Reads}
use Rattle.bus_text.specs.Show.{Shows}
use Rattle.bus_text.specs.HeadText.{head_text}
use Rattle.bus_text.specs.declared.fault.ToolFault.{ToolFault}
use Rattle.bus_text.specs.declared.fault.ToolFault.TheVariants.{Memory, Dictionary, Hex, FrameSize}
use Rattle.bus_text.proofs.KnownBytesLemmas.{appends_nothing}

-- no digits, an odd number of them, or another character
pub no_hex : (s : List ℕ) → (1 ≤ length s → length s % 2 ≡ 0 → AllPass is_hex_digit s → ⊥) → typed_frame s ≡ Err Hex
no_hex s never = answered (decode_of s) refl
  where
    answered : (r : Result (List ℕ) FromHexError) → decode_of s ≡ r → if_decoded r ≡ Err Hex
    answered (Err e) is = refl
    answered (Ok []) is = refl
    answered (Ok (o ∷ os)) is =
        let digits = decode_of-ok s (o ∷ os) is in
        absurd (never (omega (arith, digits.2)) digits.0 digits.1)

-- digits that give octets, at least one
pub hex_frame : (s bytes : List ℕ) → decode_of s ≡ Ok bytes → 1 ≤ length bytes → typed_frame s ≡ if_frame bytes
hex_frame s [] is some = absurd (none some)
  where
    none : (1 ≤ 0) → ⊥
    none some = omega (arith, some)
hex_frame s (o ∷ os) is some = ap if_decoded is

pub frame_fits : (bytes : List ℕ) → 4 ≤ length bytes → length bytes ≤ 258 → if_frame bytes ≡ Ok bytes
frame_fits bytes least most =
    let at-least : nat_le 4 (length bytes) ≡ true = grind (arith, least) in
    let at-most : nat_le (length bytes) 258 ≡ true = grind (arith, most) in
    rw (at-least, at-most) refl

pub frame_short : (bytes : List ℕ) → length bytes < 4 → if_frame bytes ≡ Err FrameSize
frame_short bytes few =
    let short : nat_le 4 (length bytes) ≡ false = grind (arith, few) in
    rw short refl

pub frame_long : (bytes : List ℕ) → 258 < length bytes → if_frame bytes ≡ Err FrameSize
frame_long bytes many =
    let at-least : nat_le 4 (length bytes) ≡ true = grind (arith, many) in
    let long : nat_le (length bytes) 258 ≡ false = grind (arith, many) in
    rw (at-least, long) refl

-- digits of even number give octets, half as many
pub even_digits : (s : List ℕ) → length s % 2 ≡ 0 → AllPass is_hex_digit s → (bytes : List ℕ) × (decode_of s ≡ Ok bytes)
    × (length s ≡ 2 * length bytes)
even_digits s even all =
    let decoded = decode_of-digits s even all in
    (decoded.0, decoded.1, (decode_of-ok s decoded.0 decoded.1).2)

pub too_short : (s : List ℕ) → 1 ≤ length s → length s % 2 ≡ 0 → AllPass is_hex_digit s → length s / 2 < 4 →
    typed_frame s ≡ Err FrameSize
too_short s some even all few =
    let decoded = even_digits s even all in
    hex_frame s decoded.0 decoded.1 (omega (arith, decoded.2, some))
    ∙ frame_short decoded.0 (omega (arith, decoded.2, few))

pub too_long : (s : List ℕ) → length s % 2 ≡ 0 → AllPass is_hex_digit s → 258 < length s / 2 →
    typed_frame s ≡ Err FrameSize
too_long s even all many =
    let decoded = even_digits s even all in
    hex_frame s decoded.0 decoded.1 (omega (arith, decoded.2, many))
    ∙ frame_long decoded.0 (omega (arith, decoded.2, many))

-- octets that digits are
pub sized_frame : (s bytes : List ℕ) → decode_of s ≡ Ok bytes → 4 ≤ length s / 2 → length s / 2 ≤ 258 →
    (typed_frame s ≡ Ok bytes) × (4 ≤ length bytes) × (length bytes ≤ 258)
sized_frame s bytes is least most =
    let twice = (decode_of-ok s bytes is).2 in
    let few : 4 ≤ length bytes = omega (arith, twice, least) in
    let many : length bytes ≤ 258 = omega (arith, twice, most) in
    (hex_frame s bytes is (omega (arith, few)) ∙ frame_fits bytes few many, few, many)

-- a front of what was to be written went out, and so a front of more
pub cut_more : (start now : Option (List ℕ)) (front more : List ℕ) (cut : ShortWrite) → Puts start now front (Err cut) →
    Puts start now (front ++ more) (Err cut)
cut_more start now front more cut put = (
  subst (λ (l : List ℕ). Appends start now l) (sym (take-append-le cut.sent front more put.1)) put.0,
  omega (arith, put.1, length-append front more),
)

-- the text up to one name, that name, and the others
pub names_text_at : (before : List ℕ) (done rest : List NamedBit) (b : NamedBit)
    → before ++ flat_map name_text (done ++ b ∷ rest) ≡ ((before ++ flat_map name_text done) ++ name_text b)
    ++ flat_map name_text rest
names_text_at before done rest b =
    ap (λ (l : List ℕ). before ++ l) (flat_map-append name_text done (b ∷ rest))
    ∙ (sym (append_assoc before (flat_map name_text done) (name_text b ++ flat_map name_text rest))
    ∙ sym (append_assoc (before ++ flat_map name_text done) (name_text b) (flat_map name_text rest)))

-- the place of each is at least how many stand before it
place_least : (bits : List NamedBit) → AllPairs (λ a b. a.at < b.at) bits → (i : ℕ) (d : NamedBit) → i < length bits →
    i ≤ (get_or bits i d).at
place_least bits rising zero d inside = omega arith
place_least bits rising (suc i) d inside =
    let before = place_least bits rising i d (omega (arith, inside)) in
    omega (arith, before, rising i (suc i) d (omega arith) inside)

-- so there are no more than places
pub names_few : (size : ℕ) (bits : List NamedBit) → AreBits size bits → length bits ≤ 8 * size
names_few size [] named = omega arith
names_few size (b ∷ bits) named =
    let last = place_least (b ∷ bits) named.rising (length bits) b (omega arith) in
    omega (arith, last, named.within (length bits) b (omega arith))

-- a frame that is known has as many octets after its type as its entry says
pub known_size : (octets : List ℕ) (d : List FrameType) (st ftype : ℕ) (e : FrameType) →
    Means (Known st ftype) octets d → Some e ≡ entry_at ftype d
    → length (take (length octets - 2 - 3) (drop 3 octets)) ≡ e.size
known_size octets d st ftype e (x, there, long) is =
    let same : x.size ≡ e.size = let some = sym there ∙ sym is in cc in
    let rest : length (take (length octets - 2 - 3) (drop 3 octets)) ≡ length octets - 2 - 3 =
    grind (arith, common_steps, long) in
    omega (arith, long, same, rest)

-- a dictionary that is not read
pub unread_shows : (text : Option (List ℕ)) (hex octets : List ℕ) (now : Option (List ℕ)) (fault : ToolFault) →
    typed_frame hex ≡ Ok octets
    → Reads text (Err fault) → Shows text hex now now (Err fault)
unread_shows text hex octets now Memory typed reads = (octets, typed, reads, appends_nothing now)
unread_shows text hex octets now (Dictionary fault) typed reads = (octets, typed, reads, appends_nothing now)
unread_shows text hex octets now _ typed reads = absurd reads

-- the two lines that each frame has, and the others
pub shown_front : (octets : List ℕ) (d : List FrameType) →
    shown_text octets d ≡ (frame_text octets ++ (head_text (standing octets d) d ++ codes "\n"))
    ++ names_text (standing octets d) octets d
unfolding shown_text
shown_front octets d = refl

pub no_names : (s : Standing) (octets : List ℕ) (d : List FrameType) →
    ((station ftype : ℕ) → s ≡ Known station ftype → ⊥) → names_text s octets d ≡ []
no_names (Known station ftype) octets d other = absurd (other station ftype refl)
no_names _ octets d other = refl

-- where no names follow
pub shown_alone : (octets : List ℕ) (d : List FrameType) → names_text (standing octets d) octets d ≡ [] →
    frame_text octets ++ (head_text (standing octets d) d ++ codes "\n") ≡ shown_text octets d
shown_alone octets d none =
    let front = frame_text octets ++ (head_text (standing octets d) d ++ codes "\n") in
    sym (shown_front octets d ∙ (ap (λ (l : List ℕ). front ++ l) none ∙ append-nil front))
