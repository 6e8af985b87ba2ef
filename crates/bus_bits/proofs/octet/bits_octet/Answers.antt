use Rattle.std.proofs.Common.{◌≡◌, ◌+◌, ◌*◌, Bool, false, List, [], ◌∷◌, get_or, length, cond, true, refl, arith}
use mir.Val.{bool_byte}
use Rattle.bus_bits.specs.Octet.{number}
use Rattle.bus_bits.proofs.octet.bits_octet.Goals as goal

byte_is : (b : Bool) → bool_byte b ≡ cond b 1 0
byte_is true = refl
byte_is false = refl

weighed : (s t u v w x y z : Bool)
    → bool_byte s + 2 * bool_byte t + 4 * bool_byte u + 8 * bool_byte v + 16 * bool_byte w + 32 * bool_byte x
    + 64 * bool_byte y
    + 128 * bool_byte z
    ≡ number (s ∷ t ∷ u ∷ v ∷ w ∷ x ∷ y ∷ z ∷ [])
unfolding number
weighed s t u v w x y z =
    omega (arith, byte_is s, byte_is t, byte_is u, byte_is v, byte_is w, byte_is x, byte_is y, byte_is z)

-- eight bits by their weights
number_of_eight : (d : List Bool) → length d ≡ 8
    → bool_byte (get_or d 0 false) + 2 * bool_byte (get_or d 1 false) + 4 * bool_byte (get_or d 2 false)
    + 8 * bool_byte (get_or d 3 false) + 16 * bool_byte (get_or d 4 false) + 32 * bool_byte (get_or d 5 false)
    + 64 * bool_byte (get_or d 6 false) + 128 * bool_byte (get_or d 7 false)
    ≡ number d
number_of_eight (s ∷ t ∷ u ∷ v ∷ w ∷ x ∷ y ∷ z ∷ []) eight = weighed s t u v w x y z
number_of_eight (s ∷ t ∷ u ∷ v ∷ w ∷ x ∷ y ∷ z ∷ a ∷ b) eight = absurd (omega arith)
number_of_eight (s ∷ t ∷ u ∷ v ∷ w ∷ x ∷ y ∷ []) eight = absurd (omega arith)
number_of_eight (s ∷ t ∷ u ∷ v ∷ w ∷ x ∷ []) eight = absurd (omega arith)
number_of_eight (s ∷ t ∷ u ∷ v ∷ w ∷ []) eight = absurd (omega arith)
number_of_eight (s ∷ t ∷ u ∷ v ∷ []) eight = absurd (omega arith)
number_of_eight (s ∷ t ∷ u ∷ []) eight = absurd (omega arith)
number_of_eight (s ∷ t ∷ []) eight = absurd (omega arith)
number_of_eight (s ∷ []) eight = absurd (omega arith)
number_of_eight [] eight = absurd (omega arith)

pub returns : goal.returns
returns c =
    let first = c.from.ensures in
    let second = c.from-2.ensures in
    let third = c.from-3.ensures in
    let fourth = c.from-4.ensures in
    let fifth = c.from-5.ensures in
    let sixth = c.from-6.ensures in
    let seventh = c.from-7.ensures in
    let eighth = c.from-8.ensures in
    rw (first, second, third, fourth, fifth, sixth, seventh, eighth) (number_of_eight c.args.b.now c.told-b)
