-- The bits of a text of one line.
use Rattle.std.specs.Prelude.{ℕ, ◌==◌, ◌||◌, Bool, List, map, filter, take_while}

-- space, tab, CR or LF
abbrev pub is_space : ℕ → Bool
is_space x = (x == 32) || ((x == 9) || ((x == 13) || (x == 10)))

-- the octets before the first that is no mark and no space
abbrev pub front_by : (ℕ → Bool) → List ℕ → List ℕ
front_by is_mark xs = take_while (λ x. is_mark x || is_space x) xs

-- the marks among them
abbrev pub marks_by : (ℕ → Bool) → List ℕ → List ℕ
marks_by is_mark xs = filter is_mark (front_by is_mark xs)

-- one line: `0` or `1`
abbrev pub is_bit : ℕ → Bool
is_bit x = (x == 48) || (x == 49)

abbrev pub text_bits : List ℕ → List Bool
text_bits xs = map (λ x. x == 49) (marks_by is_bit xs)
