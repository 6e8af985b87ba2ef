-- Numbers of bits, the oldest lowest, and what they show.
use Rattle.std.proofs.Common.{◌≡◌, ℕ, zero, suc, ◌+◌, ◌-◌, ◌*◌, ◌/◌, ◌%◌, ◌^◌, ◌≤◌, ◌<◌, Bool, true, false, cond, List}
use Rattle.std.proofs.Common.{[], ◌∷◌, ◌++◌, length, take, drop, get_or, replicate, refl, sym, ap, ◌∙◌, subst, arith}
use Rattle.std.proofs.Common.{length-append, if◌then◌else◌, inl, inr}
use Rattle.std.proofs.Math.Seq.{take-append-add, drop-append-add}
use Rattle.std.proofs.Math.Nat.{mod-one, zero-mod, zero-div, pow-suc}
use Rattle.std.proofs.lemmas.Nat.{mod_below, mod-pow-add, shr-shr, pow_pos}
use Rattle.std.proofs.lemmas.List.{length-take, length-drop, take-append-drop, take-append-le, drop-append-le}
use Rattle.std.proofs.lemmas.List.{take_more, drop-take, drop-drop, get_or-drop, append_assoc, append-nil}
use Rattle.std.proofs.lemmas.Bool.{cases_Bool}
use Rattle.bus_bits.specs.Octet.{number}
use Rattle.bus_bits.proofs.OctetLemmas.{number-cons, number-lt, number-append, same_number}
use Rattle.bus_line.specs.Spelling.{ones}
use Rattle.bus_line.specs.Mark.{StandsAt}
use Rattle.bus_line.specs.Run.{ones_at_end}
use Rattle.bus_line.specs.Ledger.{is_inserted}
use Rattle.bus_line.specs.Internal.Tracks.{padded}
use Rattle.bus_line.specs.Internal.Settled.{IsWord}
use Rattle.bus_line.proofs.RunLemmas.{ones_after-more}
use Rattle.bus_line.proofs.MarkLemmas.{window-append}
use Rattle.bus_line.proofs.LedgerSettledLemmas.{inserted-true, inserted-is}

-- ---- numbers

bit-below : (x : Bool) → cond x 1 0 < 2
bit-below true = omega arith
bit-below false = omega arith

pub none_number : number [] ≡ 0
unfolding number
none_number = refl

-- a shift drops the first bits
pub number-drop : (k : ℕ) (d : List Bool) → number d / 2 ^ k ≡ number (drop k d)
number-drop zero d = omega arith
number-drop (suc k) [] = ap (λ (n : ℕ). n / 2 ^ suc k) none_number ∙ (zero-div (2 ^ suc k) ∙ sym none_number)
number-drop (suc k) (x ∷ d) =
    let next : suc k ≡ 1 + k = omega arith in
    let half : number (x ∷ d) / 2 ^ 1 ≡ number d = omega (arith, number-cons x d, bit-below x) in
    ap (λ (j : ℕ). number (x ∷ d) / 2 ^ j) next
    ∙ (sym (shr-shr (number (x ∷ d)) 1 k) ∙ (ap (λ (n : ℕ). n / 2 ^ k) half ∙ number-drop k d))

-- the first bit apart
number-halved : (x : Bool) (r : List Bool) (k : ℕ) → number (x ∷ r) % 2 ^ suc k ≡ number r % 2 ^ k * 2 + cond x 1 0
number-halved x r k =
    let whole = number-cons x r in
    let below = bit-below x in
    let half : number (x ∷ r) / 2 ≡ number r = omega (arith, whole, below) in
    let next : suc k ≡ k + 1 = omega arith in
    ap (λ (j : ℕ). number (x ∷ r) % 2 ^ j) next
    ∙ (mod-pow-add (number (x ∷ r)) k 1
    ∙ (ap (λ (m : ℕ). m % 2 ^ k * 2 + number (x ∷ r) % 2) half ∙ omega (arith, whole, below)))

-- a mask takes them
pub number-take : (k : ℕ) (d : List Bool) → number d % 2 ^ k ≡ number (take k d)
number-take zero d = mod-one (number d) ∙ sym none_number
number-take (suc k) [] = ap (λ (n : ℕ). n % 2 ^ suc k) none_number ∙ (zero-mod (2 ^ suc k) ∙ sym none_number)
number-take (suc k) (x ∷ d) = number-halved x d k
    ∙ (ap (λ (n : ℕ). n * 2 + cond x 1 0) (number-take k d) ∙ sym (number-cons x (take k d)))

first-bit : (d : List Bool) → number d % 2 ≡ cond (get_or d 0 false) 1 0
first-bit [] = ap (λ (n : ℕ). n % 2) none_number
first-bit (x ∷ d) = omega (arith, number-cons x d, bit-below x)

-- each bit
pub number-bit : (k : ℕ) (d : List Bool) → number d / 2 ^ k % 2 ≡ cond (get_or d k false) 1 0
number-bit k d =
    let here : k + 0 ≡ k = omega arith in
    ap (λ (n : ℕ). n % 2) (number-drop k d)
    ∙ (first-bit (drop k d) ∙ ap (λ (x : Bool). cond x 1 0)
    (get_or-drop k d 0 false ∙ ap (λ (j : ℕ). get_or d j false) here))

-- ---- runs of ones

-- the ones at the end, one bit more
run-more : (p : List Bool) (m : ℕ) → m < length p → ones_at_end (take (m + 1) p)
    ≡ (if get_or p m false then suc (ones_at_end (take m p)) else 0)
run-more p m inside = ap ones_at_end (take_more p m false inside) ∙ ones_after-more 0 (take m p) (get_or p m false)

-- one bit more of a number
pub field-more : (n k : ℕ) → n % 2 ^ suc k ≡ n / 2 ^ k % 2 * 2 ^ k + n % 2 ^ k
field-more n k = let next : suc k ≡ 1 + k = omega arith in ap (λ (j : ℕ). n % 2 ^ j) next ∙ mod-pow-add n 1 k

place-bit : (p : List Bool) (m k : ℕ) → number (drop m p) / 2 ^ k % 2 ≡ cond (get_or p (m + k) false) 1 0
place-bit p m k = number-bit k (drop m p) ∙ ap (λ (x : Bool). cond x 1 0) (get_or-drop m p k false)

-- at least so many ones before a place show in as many bits
pub run-least : (k m : ℕ) (p : List Bool) → m + k ≤ length p →
    (number (drop m p) % 2 ^ k + 1 ≡ 2 ^ k → k ≤ ones_at_end (take (m + k) p))
    × (k ≤ ones_at_end (take (m + k) p) → number (drop m p) % 2 ^ k + 1 ≡ 2 ^ k)
run-least zero m p inside = ((λ full. omega arith), λ many. omega (arith, mod-one (number (drop m p))))
run-least (suc k) m p inside =
    let before = run-least k m p (omega (arith, inside)) in
    let next : m + suc k ≡ (m + k) + 1 = omega arith in
    let low = mod_below (number (drop m p)) (2 ^ k) (pow_pos k) in
    let double = pow-suc 2 k in
    let run = ap (λ (j : ℕ). ones_at_end (take j p)) next ∙ run-more p (m + k) (omega (arith, inside)) in
    let parts = field-more (number (drop m p)) k
    ∙ ap (λ (c : ℕ). c * 2 ^ k + number (drop m p) % 2 ^ k) (place-bit p m k) in
    elim (cases_Bool (get_or p (m + k) false)) [
      | inl one ↦
          let high : number (drop m p) % 2 ^ suc k ≡ 2 ^ k + number (drop m p) % 2 ^ k = parts ∙ rw one (omega arith) in
          let more : ones_at_end (take (m + suc k) p) ≡ suc (ones_at_end (take (m + k) p)) = run ∙ rw one refl in (
            (λ is. omega (arith, more, high, double, is, before.0)),
            λ is. omega (arith, more, high, double, is, before.1),
          )
      | inr zero-bit ↦
          let high : number (drop m p) % 2 ^ suc k ≡ number (drop m p) % 2 ^ k = parts ∙ rw zero-bit (omega arith) in
          let none : ones_at_end (take (m + suc k) p) ≡ 0 = run ∙ rw zero-bit refl in
          ((λ is. absurd (omega (arith, high, double, low, is))), λ is. absurd (omega (arith, none, is)))
    ]

-- so many, and no more, in one bit more
pub run-just : (k m : ℕ) (p : List Bool) → m + suc k ≤ length p →
    (number (drop m p) % 2 ^ suc k + 2 ≡ 2 ^ suc k → ones_at_end (take (m + suc k) p) ≡ k)
    × (ones_at_end (take (m + suc k) p) ≡ k → number (drop m p) % 2 ^ suc k + 2 ≡ 2 ^ suc k)
run-just k m p inside =
    let more = run-least (suc k) m p inside in
    let least = run-least k (m + 1) p (omega (arith, inside)) in
    let end : m + 1 + k ≡ m + suc k = omega arith in
    let run = ap (λ (j : ℕ). ones_at_end (take j p)) end in
    let next : suc k ≡ k + 1 = omega arith in
    let parts : number (drop m p) % 2 ^ suc k ≡ number (drop (m + 1) p) % 2 ^ k * 2 + number (drop m p) % 2 =
    ap (λ (j : ℕ). number (drop m p) % 2 ^ j) next ∙ (mod-pow-add (number (drop m p)) k 1
    ∙ ap (λ (n : ℕ). n % 2 ^ k * 2 + number (drop m p) % 2) (number-drop 1 (drop m p) ∙ ap number (drop-drop 1 m p))) in
    let double = pow-suc 2 k in (
      (λ shown. grind (arith, run, parts, double, shown, more.1, least.0)),
      λ is. grind (arith, run, parts, double, is, more.0, least.1),
    )

-- ---- the word

-- the first places of a padded list
padded-take : (k : ℕ) (c : List Bool) → take (16 + k) (padded c) ≡ padded (take k c)
padded-take k c = take-append-add (replicate 16 false) c k

padded-drop : (k : ℕ) (c : List Bool) → drop (16 + k) (padded c) ≡ drop k c
padded-drop k c = drop-append-add (replicate 16 false) c k

pub padded-length : (c : List Bool) → length (padded c) ≡ 16 + length c
padded-length c = length-append (replicate 16 false) c

-- the last sixteen bits
last-length : (b : List Bool) → length (drop (length b) (padded b)) ≡ 16
last-length b = length-drop (length b) (padded b) ∙ omega (arith, padded-length b)

pub last-below : (b : List Bool) → number (drop (length b) (padded b)) < 65536
last-below b = rw (last-length b) at (number-lt (drop (length b) (padded b)))

-- a part of the word
pub word-part : (w j : ℕ) (b bits : List Bool) → IsWord w b bits →
    w / 2 ^ j ≡ number (drop (length b + j) (padded (b ++ bits)))
word-part w j b bits word =
    ap (λ (n : ℕ). n / 2 ^ j) word
    ∙ (number-drop j (drop (length b) (padded (b ++ bits))) ∙ ap number (drop-drop j (length b) (padded (b ++ bits))))

-- the same, where it begins with a bit of the list
word-from : (w j q : ℕ) (b bits : List Bool) → IsWord w b bits → length b + j ≡ 16 + q →
    w / 2 ^ j ≡ number (drop q (b ++ bits))
word-from w j q b bits word place = word-part w j b bits word
    ∙ ap number (ap (λ (i : ℕ). drop i (padded (b ++ bits))) place ∙ padded-drop q (b ++ bits))

-- the bits up to a new one
pub length-front : (i : ℕ) (b bits : List Bool) → i ≤ length bits → length (b ++ take i bits) ≡ length b + i
length-front i b bits within = length-append b (take i bits) ∙ omega (arith, length-take i bits, within)

window-front : (n q i : ℕ) (b bits : List Bool) → i ≤ length bits → q + n ≤ length b + i →
    take n (drop q (b ++ bits)) ≡ take n (drop q (b ++ take i bits))
window-front n q i b bits within before =
    let parts : b ++ bits ≡ (b ++ take i bits) ++ drop i bits =
    ap (λ (z : List Bool). b ++ z) (sym (take-append-drop i bits)) ∙ sym (append_assoc b (take i bits) (drop i bits)) in
    ap (λ (z : List Bool). take n (drop q z)) parts
    ∙ window-append n q (b ++ take i bits) (drop i bits) (omega (arith, length-front i b bits within, before))

-- the bits before a new one
before-bit : (i : ℕ) (b bits : List Bool) → ones_at_end (take (16 + (length b + i)) (padded (b ++ bits)))
    ≡ ones_at_end (b ++ take i bits)
before-bit i b bits = ap ones_at_end (padded-take (length b + i) (b ++ bits))
    ∙ ap ones_at_end (take-append-add b bits i)

-- exactly so many ones before a new bit
pub word-just : (k s w i : ℕ) (b bits : List Bool) → s + suc k ≡ 16 → IsWord w b bits → i ≤ length bits
    → (w / 2 ^ (s + i) % 2 ^ suc k + 2 ≡ 2 ^ suc k → ones_at_end (b ++ take i bits) ≡ k)
    × (ones_at_end (b ++ take i bits) ≡ k → w / 2 ^ (s + i) % 2 ^ suc k + 2 ≡ 2 ^ suc k)
word-just k s w i b bits sixteen word within =
    let p = padded (b ++ bits) in
    let m = length b + (s + i) in
    let size : length (padded (b ++ bits)) ≡ 16 + (length b + length bits) =
    padded-length (b ++ bits) ∙ omega (arith, length-append b bits) in
    let just = run-just k m p (omega (arith, size, sixteen, within)) in
    let end : m + suc k ≡ 16 + (length b + i) = omega (arith, sixteen) in
    let run : ones_at_end (take (m + suc k) p) ≡ ones_at_end (b ++ take i bits) =
    ap (λ (j : ℕ). ones_at_end (take j p)) end ∙ before-bit i b bits in
    let field : w / 2 ^ (s + i) % 2 ^ suc k + 2 ≡ number (drop m p) % 2 ^ suc k + 2 =
    ap (λ (x : ℕ). x % 2 ^ suc k + 2) (word-part w (s + i) b bits word) in
    ((λ shown. sym run ∙ just.0 (sym field ∙ shown)), λ is. field ∙ just.1 (run ∙ is))

-- the next last sixteen bits
pub word-next : (w t : ℕ) (b bits : List Bool) → IsWord w b bits → t ≤ length bits →
    w / 2 ^ t % 65536 ≡ number (drop (length (b ++ take t bits)) (padded (b ++ take t bits)))
word-next w t b bits word within =
    let p = padded (b ++ bits) in
    let size : length b + t + 16 ≡ 16 + (length b + t) = omega arith in
    let front : take (length b + t + 16) p ≡ padded (b ++ take t bits) = ap (λ (j : ℕ). take j p) size
    ∙ (padded-take (length b + t) (b ++ bits) ∙ ap padded (take-append-add b bits t)) in
    ap (λ (x : ℕ). x % 2 ^ 16) (word-part w t b bits word) ∙ (number-take 16 (drop (length b + t) p)
    ∙ ap number (sym (drop-take (length b + t) 16 p) ∙ (ap (drop (length b + t)) front
    ∙ ap (λ (j : ℕ). drop j (padded (b ++ take t bits))) (sym (length-front t b bits within)))))

-- the last sixteen bits and new ones are the word
pub word-made : (h n : ℕ) (b bits : List Bool) → h ≡ number (drop (length b) (padded b)) → n ≡ number bits →
    IsWord (h + n * 65536) b bits
word-made h n b bits last new =
    let parts : drop (length b) (padded (b ++ bits)) ≡ drop (length b) (padded b) ++ bits =
    drop-append-le (length b) (padded b) bits (omega (arith, padded-length b)) in
    sym (ap number parts
    ∙ (number-append (drop (length b) (padded b)) bits ∙ rw (last-length b) (omega (arith, last, new))))

-- ---- the bit that eight later ones have followed

abbrev pattern : List Bool
pattern = ones 5 ++ false ∷ []

pattern-number : number pattern ≡ 31
unfolding number
pattern-number = refl

-- it is an inserted 0 exactly if six bits show it
pub word-inserted : (w i : ℕ) (b bits : List Bool) → IsWord w b bits → i < length bits → 13 ≤ length b + i
    → (w / 2 ^ (3 + i) % 64 ≡ 31 → is_inserted (b ++ take i bits) (length b + i - 8) ≡ true)
    × (is_inserted (b ++ take i bits) (length b + i - 8) ≡ true → w / 2 ^ (3 + i) % 64 ≡ 31)
word-inserted w i b bits word inside far =
    let q : ℕ = length b + i - 13 in
    let u = b ++ take i bits in
    let before = length-front i b bits (omega (arith, inside)) in
    let six = window-front 6 q i b bits (omega (arith, inside)) (omega (arith, far)) in
    let field : w / 2 ^ (3 + i) % 64 ≡ number (take 6 (drop q u)) =
    ap (λ (x : ℕ). x % 64) (word-from w (3 + i) q b bits word (omega (arith, far)))
    ∙ (number-take 6 (drop q (b ++ bits)) ∙ ap number six) in
    let size : length (take 6 (drop q u)) ≡ 6 =
    length-take 6 (drop q u) ∙ omega (arith, length-drop q u, before, far) in (
      (λ shown. inserted-is u (length b + i - 8) (
        q,
        omega (arith, far),
        same_number (take 6 (drop q u)) pattern size (sym field ∙ (shown ∙ sym pattern-number)),
      )),
      λ inserted.
          let at = inserted-true u (length b + i - 8) inserted in
          let here : at.0 ≡ length b + i - 13 = omega (arith, at.1, far) in
          let stands : take 6 (drop q u) ≡ pattern = subst (λ (j : ℕ). StandsAt u j pattern) here at.2 in
          field ∙ (ap number stands ∙ pattern-number),
    )

-- and it shows
pub word-bit : (w i : ℕ) (b bits : List Bool) → IsWord w b bits → i < length bits → 8 ≤ length b + i →
    w / 2 ^ (8 + i) % 2 ≡ cond (get_or (b ++ take i bits) (length b + i - 8) false) 1 0
word-bit w i b bits word inside far =
    let q : ℕ = length b + i - 8 in
    let u = b ++ take i bits in
    let one = window-front 1 q i b bits (omega (arith, inside)) (omega (arith, far)) in
    let here : q + 0 ≡ q = omega arith in
    ap (λ (x : ℕ). x % 2) (word-from w (8 + i) q b bits word (omega (arith, far)))
    ∙ (number-take 1 (drop q (b ++ bits)) ∙ (ap number one ∙ (sym (number-take 1 (drop q u))
    ∙ (first-bit (drop q u) ∙ ap (λ (x : Bool). cond x 1 0)
    (get_or-drop q u 0 false ∙ ap (λ (j : ℕ). get_or u j false) here)))))

-- ---- the last sixteen bits

-- what they show after a bit
pub record Looks (h : ℕ) (b : List Bool) (bit : Bool) : Type 0 where
  pub newest : h ≡ cond bit 1 0 * 32768 + h % 32768
  pub six : h / 256 % 128 ≡ 126 → ones_at_end b ≡ 6
  pub is_six : ones_at_end b ≡ 6 → h / 256 % 128 ≡ 126
  pub fourteen : h % 32768 ≡ 32766 → ones_at_end b ≡ 14
  pub is_fourteen : ones_at_end b ≡ 14 → h % 32768 ≡ 32766

pub looks : (h : ℕ) (b : List Bool) (bit : Bool) → h ≡ number (drop (length (b ++ bit ∷ [])) (padded (b ++ bit ∷ []))) →
    Looks h b bit
looks h b bit last =
    let w = number (drop (length b) (padded (b ++ bit ∷ []))) in
    let old = number (drop (length b) (padded b)) in
    let size : length (b ++ bit ∷ []) ≡ length b + 1 = length-append b (bit ∷ []) in
    let below = last-below b in
    let new : number (bit ∷ []) ≡ cond bit 1 0 = omega (arith, number-cons bit [], none_number) in
    let one = bit-below bit in
    let made : old + number (bit ∷ []) * 65536 ≡ w = word-made old (number (bit ∷ [])) b (bit ∷ []) refl refl in
    let half : w / 2 ≡ h = word-part w 1 b (bit ∷ []) refl
    ∙ (ap (λ (j : ℕ). number (drop j (padded (b ++ bit ∷ [])))) (sym size) ∙ sym last) in
    let none : ones_at_end (b ++ take 0 (bit ∷ [])) ≡ ones_at_end b = ap ones_at_end (append-nil b) in
    let six = word-just 6 9 w 0 b (bit ∷ []) refl refl (omega arith) in
    let fourteen = word-just 14 1 w 0 b (bit ∷ []) refl refl (omega arith) in
    let top : h / 32768 ≡ cond bit 1 0 = omega (arith, half, made, new, below, one) in
    record {
      newest = omega (arith, top);
      six = λ shown. sym none ∙ six.0 (omega (arith, half, shown));
      is_six = λ run. omega (arith, half, six.1 (none ∙ run));
      fourteen = λ shown. sym none ∙ fourteen.0 (omega (arith, half, shown));
      is_fourteen = λ run. omega (arith, half, fourteen.1 (none ∙ run));
    }

-- five ones before the last eight bits
pub last-bits-five : (h : ℕ) (b : List Bool) (bit : Bool) → 7 ≤ length b →
    h ≡ number (drop (length (b ++ bit ∷ [])) (padded (b ++ bit ∷ [])))
    → (h / 8 % 32 ≡ 31 → 5 ≤ ones_at_end (take (length b - 7) b))
    × (5 ≤ ones_at_end (take (length b - 7) b) → h / 8 % 32 ≡ 31)
last-bits-five h b bit far last =
    let c = b ++ bit ∷ [] in
    let m = length c + 3 in
    let size : length (b ++ bit ∷ []) ≡ length b + 1 = length-append b (bit ∷ []) in
    let least = run-least 5 m (padded c) (omega (arith, padded-length c, size, far)) in
    let end : m + 5 ≡ 16 + (length b - 7) = omega (arith, size, far) in
    let run : ones_at_end (take (m + 5) (padded c)) ≡ ones_at_end (take (length b - 7) b) =
    ap (λ (j : ℕ). ones_at_end (take j (padded c))) end
    ∙ (ap ones_at_end (padded-take (length b - 7) c)
    ∙ ap ones_at_end (take-append-le (length b - 7) b (bit ∷ []) (omega arith))) in
    let field : h / 8 ≡ number (drop m (padded c)) = ap (λ (x : ℕ). x / 8) last
    ∙ (number-drop 3 (drop (length c) (padded c)) ∙ ap number (drop-drop 3 (length c) (padded c))) in (
      (λ shown. omega (arith, run, least.0 (omega (arith, field, shown)))),
      λ five. omega (arith, field, least.1 (omega (arith, run, five))),
    )
