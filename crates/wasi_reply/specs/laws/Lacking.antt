-- Texts that lack a byte, and where they end before it.
use Rattle.std.proofs.Common.{◌≡◌, ◌≢◌, ℕ, zero, suc, ◌+◌, ◌/◌, ◌%◌, ◌<◌, Bool, true, false, cond, List, [], ◌∷◌, ◌++◌, refl, ap, arith, ◌∙◌, eq-eqb, ne_eqb}
use Rattle.std.specs.Prelude.{nat_eq, nat_lt}
use Rattle.std.specs.List.{AllByRecursion, slice_split, onto_first}
use Rattle.std.specs.Fmt.{decimal, digits, digits_onto, digit_glyph}
use Rattle.std.proofs.lemmas.Bool.Decides.{nat_tests}
use Rattle.std.proofs.lemmas.List.Splits.{slice_split-cons_no}

-- the byte is not among these
abbrev pub Lacks : ℕ → List ℕ → Type 0
Lacks byte text = AllByRecursion (λ other. other ≢ byte) text

abbrev pub has : ℕ → List ℕ → Bool
has byte [] = false
has byte (other ∷ text) = cond (nat_eq other byte) true (has byte text)

by_byte : (byte other : ℕ) (text : List ℕ) (same : Bool) → nat_eq other byte ≡ same → cond same true (has byte text) ≡ false → (has byte text ≡ false → Lacks byte text) → (other ≢ byte) × Lacks byte text
by_byte byte other text true is e rest = absurd (cc)
by_byte byte other text false is e rest = (grind (arith, nat_tests), rest e)

-- of a text that is known, this computes
pub lacking : (byte : ℕ) (text : List ℕ) → has byte text ≡ false → Lacks byte text
lacking byte [] e = tt
lacking byte (other ∷ text) e = by_byte byte other text (nat_eq other byte) refl e (lacking byte text)

pub lacks-append : (byte : ℕ) (a b : List ℕ) → Lacks byte a → Lacks byte b → Lacks byte (a ++ b)
lacks-append byte [] b none h = h
lacks-append byte (x ∷ a) b h k = (h.0, lacks-append byte a b h.1 k)

-- digits lack each byte below them
glyph : (byte d : ℕ) → byte < 48 → digit_glyph false d ≢ byte
glyph byte d below = elim (nat_lt d 10) as (λ small. cond small (48 + d) (87 + d) ≢ byte) [ true ↦ omega arith | false ↦ omega arith ]

lacks-digits : (byte k n : ℕ) (after : List ℕ) → byte < 48 → Lacks byte after → Lacks byte (digits_onto k 10 false n after)
lacks-digits byte zero n after below h = h
lacks-digits byte (suc k) n after below h = elim (nat_eq (n / 10) 0) as (λ last. Lacks byte (cond last (digit_glyph false (n % 10) ∷ after) (digits_onto k 10 false (n / 10) (digit_glyph false (n % 10) ∷ after)))) [
  | true ↦ (glyph byte (n % 10) below, h)
  | false ↦ lacks-digits byte k (n / 10) (digit_glyph false (n % 10) ∷ after) below (glyph byte (n % 10) below, h)
]

pub lacks-decimal : (byte n : ℕ) → byte < 48 → Lacks byte (decimal n)
unfolding digits
lacks-decimal byte n below = lacks-digits byte 64 n [] below tt

-- nothing, or a text that begins with this byte
abbrev pub BeginsIfAny : ℕ → List ℕ → Type 0
BeginsIfAny byte [] = Unit {0}
BeginsIfAny byte (other ∷ text) = other ≡ byte

-- texts that lack a byte, before it or before the end, are told apart from what follows
pub same_parts : (byte : ℕ) (a b x y : List ℕ) → Lacks byte a → Lacks byte b → BeginsIfAny byte x → BeginsIfAny byte y → a ++ x ≡ b ++ y → (a ≡ b) × (x ≡ y)
same_parts byte [] [] x y lacks_a lacks_b begins_x begins_y e = (refl, e)
same_parts byte [] (b0 ∷ b) [] y lacks_a lacks_b begins_x begins_y e = absurd (cc)
same_parts byte [] (b0 ∷ b) (x0 ∷ x) y lacks_a lacks_b begins_x begins_y e = absurd (lacks_b.0 (cc))
same_parts byte (a0 ∷ a) [] x [] lacks_a lacks_b begins_x begins_y e = absurd (cc)
same_parts byte (a0 ∷ a) [] x (y0 ∷ y) lacks_a lacks_b begins_x begins_y e = absurd (lacks_a.0 (cc))
same_parts byte (a0 ∷ a) (b0 ∷ b) x y lacks_a lacks_b begins_x begins_y e =
    let first : a0 ≡ b0 = cc in
    let rest : a ++ x ≡ b ++ y = cc in
    let parts = same_parts byte a b x y lacks_a.1 lacks_b.1 begins_x begins_y rest in
    let front : a ≡ b = parts.0 in
    (cc, parts.1)

-- a text that lacks the byte, the byte, and then what comes after it
pub slice_split-append : (byte : ℕ) (text rest : List ℕ) → Lacks byte text → slice_split (λ other. nat_eq other byte) (text ++ byte ∷ rest) ≡ text ∷ slice_split (λ other. nat_eq other byte) rest
slice_split-append byte [] rest h = rw (eq-eqb byte byte refl) refl
slice_split-append byte (x ∷ text) rest h = slice_split-cons_no (λ other. nat_eq other byte) x (text ++ byte ∷ rest) (ne_eqb x byte h.0) ∙ ap (onto_first x) (slice_split-append byte text rest h.1)
