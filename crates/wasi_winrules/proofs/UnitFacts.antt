-- Units made of bytes.
use Rattle.std.proofs.Common.{◌≡◌, ◌≢◌, ℕ, ◌+◌, ◌*◌, ◌<◌, ◌≤◌, true, false, List, [], ◌∷◌, ◌++◌, length, take, drop, sym, ◌∙◌, ap, refl, inl, inr, arith, lit<}
use Rattle.std.proofs.lemmas.Bool.{cases_Bool, cond-true, cond-false}
use Rattle.std.proofs.lemmas.Bool.Decides.{Decides-eqb}
use Rattle.std.proofs.lemmas.Slice.Eq.{starts_is}
use Rattle.std.specs.Int.{w16, from_le_bytes}
use Rattle.std.specs.List.{starts_with}
use Rattle.std.specs.Prelude.{nat_eq}
use Rattle.wasi_winrules.specs.Reparse.{units_in, nt_prefix, shown}

pub units_in_pair : (xs : List ℕ) → 2 ≤ length xs → units_in xs ≡ from_le_bytes w16 (take 2 xs) ∷ units_in (drop 2 xs)
units_in_pair [] h = absurd (omega arith)
units_in_pair (x ∷ []) h = absurd (omega arith)
units_in_pair (low ∷ high ∷ xs) h = refl

pub units_in_none : (xs : List ℕ) → length xs < 2 → units_in xs ≡ []
units_in_none [] h = refl
units_in_none (x ∷ []) h = refl
units_in_none (low ∷ high ∷ xs) h = absurd (omega arith)

abbrev pub nt_bytes : List ℕ
nt_bytes = 92 ∷ 0 ∷ 63 ∷ 0 ∷ 63 ∷ 0 ∷ 92 ∷ 0 ∷ []

-- a unit of one byte comes of that byte and 0
small_unit : (bytes : List ℕ) (unit : ℕ) (rest : List ℕ) → units_in bytes ≡ unit ∷ rest → unit < 256 → (more : List ℕ) × (bytes ≡ unit ∷ 0 ∷ more) × (units_in more ≡ rest)
small_unit [] unit rest e small = cc
small_unit (x ∷ []) unit rest e small = cc
small_unit (low ∷ high ∷ more) unit rest e small =
    let same : low + high * 256 ≡ unit = cc in
    let rests : units_in more ≡ rest = cc in
    let none : high ≡ 0 = omega (arith, same) in
    let one : low ≡ unit = omega (arith, same, none) in
    (more, ap (λ h. low ∷ h ∷ more) none ∙ ap (λ l. l ∷ 0 ∷ more) one, rests)

prefix_bytes : (bytes rest : List ℕ) → units_in bytes ≡ nt_prefix ++ rest → (more : List ℕ) × (bytes ≡ nt_bytes ++ more)
prefix_bytes bytes rest e =
    let a = small_unit bytes 92 (63 ∷ 63 ∷ 92 ∷ rest) e (lit< tt) in
    let b = small_unit a.0 63 (63 ∷ 92 ∷ rest) a.2 (lit< tt) in
    let c = small_unit b.0 63 (92 ∷ rest) b.2 (lit< tt) in
    let d = small_unit c.0 92 rest c.2 (lit< tt) in
    (d.0, a.1 ∙ ap (λ l. 92 ∷ 0 ∷ l) b.1 ∙ ap (λ l. 92 ∷ 0 ∷ 63 ∷ 0 ∷ l) c.1 ∙ ap (λ l. 92 ∷ 0 ∷ 63 ∷ 0 ∷ 63 ∷ 0 ∷ l) d.1)

-- the prefix is dropped as bytes or as units
pub shown_prefixed : (bytes rest : List ℕ) → bytes ≡ nt_bytes ++ rest → units_in rest ≡ shown false (units_in bytes)
shown_prefixed bytes rest e =
    let units : units_in bytes ≡ nt_prefix ++ units_in rest = ap units_in e in
    let starts : starts_with nat_eq (units_in bytes) nt_prefix ≡ true = (starts_is Decides-eqb (units_in bytes) nt_prefix _ refl).1 (units_in rest) units in
    sym (cond-true _ _ _ starts ∙ ap (drop 4) units)

pub shown_plain : (bytes : List ℕ) → ((rest : List ℕ) → bytes ≢ nt_bytes ++ rest) → units_in bytes ≡ shown false (units_in bytes)
shown_plain bytes plain =
    elim (cases_Bool (starts_with nat_eq (units_in bytes) nt_prefix)) [
      | inl e ↦ (let bytes_too = prefix_bytes bytes _ ((starts_is Decides-eqb (units_in bytes) nt_prefix _ refl).0 e) in absurd (plain bytes_too.0 bytes_too.1))
      | inr e ↦ sym (cond-false _ _ _ e)
    ]
