use Rattle.std.proofs.Common.{◌≡◌, ◌≢◌, ℕ, ◌<◌, List, [], ◌∷◌, length, get_or, Option, Some, None, MatchOption, true, false, cond, eqb, refl, ap, sym, ◌∙◌, arith, lit<}
use Rattle.std.specs.List.{filter, All}
use Rattle.std.proofs.lemmas.Bool.Decides.{nat_tests}
use Rattle.std.proofs.lemmas.List.{length-append}
use Rattle.std.proofs.lemmas.List.Elements.{All-from_get_or}
use Rattle.std.proofs.lemmas.List.Splits.{slice_split_none, slice_split_at}
use Rattle.std.proofs.lemmas.Str.Pattern.{IsSplitOnceResult, split_parts}
use denote.Ref.{Bor}
use Rattle.wasi_fs_paths.specs.Components.{parts, counts, components, IsNext}

no_slash : (path : List ℕ) → ((i : ℕ) → i < length path → get_or path i 0 ≢ 47) → All (λ b. eqb b 47 ≡ false) path
no_slash path h = All-from_get_or (λ b. eqb b 47 ≡ false) path 0 (λ i l. let n = h i l in grind (arith, nat_tests))

-- what a search for the first slash says of the parts
pub first_part : (path : List ℕ) (r : Option (Bor (List ℕ) × Bor (List ℕ))) → IsSplitOnceResult 47 path r
    → MatchOption r (parts path ≡ path ∷ []) (λ x. (parts path ≡ x.0.now ∷ parts x.1.now) × (length x.1.now < length path))
first_part path None h = slice_split_none (λ b. eqb b 47) path (no_slash path (split_parts 47 path None h (lit< tt)))
first_part path (Some x) h =
    let s = split_parts 47 path (Some x) h (lit< tt) in (
      ap parts s.0 ∙ slice_split_at (λ b. eqb b 47) x.0.now 47 x.1.now (no_slash x.0.now s.1) refl,
      omega (arith, ap length s.0, length-append x.0.now (47 ∷ x.1.now)),
    )

pub next_here : (path part after : List ℕ) → parts path ≡ part ∷ parts after → true ≡ counts part → components path ≡ part ∷ components after
unfolding components
next_here path part after h t = ap (filter counts) h ∙ ap (λ b. cond b (part ∷ filter counts (parts after)) (filter counts (parts after))) (sym t)

pub next_skip : (path part after : List ℕ) → parts path ≡ part ∷ parts after → false ≡ counts part → components path ≡ components after
unfolding components
next_skip path part after h t = ap (filter counts) h ∙ ap (λ b. cond b (part ∷ filter counts (parts after)) (filter counts (parts after))) (sym t)

pub next_last : (path : List ℕ) → parts path ≡ path ∷ [] → true ≡ counts path → IsNext path path []
unfolding components
next_last [] h t = cc
next_last (b ∷ bs) h t = record { is = ap (filter counts) h ∙ ap (λ c. cond c ((b ∷ bs) ∷ []) []) (sym t); less = omega arith }

pub next_none : (path : List ℕ) → parts path ≡ path ∷ [] → false ≡ counts path → components path ≡ []
unfolding components
next_none path h t = ap (filter counts) h ∙ ap (λ b. cond b (path ∷ []) []) (sym t)
