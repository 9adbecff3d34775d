use Rattle.std.proofs.lemmas.Bool.Decides.{nat_tests}
use Rattle.std.proofs.Common.{Option, IfSome, ◌≡◌, ℕ, zero, suc, ◌<◌, List, [], ◌∷◌, length, get_or, Some, None, Bool, true, false, cond, refl, sym, arith}
use Rattle.std.specs.Prelude.{IsSome, slice_get}
use Rattle.std.specs.Ordering.{nat_cmp}
use Rattle.std.specs.BTreeMap.{is_at}
use Rattle.std.specs.Cmp.Lexicographic.{slice_cmp}
use Rattle.wasi_fs_nodes.specs.Names.{entry_of}
use Rattle.wasi_fs_nodes.specs.Nodes.{entry_at, names_in, names_for, links_of}
use Rattle.wasi_fs_nodes.specs.Shape.{NamesNodes}
use Rattle.wasi_fs_nodes.specs.Stats.{stat_of, stat_at}
use Rattle.wasi_fs_nodes.specs.declared.node.Node.{Node}

-- WHAT AN ENTRY NAMES HAS LINKS

pub some_names : (m : ℕ) (names : List (List ℕ × ℕ)) (name : List ℕ) → entry_of names name ≡ Some m → 0 < names_for m names
some_names m [] name h = cc
some_names m (e ∷ names) name h =
    let P : Bool → Type 0 = λ b. cond b (Some e.1) (entry_of names name) ≡ Some m → 0 < names_for m (e ∷ names) in
    elim (is_at (slice_cmp nat_cmp name) e.0) as P [
      | true ↦ λ k. let q : e.1 ≡ m = cc in rw q (grind (arith, nat_tests))
      | false ↦ λ k. omega (arith, some_names m names name k)
    ] h

pub some_links : (nodes : List Node) (dir : ℕ) (name : List ℕ) (n : ℕ) → entry_at nodes dir name ≡ Some n → 0 < links_of nodes n
unfolding links_of
some_links [] dir name n h = cc
some_links (x ∷ nodes) zero name n h = omega (arith, some_names n (names_in x.body) name h)
some_links (x ∷ nodes) (suc dir) name n h = omega (arith, some_links nodes dir name n h)

pub within : (xs : List ℕ) (n : ℕ) → 0 < get_or xs n 0 → n < length xs
within [] n h = absurd (omega arith)
within (x ∷ xs) zero h = omega arith
within (x ∷ xs) (suc n) h = omega (arith, within xs n h)

pub made_entry : (nodes : List Node) (dir : ℕ) (name : List ℕ) (o : Option ℕ) → NamesNodes nodes → o ≡ entry_at nodes dir name → IfSome o (λ n. n < length nodes)
made_entry nodes dir name None named h = tt
made_entry nodes dir name (Some n) named h = named dir name n (sym h)

-- A NODE THAT WAS MADE IS TOLD
some_told : (all : List Node) (k : ℕ) (nodes : List Node) (n : ℕ) → n < length nodes → IsSome (stat_of all k (slice_get nodes n))
some_told all k [] n l = absurd (omega arith)
some_told all k (x ∷ nodes) zero l = refl
some_told all k (x ∷ nodes) (suc n) l = some_told all k nodes n (omega arith)

pub made_told : (nodes : List Node) (n : ℕ) → n < length nodes → IsSome (stat_at nodes n)
made_told nodes n l = some_told nodes n nodes n l
