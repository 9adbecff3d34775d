-- What a tree and one file in memory tell as stores is bound as each store's members are.
use Rattle.std.specs.Prelude.{⊤}
use Rattle.std.proofs.Common.{◌≡◌, ◌≢◌, ℕ, zero, suc, ◌+◌, ◌-◌, ◌≤◌, List, [], ◌∷◌, length, Some, Bool, true, false, cond, eqb, refl, ap, ◌∙◌, arith}
use Rattle.std.proofs.lemmas.Bool.{eqb-true, eqb-false}
use Rattle.wasi_fs_nodes.specs.Bodies.{with_body, body_with_bytes}
use Rattle.wasi_fs_nodes.specs.Nodes.{kind_of, kind_at, bytes_in, bytes_at, total_bytes}
use Rattle.wasi_fs_nodes.specs.declared.node.Node.{Node}
use Rattle.wasi_fs_nodes.specs.declared.node.Body.{Body}
use Rattle.wasi_fs_nodes.specs.declared.node.Body.TheVariants.{File, Directory, Link}
use Rattle.wasi_fs_nodes.specs.declared.node.Kind.TheVariants as kinds
use Rattle.wasi_fs.specs.MemStores.{OneFile, one_file_told, one_file_after_fault, one_file_with}
use Rattle.wasi_fs.specs.Stores.{Told, IsBound}
use Rattle.wasi_fs.specs.Trees.{TreeState, after_fault}
use Rattle.wasi_fs.specs.TreeStore.{tree_told, HasFile, bytes_of_file, with_file}

same_kind : (now : List ℕ) (b : Body) → kind_of (body_with_bytes now b) ≡ kind_of b
same_kind now b = elim b as (λ b. kind_of (body_with_bytes now b) ≡ kind_of b) [ File x ↦ refl | Directory p x ↦ refl | Link x ↦ refl ]

pub kinds_same : (now : List ℕ) (nodes : List Node) (file n : ℕ) → kind_at (with_body (body_with_bytes now) nodes file) n ≡ kind_at nodes n
kinds_same now [] file n = refl
kinds_same now (x ∷ nodes) zero zero = ap Some (same_kind now x.body)
kinds_same now (x ∷ nodes) zero (suc n) = refl
kinds_same now (x ∷ nodes) (suc file) zero = refl
kinds_same now (x ∷ nodes) (suc file) (suc n) = kinds_same now nodes file n

bytes_here : (now : List ℕ) (nodes : List Node) (file : ℕ) → kind_at nodes file ≡ Some kinds.File → bytes_at (with_body (body_with_bytes now) nodes file) file ≡ now
bytes_here now [] zero h = cc
bytes_here now [] (suc i) h = cc
bytes_here now (x ∷ nodes) zero h =
    let P : Body → Type 0 = λ b. Some (kind_of b) ≡ Some kinds.File → bytes_in (body_with_bytes now b) ≡ now in
    elim x.body as P [ File bytes ↦ λ _. refl | Directory p names ↦ λ e. cc | Link t ↦ λ e. cc ] h
bytes_here now (x ∷ nodes) (suc i) h = bytes_here now nodes i h

bytes_elsewhere : (g : Body → Body) (nodes : List Node) (f file : ℕ) → f ≢ file → bytes_at (with_body g nodes file) f ≡ bytes_at nodes f
bytes_elsewhere g [] f file h = refl
bytes_elsewhere g (x ∷ nodes) zero zero h = absurd (h refl)
bytes_elsewhere g (x ∷ nodes) zero (suc file) h = refl
bytes_elsewhere g (x ∷ nodes) (suc f) zero h = refl
bytes_elsewhere g (x ∷ nodes) (suc f) (suc file) h = bytes_elsewhere g nodes f file (λ e. h (ap suc e))

pub bytes_changed : (now : List ℕ) (nodes : List Node) (f file : ℕ) → kind_at nodes file ≡ Some kinds.File
    → bytes_at (with_body (body_with_bytes now) nodes file) f ≡ cond (eqb f file) now (bytes_at nodes f)
bytes_changed now nodes f file h = by (eqb f file) refl
  where
    by : (b : Bool) → eqb f file ≡ b → bytes_at (with_body (body_with_bytes now) nodes file) f ≡ cond b now (bytes_at nodes f)
    by true e = ap (bytes_at (with_body (body_with_bytes now) nodes file)) (eqb-true f file e) ∙ bytes_here now nodes file h
    by false e = bytes_elsewhere (body_with_bytes now) nodes f file (eqb-false f file e)

total_changed : (f : Body → Body) (nodes : List Node) (i : ℕ) → total_bytes (with_body f nodes i) + length (bytes_at nodes i) ≡ total_bytes nodes + length (bytes_at (with_body f nodes i) i)
unfolding total_bytes
total_changed f [] i = refl
total_changed f (x ∷ nodes) zero = omega arith
total_changed f (x ∷ nodes) (suc i) = omega (arith, total_changed f nodes i)

pub total_grown : (now : List ℕ) (nodes : List Node) (file : ℕ) → kind_at nodes file ≡ Some kinds.File → length (bytes_at nodes file) ≤ length now
    → total_bytes (with_body (body_with_bytes now) nodes file) ≡ total_bytes nodes + (length now - length (bytes_at nodes file))
total_grown now nodes file h l = omega (arith, total_changed (body_with_bytes now) nodes file, ap length (bytes_here now nodes file h))

abbrev pub told_of : TreeState → ℕ → Told
told_of old total = record { least = 0; limits = Some (record { file = 1048576; all = 67108864; total = total }); planned = old.planned; faults = old.faults }

pub tree_bound : IsBound tree_told HasFile bytes_of_file (λ number. number) after_fault with_file
tree_bound = record {
  one_file = λ tree f g e. ap (bytes_at tree.nodes) e;
  met_tells = λ tree. refl;
  met_leaves = λ tree f. refl;
  met_keeps = λ tree f h. h;
  with_tells = λ tree file now h l. ap (told_of tree) (total_grown now tree.nodes file h l);
  with_leaves = λ tree file now f h. bytes_changed now tree.nodes f file h;
  with_keeps = λ tree file now f h. kinds_same now tree.nodes file f ∙ h;
}

pub one_file_bound : IsBound one_file_told (λ (store : OneFile) (number : ℕ). ⊤) (λ store number. store.bytes) (λ number. 0) one_file_after_fault (λ store number now. one_file_with store now)
one_file_bound = record {
  one_file = λ store f g e. refl;
  met_tells = λ store. refl;
  met_leaves = λ store f. refl;
  met_keeps = λ store f h. h;
  with_tells = λ store file now h l. refl;
  with_leaves = λ store file now f h. refl;
  with_keeps = λ store file now f h. h;
}
