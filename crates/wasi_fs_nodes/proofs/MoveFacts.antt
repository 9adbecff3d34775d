-- A node that takes another place.
use Rattle.std.proofs.Common.{◌≡◌, ℕ, zero, suc, List, [], ◌∷◌, length, Option, Some, None, Bool, true, false, cond, refl, ◌∙◌}
use Rattle.std.specs.declared.cmp.Ordering.{Ordering}
use Rattle.std.specs.declared.cmp.Ordering.TheVariants.{Less, Equal, Greater}
use Rattle.std.specs.Ordering.{nat_cmp, match_ordering}
use Rattle.std.specs.BTreeMap.{is_at}
use Rattle.std.specs.Cmp.Lexicographic.{slice_cmp}
use Rattle.wasi_fs_nodes.specs.Names.{entry_of, with_entry, with_other}
use Rattle.wasi_fs_nodes.specs.Nodes.{entry_at, kind_at, names_in}
use Rattle.wasi_fs_nodes.specs.Bodies.{with_body, body_with_name, body_with_other, body_without_name, without_name}
use Rattle.wasi_fs_nodes.specs.Changes.{put_at}
use Rattle.wasi_fs_nodes.specs.declared.node.Node.{Node}
use Rattle.wasi_fs_nodes.specs.declared.node.Body.{Body}
use Rattle.wasi_fs_nodes.specs.declared.node.Body.TheVariants.{File, Directory, Link}
use Rattle.wasi_fs_nodes.proofs.ShapeFacts.{length-with_body, kind_at-with_body, keeps_name, keeps_other, keeps_taken}

kept_with_entry : (names : List (List ℕ × ℕ)) (q name : List ℕ) (node : ℕ) → entry_of names name ≡ Some node → entry_of (with_entry names q node) name ≡ Some node
kept_with_entry [] q name node h = cc
kept_with_entry (e ∷ names) q name node h =
    let t : Bool = is_at (slice_cmp nat_cmp name) e.0 in
    let P : Ordering → Type 0 = λ o. entry_of (match_ordering o ((q, node) ∷ e ∷ names) ((e.0, node) ∷ names) (e ∷ with_entry names q node)) name ≡ Some node in
    elim (slice_cmp nat_cmp q e.0) as P [
      | Less ↦ elim (is_at (slice_cmp nat_cmp name) q) as (λ b. cond b (Some node) (entry_of (e ∷ names) name) ≡ Some node) [ true ↦ refl | false ↦ h ]
      | Equal ↦ (let Q : Bool → Type 0 = λ b. cond b (Some e.1) (entry_of names name) ≡ Some node → cond b (Some node) (entry_of names name) ≡ Some node in elim t as Q [ true ↦ λ _. refl | false ↦ λ k. k ] h)
      | Greater ↦ (let Q : Bool → Type 0 = λ b. cond b (Some e.1) (entry_of names name) ≡ Some node → cond b (Some e.1) (entry_of (with_entry names q node) name) ≡ Some node in elim t as Q [ true ↦ λ k. k | false ↦ λ k. kept_with_entry names q name node k ] h)
    ]

kept_with_other : (names : List (List ℕ × ℕ)) (q name : List ℕ) (node : ℕ) → entry_of names name ≡ Some node → entry_of (with_other names q node) name ≡ Some node
kept_with_other [] q name node h = cc
kept_with_other (e ∷ names) q name node h =
    let t : Bool = is_at (slice_cmp nat_cmp name) e.0 in
    elim (is_at (slice_cmp nat_cmp q) e.0) as (λ o. entry_of (cond o ((e.0, node) ∷ names) (e ∷ with_other names q node)) name ≡ Some node) [
      | true ↦ (let Q : Bool → Type 0 = λ b. cond b (Some e.1) (entry_of names name) ≡ Some node → cond b (Some node) (entry_of names name) ≡ Some node in elim t as Q [ true ↦ λ _. refl | false ↦ λ k. k ] h)
      | false ↦ (let Q : Bool → Type 0 = λ b. cond b (Some e.1) (entry_of names name) ≡ Some node → cond b (Some e.1) (entry_of (with_other names q node) name) ≡ Some node in elim t as Q [ true ↦ λ k. k | false ↦ λ k. kept_with_other names q name node k ] h)
    ]

kept_with_body : (f : Body → Body) (name : List ℕ) (node : ℕ) → ((b : Body) → entry_of (names_in b) name ≡ Some node → entry_of (names_in (f b)) name ≡ Some node)
    → (nodes : List Node) (i d : ℕ) → entry_at nodes d name ≡ Some node → entry_at (with_body f nodes i) d name ≡ Some node
kept_with_body f name node k [] i d h = h
kept_with_body f name node k (x ∷ nodes) zero zero h = k x.body h
kept_with_body f name node k (x ∷ nodes) zero (suc d) h = h
kept_with_body f name node k (x ∷ nodes) (suc i) zero h = h
kept_with_body f name node k (x ∷ nodes) (suc i) (suc d) h = kept_with_body f name node k nodes i d h

-- a node that takes a place keeps its other names
pub kept_put_at : (nodes : List Node) (to : ℕ) (q : List ℕ) (node : ℕ) (target : Option ℕ) (d : ℕ) (name : List ℕ) → entry_at nodes d name ≡ Some node → entry_at (put_at nodes to q node target) d name ≡ Some node
kept_put_at nodes to q node None d name h =
    kept_with_body (body_with_name q node) name node (λ b. elim b as (λ b. entry_of (names_in b) name ≡ Some node → entry_of (names_in (body_with_name q node b)) name ≡ Some node) [ File x ↦ λ k. k | Directory p x ↦ λ k. kept_with_entry x q name node k | Link x ↦ λ k. k ]) nodes to d h
kept_put_at nodes to q node (Some before) d name h =
    kept_with_body (body_with_other q node) name node (λ b. elim b as (λ b. entry_of (names_in b) name ≡ Some node → entry_of (names_in (body_with_other q node b)) name ≡ Some node) [ File x ↦ λ k. k | Directory p x ↦ λ k. kept_with_other x q name node k | Link x ↦ λ k. k ]) nodes to d h

pub kind_at-moved : (nodes : List Node) (to : ℕ) (q : List ℕ) (node : ℕ) (target : Option ℕ) (d : ℕ) (name : List ℕ) (n : ℕ) → kind_at (without_name (put_at nodes to q node target) d name) n ≡ kind_at nodes n
kind_at-moved nodes to q node None d name n = kind_at-with_body (body_without_name name) (keeps_taken name).kind (put_at nodes to q node None) d n ∙ kind_at-with_body (body_with_name q node) (keeps_name q node).kind nodes to n
kind_at-moved nodes to q node (Some before) d name n = kind_at-with_body (body_without_name name) (keeps_taken name).kind (put_at nodes to q node (Some before)) d n ∙ kind_at-with_body (body_with_other q node) (keeps_other q node).kind nodes to n

pub length-moved : (nodes : List Node) (to : ℕ) (q : List ℕ) (node : ℕ) (target : Option ℕ) (d : ℕ) (name : List ℕ) → length (without_name (put_at nodes to q node target) d name) ≡ length nodes
length-moved nodes to q node None d name = length-with_body (body_without_name name) (put_at nodes to q node None) d ∙ length-with_body (body_with_name q node) nodes to
length-moved nodes to q node (Some before) d name = length-with_body (body_without_name name) (put_at nodes to q node (Some before)) d ∙ length-with_body (body_with_other q node) nodes to
