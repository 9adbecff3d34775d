-- What changes keep of the shape of the nodes.
use Rattle.std.proofs.Common.{◌≡◌, ℕ, zero, suc, List, [], ◌∷◌, ◌++◌, length, ◌⊎◌, inl, inr, Option, Some, None, refl, ap, sym, ◌∙◌}
use Rattle.wasi_clocks.specs.declared.datetimes.Datetime.{Datetime}
use Rattle.wasi_fs_nodes.specs.Nodes.{body_at, kind_of, kind_of_body, kind_at, parent_in, parent_of, parent_at}
use Rattle.wasi_fs_nodes.specs.Bodies.{with_body, body_with_name, body_with_other, body_with_parent, body_without_name, body_with_bytes, body_resized, with_parent, with_times}
use Rattle.wasi_fs_nodes.specs.Shape.{IsRooted}
use Rattle.wasi_fs_nodes.specs.declared.node.Node.{Node}
use Rattle.wasi_fs_nodes.specs.declared.node.Body.{Body}
use Rattle.wasi_fs_nodes.specs.declared.node.Body.TheVariants.{File, Directory, Link}
use Rattle.wasi_fs_nodes.specs.declared.node.Kind.{Kind}
use Rattle.wasi_fs_nodes.specs.declared.node.Kind.TheVariants as kinds

-- a change of a body that keeps its kind and its parent
pub record Keeps (f : Body → Body) : Type 0 where
  pub kind : (b : Body) → kind_of (f b) ≡ kind_of b
  pub parent : (b : Body) → parent_in (f b) ≡ parent_in b

pub keeps_name : (name : List ℕ) (node : ℕ) → Keeps (body_with_name name node)
keeps_name name node = record {
  kind = λ b. elim b as (λ b. kind_of (body_with_name name node b) ≡ kind_of b) [ File x ↦ refl | Directory p x ↦ refl | Link x ↦ refl ];
  parent = λ b. elim b as (λ b. parent_in (body_with_name name node b) ≡ parent_in b) [ File x ↦ refl | Directory p x ↦ refl | Link x ↦ refl ];
}

pub keeps_other : (name : List ℕ) (node : ℕ) → Keeps (body_with_other name node)
keeps_other name node = record {
  kind = λ b. elim b as (λ b. kind_of (body_with_other name node b) ≡ kind_of b) [ File x ↦ refl | Directory p x ↦ refl | Link x ↦ refl ];
  parent = λ b. elim b as (λ b. parent_in (body_with_other name node b) ≡ parent_in b) [ File x ↦ refl | Directory p x ↦ refl | Link x ↦ refl ];
}

pub keeps_taken : (name : List ℕ) → Keeps (body_without_name name)
keeps_taken name = record {
  kind = λ b. elim b as (λ b. kind_of (body_without_name name b) ≡ kind_of b) [ File x ↦ refl | Directory p x ↦ refl | Link x ↦ refl ];
  parent = λ b. elim b as (λ b. parent_in (body_without_name name b) ≡ parent_in b) [ File x ↦ refl | Directory p x ↦ refl | Link x ↦ refl ];
}

pub keeps_bytes : (now : List ℕ) → Keeps (body_with_bytes now)
keeps_bytes now = record {
  kind = λ b. elim b as (λ b. kind_of (body_with_bytes now b) ≡ kind_of b) [ File x ↦ refl | Directory p x ↦ refl | Link x ↦ refl ];
  parent = λ b. elim b as (λ b. parent_in (body_with_bytes now b) ≡ parent_in b) [ File x ↦ refl | Directory p x ↦ refl | Link x ↦ refl ];
}

pub keeps_resized : (size : ℕ) → Keeps (body_resized size)
keeps_resized size = record {
  kind = λ b. elim b as (λ b. kind_of (body_resized size b) ≡ kind_of b) [ File x ↦ refl | Directory p x ↦ refl | Link x ↦ refl ];
  parent = λ b. elim b as (λ b. parent_in (body_resized size b) ≡ parent_in b) [ File x ↦ refl | Directory p x ↦ refl | Link x ↦ refl ];
}

pub kind_at-with_body : (f : Body → Body) → ((b : Body) → kind_of (f b) ≡ kind_of b) → (nodes : List Node) (i n : ℕ) → kind_at (with_body f nodes i) n ≡ kind_at nodes n
kind_at-with_body f k [] i n = refl
kind_at-with_body f k (x ∷ nodes) zero zero = ap Some (k x.body)
kind_at-with_body f k (x ∷ nodes) zero (suc n) = refl
kind_at-with_body f k (x ∷ nodes) (suc i) zero = refl
kind_at-with_body f k (x ∷ nodes) (suc i) (suc n) = kind_at-with_body f k nodes i n

pub parent_at-with_body : (f : Body → Body) → Keeps f → (nodes : List Node) (i n : ℕ) → parent_at (with_body f nodes i) n ≡ parent_at nodes n
parent_at-with_body f k [] i n = refl
parent_at-with_body f k (x ∷ nodes) zero zero = k.parent x.body
parent_at-with_body f k (x ∷ nodes) zero (suc n) = refl
parent_at-with_body f k (x ∷ nodes) (suc i) zero = refl
parent_at-with_body f k (x ∷ nodes) (suc i) (suc n) = parent_at-with_body f k nodes i n

pub length-with_body : (f : Body → Body) (nodes : List Node) (i : ℕ) → length (with_body f nodes i) ≡ length nodes
length-with_body f [] i = refl
length-with_body f (x ∷ nodes) zero = refl
length-with_body f (x ∷ nodes) (suc i) = ap suc (length-with_body f nodes i)

pub rooted-with_body : (f : Body → Body) → Keeps f → (nodes : List Node) (i : ℕ) → IsRooted nodes → IsRooted (with_body f nodes i)
rooted-with_body f k nodes i t = record {
  root = kind_at-with_body f k.kind nodes i 0 ∙ t.root;
  parents = λ n h. kind_at-with_body f k.kind nodes i (parent_at (with_body f nodes i) n)
      ∙ ap (kind_at nodes) (parent_at-with_body f k nodes i n)
      ∙ t.parents n (sym (kind_at-with_body f k.kind nodes i n) ∙ h);
}

body_at_push : (nodes : List Node) (y : Node) (n : ℕ) → (body_at (nodes ++ y ∷ []) n ≡ body_at nodes n) ⊎ ((body_at (nodes ++ y ∷ []) n ≡ Some y.body) × (body_at nodes n ≡ None))
body_at_push [] y zero = inr (refl, refl)
body_at_push [] y (suc n) = inl refl
body_at_push (x ∷ nodes) y zero = inl refl
body_at_push (x ∷ nodes) y (suc n) = body_at_push nodes y n

pub kind_push : (nodes : List Node) (y : Node) (n : ℕ) (k : Kind) → kind_at nodes n ≡ Some k → kind_at (nodes ++ y ∷ []) n ≡ Some k
kind_push nodes y n k h = elim (body_at_push nodes y n) [
  | inl e ↦ ap kind_of_body e ∙ h
  | inr p ↦ absurd (nothing k (sym (ap kind_of_body p.1) ∙ h))
]
  where
    nothing : (k : Kind) → ◌≡◌ {A = Option Kind} None (Some k) → ⊥
    nothing k e = cc

pub rooted-push : (nodes : List Node) (y : Node) → IsRooted nodes → (kind_of y.body ≡ kinds.Directory → kind_at nodes (parent_in y.body) ≡ Some kinds.Directory) → IsRooted (nodes ++ y ∷ [])
rooted-push nodes y t s = record {
  root = kind_push nodes y 0 kinds.Directory t.root;
  parents = λ n h. elim (body_at_push nodes y n) [
    | inl e ↦ ap (λ b. kind_at (nodes ++ y ∷ []) (parent_of b)) e ∙ kind_push nodes y (parent_at nodes n) kinds.Directory (t.parents n (sym (ap kind_of_body e) ∙ h))
    | inr p ↦ ap (λ b. kind_at (nodes ++ y ∷ []) (parent_of b)) p.0 ∙ kind_push nodes y (parent_in y.body) kinds.Directory (s (unsome (kind_of y.body) (sym (ap kind_of_body p.0) ∙ h)))
  ];
}
  where
    unsome : (k : Kind) → Some k ≡ Some kinds.Directory → k ≡ kinds.Directory
    unsome k e = cc

pub parent_kind : (dir : ℕ) (b : Body) → kind_of (body_with_parent dir b) ≡ kind_of b
parent_kind dir b = elim b as (λ b. kind_of (body_with_parent dir b) ≡ kind_of b) [ File x ↦ refl | Directory p x ↦ refl | Link x ↦ refl ]

-- the parent of a directory is the one before, or the new one
parent_either : (dir : ℕ) (nodes : List Node) (i n : ℕ) → (parent_at (with_parent nodes i dir) n ≡ parent_at nodes n) ⊎ (parent_at (with_parent nodes i dir) n ≡ dir)
parent_either dir [] i n = inl refl
parent_either dir (x ∷ nodes) zero zero = elim x.body as (λ b. (parent_in (body_with_parent dir b) ≡ parent_in b) ⊎ (parent_in (body_with_parent dir b) ≡ dir)) [ File x ↦ inl refl | Directory p x ↦ inr refl | Link x ↦ inl refl ]
parent_either dir (x ∷ nodes) zero (suc n) = inl refl
parent_either dir (x ∷ nodes) (suc i) zero = inl refl
parent_either dir (x ∷ nodes) (suc i) (suc n) = parent_either dir nodes i n

pub rooted-with_parent : (nodes : List Node) (i dir : ℕ) → kind_at nodes dir ≡ Some kinds.Directory → IsRooted nodes → IsRooted (with_parent nodes i dir)
rooted-with_parent nodes i dir d t =
    let same : (n : ℕ) → kind_at (with_parent nodes i dir) n ≡ kind_at nodes n = kind_at-with_body (body_with_parent dir) (parent_kind dir) nodes i in
    record {
      root = same 0 ∙ t.root;
      parents = λ n h. elim (parent_either dir nodes i n) [
        | inl e ↦ same (parent_at (with_parent nodes i dir) n) ∙ ap (kind_at nodes) e ∙ t.parents n (sym (same n) ∙ h)
        | inr e ↦ same (parent_at (with_parent nodes i dir) n) ∙ ap (kind_at nodes) e ∙ d
      ];
    }

pub body_at-with_times : (nodes : List Node) (i n : ℕ) (a m : Option Datetime) → body_at (with_times nodes i a m) n ≡ body_at nodes n
body_at-with_times [] i n a m = refl
body_at-with_times (x ∷ nodes) zero zero a m = refl
body_at-with_times (x ∷ nodes) zero (suc n) a m = refl
body_at-with_times (x ∷ nodes) (suc i) zero a m = refl
body_at-with_times (x ∷ nodes) (suc i) (suc n) a m = body_at-with_times nodes i n a m

pub kind_at-with_times : (nodes : List Node) (i n : ℕ) (a m : Option Datetime) → kind_at (with_times nodes i a m) n ≡ kind_at nodes n
kind_at-with_times nodes i n a m = ap kind_of_body (body_at-with_times nodes i n a m)

pub rooted-with_times : (nodes : List Node) (i : ℕ) (a m : Option Datetime) → IsRooted nodes → IsRooted (with_times nodes i a m)
rooted-with_times nodes i a m t =
    let same : (n : ℕ) → kind_at (with_times nodes i a m) n ≡ kind_at nodes n = λ n. ap kind_of_body (body_at-with_times nodes i n a m) in
    record {
      root = same 0 ∙ t.root;
      parents = λ n h. same (parent_at (with_times nodes i a m) n) ∙ ap (λ b. kind_at nodes (parent_of b)) (body_at-with_times nodes i n a m) ∙ t.parents n (sym (same n) ∙ h);
    }
