-- What changes do to the counts of links and to the sum of bytes.
use Rattle.std.proofs.Common.{◌≡◌, ℕ, zero, suc, ◌+◌, ◌-◌, ◌≤◌, List, [], ◌∷◌, ◌++◌, length, Option, Some, None, Bool, true, false, cond, eqb, refl, ap, arith}
use Rattle.std.proofs.lemmas.List.{length-append, length-take, length-drop, length-replicate}
use Rattle.std.specs.declared.cmp.Ordering.{Ordering}
use Rattle.std.specs.declared.cmp.Ordering.TheVariants.{Less, Equal, Greater}
use Rattle.std.specs.Ordering.{nat_cmp, match_ordering, is_eq}
use Rattle.std.specs.BTreeMap.{is_at}
use Rattle.std.specs.Cmp.Lexicographic.{slice_cmp}
use Rattle.wasi_clocks.specs.declared.datetimes.Datetime.{Datetime}
use Rattle.wasi_fs_nodes.specs.Content.{resized, written}
use Rattle.wasi_fs_nodes.specs.Names.{entry_of, with_entry, with_other, without_entry}
use Rattle.wasi_fs_nodes.specs.Nodes.{body_at, kind_of, kind_of_body, kind_at, names_in, names_of, entry_at, names_for, links_of, total_bytes, bytes_in, bytes_at}
use Rattle.wasi_fs_nodes.specs.Bodies.{with_body, body_with_name, body_with_other, body_without_name, with_name, with_target, without_name, body_with_bytes, body_resized, with_written, with_size, with_times}
use Rattle.wasi_fs_nodes.specs.declared.node.Node.{Node}
use Rattle.wasi_fs_nodes.specs.declared.node.Body.{Body}
use Rattle.wasi_fs_nodes.specs.declared.node.Body.TheVariants.{File, Directory, Link}
use Rattle.wasi_fs_nodes.specs.declared.node.Kind.TheVariants as kinds

-- BYTES

pub bytes_part : (nodes : List Node) (n : ℕ) → length (bytes_at nodes n) ≤ total_bytes nodes
unfolding total_bytes
bytes_part [] zero = omega arith
bytes_part [] (suc n) = omega arith
bytes_part (x ∷ nodes) zero = omega arith
bytes_part (x ∷ nodes) (suc n) = omega (arith, bytes_part nodes n)

pub total_bytes-push : (nodes : List Node) (y : Node) → total_bytes (nodes ++ y ∷ []) ≡ total_bytes nodes + length (bytes_in y.body)
unfolding total_bytes
total_bytes-push [] y = omega arith
total_bytes-push (x ∷ nodes) y = omega (arith, total_bytes-push nodes y)

pub total_bytes-kept : (f : Body → Body) → ((b : Body) → bytes_in (f b) ≡ bytes_in b) → (nodes : List Node) (i : ℕ) → total_bytes (with_body f nodes i) ≡ total_bytes nodes
unfolding total_bytes
total_bytes-kept f k [] i = refl
total_bytes-kept f k (x ∷ nodes) zero = ap (λ bs. length bs + total_bytes nodes) (k x.body)
total_bytes-kept f k (x ∷ nodes) (suc i) = ap (λ n. length (bytes_in x.body) + n) (total_bytes-kept f k nodes i)

-- the sum changes by what the one node changes
pub total_bytes-changed : (f : Body → Body) (nodes : List Node) (i : ℕ) → total_bytes (with_body f nodes i) + length (bytes_at nodes i) ≡ total_bytes nodes + length (bytes_at (with_body f nodes i) i)
unfolding total_bytes
total_bytes-changed f [] i = refl
total_bytes-changed f (x ∷ nodes) zero = omega arith
total_bytes-changed f (x ∷ nodes) (suc i) = omega (arith, total_bytes-changed f nodes i)

bytes_at-file : (f : Body → Body) (g : List ℕ → List ℕ) → ((bytes : List ℕ) → bytes_in (f (File bytes)) ≡ g bytes) → (nodes : List Node) (i : ℕ) → kind_at nodes i ≡ Some kinds.File
    → bytes_at (with_body f nodes i) i ≡ g (bytes_at nodes i)
bytes_at-file f g k [] zero h = cc
bytes_at-file f g k [] (suc i) h = cc
bytes_at-file f g k (x ∷ nodes) zero h =
    let P : Body → Type 0 = λ b. Some (kind_of b) ≡ Some kinds.File → bytes_in (f b) ≡ g (bytes_in b) in
    elim x.body as P [ File bytes ↦ λ _. k bytes | Directory p names ↦ λ e. cc | Link t ↦ λ e. cc ] h
bytes_at-file f g k (x ∷ nodes) (suc i) h = bytes_at-file f g k nodes i h

pub length-resized : (bytes : List ℕ) (size : ℕ) → length (resized bytes size) ≡ size
length-resized bytes size = omega (arith, length-append {A = ℕ}, length-take {A = ℕ}, length-replicate {A = ℕ})

pub length-written : (bytes : List ℕ) (place : ℕ) (more : List ℕ) → length (written bytes place more) ≡ length bytes + (place + length more - length bytes)
length-written bytes place more = omega (arith, length-resized bytes place, length-append {A = ℕ}, length-drop {A = ℕ})

pub written_sum : (nodes : List Node) (file place : ℕ) (more : List ℕ) → kind_at nodes file ≡ Some kinds.File
    → total_bytes (with_written nodes file place more) ≡ total_bytes nodes + (place + length more - length (bytes_at nodes file))
written_sum nodes file place more h =
    let now : List ℕ = written (bytes_at nodes file) place more in
    omega (
      arith,
      total_bytes-changed (body_with_bytes now) nodes file,
      ap length (bytes_at-file (body_with_bytes now) (λ bytes. now) (λ bytes. refl) nodes file h),
      length-written (bytes_at nodes file) place more,
    )

pub sized_sum : (nodes : List Node) (file size : ℕ) → kind_at nodes file ≡ Some kinds.File
    → total_bytes (with_size nodes file size) + length (bytes_at nodes file) ≡ total_bytes nodes + size
sized_sum nodes file size h =
    omega (
      arith,
      total_bytes-changed (body_resized size) nodes file,
      ap length (bytes_at-file (body_resized size) (λ bytes. resized bytes size) (λ bytes. refl) nodes file h),
      length-resized (bytes_at nodes file) size,
    )

-- LINKS

pub links_of-push : (m : ℕ) (nodes : List Node) (y : Node) → links_of (nodes ++ y ∷ []) m ≡ links_of nodes m + names_for m (names_in y.body)
unfolding links_of
links_of-push m [] y = omega arith
links_of-push m (x ∷ nodes) y = omega (arith, links_of-push m nodes y)

pub links_of-kept : (f : Body → Body) → ((b : Body) → names_in (f b) ≡ names_in b) → (m : ℕ) (nodes : List Node) (i : ℕ) → links_of (with_body f nodes i) m ≡ links_of nodes m
unfolding links_of
links_of-kept f k m [] i = refl
links_of-kept f k m (x ∷ nodes) zero = ap (λ ns. names_for m ns + links_of nodes m) (k x.body)
links_of-kept f k m (x ∷ nodes) (suc i) = ap (λ n. names_for m (names_in x.body) + n) (links_of-kept f k m nodes i)

-- the count of a node changes by what the names of one directory change
links_of-changed : (f : Body → Body) (m less more : ℕ) (nodes : List Node) (i : ℕ) (b : Body) → body_at nodes i ≡ Some b
    → names_for m (names_in (f b)) + less ≡ names_for m (names_in b) + more → links_of (with_body f nodes i) m + less ≡ links_of nodes m + more
unfolding links_of
links_of-changed f m less more [] zero b h e = cc
links_of-changed f m less more [] (suc i) b h e = cc
links_of-changed f m less more (x ∷ nodes) zero b h e =
    let k : x.body ≡ b = cc in
    let g : names_for m (names_in (f x.body)) + less ≡ names_for m (names_in x.body) + more = rw k e in omega arith
links_of-changed f m less more (x ∷ nodes) (suc i) b h e = omega (arith, links_of-changed f m less more nodes i b h e)

-- a name that is new counts once
names_for-with_entry : (m : ℕ) (names : List (List ℕ × ℕ)) (name : List ℕ) (node : ℕ) → entry_of names name ≡ None
    → names_for m (with_entry names name node) ≡ names_for m names + cond (eqb node m) 1 0
names_for-with_entry m [] name node h = omega arith
names_for-with_entry m (e ∷ names) name node h =
    let P : Ordering → Type 0 = λ o. cond (is_eq o) (Some e.1) (entry_of names name) ≡ None →
    names_for m (match_ordering o ((name, node) ∷ e ∷ names) ((e.0, node) ∷ names) (e ∷ with_entry names name node))
    ≡ names_for m (e ∷ names) + cond (eqb node m) 1 0 in
    elim (slice_cmp nat_cmp name e.0) as P [
      | Less ↦ λ _. omega arith
      | Equal ↦ λ k. cc
      | Greater ↦ λ k. omega (arith, names_for-with_entry m names name node k)
    ] h

pub names_for-without_entry : (m : ℕ) (names : List (List ℕ × ℕ)) (name : List ℕ) (n : ℕ) → entry_of names name ≡ Some n
    → names_for m (without_entry names name) + cond (eqb n m) 1 0 ≡ names_for m names
names_for-without_entry m [] name n h = cc
names_for-without_entry m (e ∷ names) name n h =
    let P : Bool → Type 0 = λ b. cond b (Some e.1) (entry_of names name) ≡ Some n →
    names_for m (cond b names (e ∷ without_entry names name)) + cond (eqb n m) 1 0 ≡ names_for m (e ∷ names) in
    elim (is_at (slice_cmp nat_cmp name) e.0) as P [
      | true ↦ λ k. let q : e.1 ≡ n = cc in rw (← q) (omega arith)
      | false ↦ λ k. omega (arith, names_for-without_entry m names name n k)
    ] h

names_for-with_other : (m : ℕ) (names : List (List ℕ × ℕ)) (name : List ℕ) (node before : ℕ) → entry_of names name ≡ Some before
    → names_for m (with_other names name node) + cond (eqb before m) 1 0 ≡ names_for m names + cond (eqb node m) 1 0
names_for-with_other m [] name node before h = cc
names_for-with_other m (e ∷ names) name node before h =
    let P : Bool → Type 0 = λ b. cond b (Some e.1) (entry_of names name) ≡ Some before →
    names_for m (cond b ((e.0, node) ∷ names) (e ∷ with_other names name node)) + cond (eqb before m) 1 0 ≡ names_for m (e ∷ names) + cond (eqb node m) 1 0 in
    elim (is_at (slice_cmp nat_cmp name) e.0) as P [
      | true ↦ λ k. let q : e.1 ≡ before = cc in rw (← q) (omega arith)
      | false ↦ λ k. omega (arith, names_for-with_other m names name node before k)
    ] h

pub links_of-with_name : (m : ℕ) (nodes : List Node) (dir : ℕ) (name : List ℕ) (node : ℕ)
    → kind_at nodes dir ≡ Some kinds.Directory → entry_at nodes dir name ≡ None
    → links_of (with_name nodes dir name node) m ≡ links_of nodes m + cond (eqb node m) 1 0
links_of-with_name m nodes dir name node d h =
    let f = body_with_name name node in
    let P : Option Body → Type 0 = λ o. body_at nodes dir ≡ o → kind_of_body o ≡ Some kinds.Directory → entry_of (names_of o) name ≡ None →
    links_of (with_name nodes dir name node) m ≡ links_of nodes m + cond (eqb node m) 1 0 in
    elim (body_at nodes dir) as P [
      | None ↦ λ _ k _. cc
      | Some b ↦ elim b as (λ b. P (Some b)) [
        | File bytes ↦ λ _ k _. cc
        | Directory parent names ↦ λ e _ k. omega (arith, links_of-changed f m 0 (cond (eqb node m) 1 0) nodes dir (Directory parent names) e (omega (arith, names_for-with_entry m names name node k)))
        | Link text ↦ λ _ k _. cc
      ]
    ] refl d h

pub links_of-without_name : (m : ℕ) (nodes : List Node) (dir : ℕ) (name : List ℕ) (n : ℕ) → entry_at nodes dir name ≡ Some n
    → links_of (without_name nodes dir name) m + cond (eqb n m) 1 0 ≡ links_of nodes m
links_of-without_name m nodes dir name n h =
    let f = body_without_name name in
    let P : Option Body → Type 0 = λ o. body_at nodes dir ≡ o → entry_of (names_of o) name ≡ Some n →
    links_of (without_name nodes dir name) m + cond (eqb n m) 1 0 ≡ links_of nodes m in
    elim (body_at nodes dir) as P [
      | None ↦ λ _ k. cc
      | Some b ↦ elim b as (λ b. P (Some b)) [
        | File bytes ↦ λ _ k. cc
        | Directory parent names ↦ λ e k. omega (arith, links_of-changed f m (cond (eqb n m) 1 0) 0 nodes dir (Directory parent names) e (omega (arith, names_for-without_entry m names name n k)))
        | Link text ↦ λ _ k. cc
      ]
    ] refl h

pub links_of-with_target : (m : ℕ) (nodes : List Node) (dir : ℕ) (name : List ℕ) (node before : ℕ) → entry_at nodes dir name ≡ Some before
    → links_of (with_target nodes dir name node) m + cond (eqb before m) 1 0 ≡ links_of nodes m + cond (eqb node m) 1 0
links_of-with_target m nodes dir name node before h =
    let f = body_with_other name node in
    let P : Option Body → Type 0 = λ o. body_at nodes dir ≡ o → entry_of (names_of o) name ≡ Some before →
    links_of (with_target nodes dir name node) m + cond (eqb before m) 1 0 ≡ links_of nodes m + cond (eqb node m) 1 0 in
    elim (body_at nodes dir) as P [
      | None ↦ λ _ k. cc
      | Some b ↦ elim b as (λ b. P (Some b)) [
        | File bytes ↦ λ _ k. cc
        | Directory parent names ↦ λ e k. links_of-changed f m _ _ nodes dir (Directory parent names) e (names_for-with_other m names name node before k)
        | Link text ↦ λ _ k. cc
      ]
    ] refl h

-- TIMES

pub total_bytes-with_times : (nodes : List Node) (i : ℕ) (a m : Option Datetime) → total_bytes (with_times nodes i a m) ≡ total_bytes nodes
unfolding total_bytes
total_bytes-with_times [] i a m = refl
total_bytes-with_times (x ∷ nodes) zero a m = refl
total_bytes-with_times (x ∷ nodes) (suc i) a m = ap (λ n. length (bytes_in x.body) + n) (total_bytes-with_times nodes i a m)

pub links_of-with_times : (k : ℕ) (nodes : List Node) (i : ℕ) (a m : Option Datetime) → links_of (with_times nodes i a m) k ≡ links_of nodes k
unfolding links_of
links_of-with_times k [] i a m = refl
links_of-with_times k (x ∷ nodes) zero a m = refl
links_of-with_times k (x ∷ nodes) (suc i) a m = ap (λ n. names_for k (names_in x.body) + n) (links_of-with_times k nodes i a m)
