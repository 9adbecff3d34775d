-- What each change keeps of a sound tree.
use Rattle.std.proofs.Common.{◌≡◌, ◌≢◌, ℕ, zero, suc, ◌+◌, ◌<◌, ◌≤◌, List, [], ◌∷◌, length, Some, Bool, true, false, cond, eqb, refl, ap, sym, subst, ◌∙◌, arith}
use Rattle.std.proofs.lemmas.Bool.Decides.{nat_tests}
use Rattle.std.proofs.lemmas.Cmp.{nat_list_cmp_total, tied_itself}
use Rattle.std.proofs.lemmas.Map.{keys-set_value}
use Rattle.std.specs.Cmp.Lexicographic.{slice_cmp}
use Rattle.std.specs.BTreeMap.{is_at}
use Rattle.std.specs.List.{AllByRecursion}
use Rattle.std.specs.List.Sorted.{IsStrictlySortedBy}
use Rattle.std.specs.Map.{keys_of}
use Rattle.std.specs.Ordering.{nat_cmp, match_ordering, is_eq, ordering_reverse}
use Rattle.std.specs.declared.cmp.Ordering.{Ordering}
use Rattle.std.specs.declared.cmp.Ordering.TheVariants.{Less, Equal, Greater}
use Rattle.wasi_fs_nodes.specs.Names.{IsAscending, entry_of, with_entry, with_other, without_entry}
use Rattle.wasi_fs_nodes.specs.Nodes.{kind_of, kind_at, names_in, names_at, entry_at, names_for, links_of, parent_at}
use Rattle.wasi_fs_nodes.specs.Bodies.{with_body, body_with_name, body_with_other, body_without_name}
use Rattle.wasi_fs_nodes.specs.Shape.{IsSound}
use Rattle.wasi_fs_nodes.specs.declared.node.Node.{Node}
use Rattle.wasi_fs_nodes.specs.declared.node.Body.{Body}
use Rattle.wasi_fs_nodes.specs.declared.node.Body.TheVariants.{File, Directory, Link}
use Rattle.wasi_fs_nodes.specs.declared.node.Kind.TheVariants as kinds

abbrev Entries : Type 0
Entries = List (List ℕ × ℕ)

-- NAMES IN ORDER

flipped : (a b : List ℕ) → slice_cmp nat_cmp a b ≡ Greater → slice_cmp nat_cmp b a ≡ Less
flipped a b h = nat_list_cmp_total.antisymm b a ∙ ap ordering_reverse h

-- above another name, which is above each of them
above : (a b : List ℕ) (ks : List (List ℕ)) → slice_cmp nat_cmp a b ≡ Less → AllByRecursion (λ k. slice_cmp nat_cmp b k ≡ Less) ks → AllByRecursion (λ k. slice_cmp nat_cmp a k ≡ Less) ks
above a b [] h t = tt
above a b (k ∷ ks) h t = (nat_list_cmp_total.trans a b k h t.0, above a b ks h t.1)

above_entry : (a : List ℕ) (names : Entries) (name : List ℕ) (node : ℕ) → slice_cmp nat_cmp a name ≡ Less
    → AllByRecursion (λ k. slice_cmp nat_cmp a k ≡ Less) (keys_of names) → AllByRecursion (λ k. slice_cmp nat_cmp a k ≡ Less) (keys_of (with_entry names name node))
above_entry a [] name node h t = (h, tt)
above_entry a (e ∷ names) name node h t =
    elim (slice_cmp nat_cmp name e.0) as (λ o. AllByRecursion (λ k. slice_cmp nat_cmp a k ≡ Less) (keys_of (match_ordering o ((name, node) ∷ e ∷ names) ((e.0, node) ∷ names) (e ∷ with_entry names name node)))) [
      | Less ↦ (h, t)
      | Equal ↦ t
      | Greater ↦ (t.0, above_entry a names name node h t.1)
    ]

ascending-with_entry : (names : Entries) (name : List ℕ) (node : ℕ) → IsAscending (keys_of names) → IsAscending (keys_of (with_entry names name node))
unfolding IsStrictlySortedBy
ascending-with_entry [] name node h = (tt, tt)
ascending-with_entry (e ∷ names) name node h =
    let P : Ordering → Type 0 = λ o. slice_cmp nat_cmp name e.0 ≡ o → IsAscending (keys_of (match_ordering o ((name, node) ∷ e ∷ names) ((e.0, node) ∷ names) (e ∷ with_entry names name node))) in
    elim (slice_cmp nat_cmp name e.0) as P [
      | Less ↦ λ k. ((k, above name e.0 (keys_of names) k h.0), h)
      | Equal ↦ λ k. h
      | Greater ↦ λ k. (above_entry e.0 names name node (flipped name e.0 k) h.0, ascending-with_entry names name node h.1)
    ] refl

above_taken : (a : List ℕ) (names : Entries) (name : List ℕ) → AllByRecursion (λ k. slice_cmp nat_cmp a k ≡ Less) (keys_of names) → AllByRecursion (λ k. slice_cmp nat_cmp a k ≡ Less) (keys_of (without_entry names name))
above_taken a [] name t = tt
above_taken a (e ∷ names) name t =
    elim (is_at (slice_cmp nat_cmp name) e.0) as (λ b. AllByRecursion (λ k. slice_cmp nat_cmp a k ≡ Less) (keys_of (cond b names (e ∷ without_entry names name)))) [
      | true ↦ t.1
      | false ↦ (t.0, above_taken a names name t.1)
    ]

ascending-without_entry : (names : Entries) (name : List ℕ) → IsAscending (keys_of names) → IsAscending (keys_of (without_entry names name))
unfolding IsStrictlySortedBy
ascending-without_entry [] name h = tt
ascending-without_entry (e ∷ names) name h =
    elim (is_at (slice_cmp nat_cmp name) e.0) as (λ b. IsAscending (keys_of (cond b names (e ∷ without_entry names name)))) [
      | true ↦ h.1
      | false ↦ (above_taken e.0 names name h.0, ascending-without_entry names name h.1)
    ]

-- WHAT NAMES A NODE: each name that counts is found, where names ascend

found_above : (a : List ℕ) (names : Entries) (q : List ℕ) (n : ℕ) → AllByRecursion (λ k. slice_cmp nat_cmp a k ≡ Less) (keys_of names) → entry_of names q ≡ Some n → slice_cmp nat_cmp q a ≡ Greater
found_above a [] q n t h = cc
found_above a (e ∷ names) q n t h =
    let P : Ordering → Type 0 = λ o. slice_cmp nat_cmp q e.0 ≡ o → cond (is_eq o) (Some e.1) (entry_of names q) ≡ Some n → slice_cmp nat_cmp q a ≡ Greater in
    elim (slice_cmp nat_cmp q e.0) as P [
      | Less ↦ λ _ k. found_above a names q n t.1 k
      | Equal ↦ λ same _. nat_list_cmp_total.congr q e.0 a same ∙ nat_list_cmp_total.antisymm e.0 a ∙ ap ordering_reverse t.0
      | Greater ↦ λ _ k. found_above a names q n t.1 k
    ] refl h

pub named_once : (names : Entries) (n : ℕ) → IsAscending (keys_of names) → 0 < names_for n names → (q : List ℕ) × (entry_of names q ≡ Some n)
unfolding IsStrictlySortedBy
named_once [] n h l = absurd (omega arith)
named_once (e ∷ names) n h l =
    let P : Bool → Type 0 = λ b. eqb e.1 n ≡ b → (q : List ℕ) × (entry_of (e ∷ names) q ≡ Some n) in
    elim (eqb e.1 n) as P [
      | true ↦ λ k. let same : e.1 ≡ n = grind (arith, nat_tests) in (e.0, ap (λ o. cond (is_eq o) (Some e.1) (entry_of names e.0)) (tied_itself nat_list_cmp_total e.0) ∙ ap Some same)
      | false ↦ λ k.
          let less : 0 < names_for n names = grind (arith, nat_tests) in
          let later : (q : List ℕ) × (entry_of names q ≡ Some n) = named_once names n h.1 less in
          (later.0, ap (λ o. cond (is_eq o) (Some e.1) (entry_of names later.0)) (found_above e.0 names later.0 n h.0 later.1) ∙ later.1)
    ] refl

-- THE NAMES IN EACH DIRECTORY AFTER A CHANGE OF ONE

each_names : (P : Entries → Entries → Type 0) → ((names : Entries) → P names names) → (f : Body → Body) → ((b : Body) → P (names_in b) (names_in (f b))) → (nodes : List Node) (i d : ℕ)
    → P (names_at nodes d) (names_at (with_body f nodes i) d)
each_names P same f k [] i d = same (names_at [] d)
each_names P same f k (x ∷ nodes) zero zero = k x.body
each_names P same f k (x ∷ nodes) zero (suc d) = same (names_at nodes d)
each_names P same f k (x ∷ nodes) (suc i) zero = same (names_in x.body)
each_names P same f k (x ∷ nodes) (suc i) (suc d) = each_names P same f k nodes i d

pub names_at-other : (f : Body → Body) (nodes : List Node) (i d : ℕ) → i ≢ d → names_at (with_body f nodes i) d ≡ names_at nodes d
names_at-other f [] i d ne = refl
names_at-other f (x ∷ nodes) zero zero ne = absurd (ne refl)
names_at-other f (x ∷ nodes) zero (suc d) ne = refl
names_at-other f (x ∷ nodes) (suc i) zero ne = refl
names_at-other f (x ∷ nodes) (suc i) (suc d) ne = names_at-other f nodes i d (λ e. ne (ap suc e))

pub names_at-kept : (f : Body → Body) → ((b : Body) → names_in (f b) ≡ names_in b) → (nodes : List Node) (i d : ℕ) → names_at (with_body f nodes i) d ≡ names_at nodes d
names_at-kept f k nodes i d = each_names (λ old new. new ≡ old) (λ names. refl) f k nodes i d

Ordered : Entries → Entries → Type 0
Ordered old new = IsAscending (keys_of old) → IsAscending (keys_of new)

pub ordered-with_name : (name : List ℕ) (node : ℕ) (nodes : List Node) (i d : ℕ) → IsAscending (keys_of (names_at nodes d)) → IsAscending (keys_of (names_at (with_body (body_with_name name node) nodes i) d))
unfolding Ordered
ordered-with_name name node = each_names Ordered (λ names h. h) (body_with_name name node) (λ b. elim b as (λ b. Ordered (names_in b) (names_in (body_with_name name node b))) [
  | File x ↦ λ h. h
  | Directory p names ↦ ascending-with_entry names name node
  | Link x ↦ λ h. h
])

pub ordered-with_other : (name : List ℕ) (node : ℕ) (nodes : List Node) (i d : ℕ) → IsAscending (keys_of (names_at nodes d)) → IsAscending (keys_of (names_at (with_body (body_with_other name node) nodes i) d))
unfolding Ordered
ordered-with_other name node = each_names Ordered (λ names h. h) (body_with_other name node) (λ b. elim b as (λ b. Ordered (names_in b) (names_in (body_with_other name node b))) [
  | File x ↦ λ h. h
  | Directory p names ↦ λ h. subst IsAscending (sym (keys-set_value (is_at (slice_cmp nat_cmp name)) names node)) h
  | Link x ↦ λ h. h
])

pub ordered-without_name : (name : List ℕ) (nodes : List Node) (i d : ℕ) → IsAscending (keys_of (names_at nodes d)) → IsAscending (keys_of (names_at (with_body (body_without_name name) nodes i) d))
unfolding Ordered
ordered-without_name name = each_names Ordered (λ names h. h) (body_without_name name) (λ b. elim b as (λ b. Ordered (names_in b) (names_in (body_without_name name b))) [
  | File x ↦ λ h. h
  | Directory p names ↦ ascending-without_entry names name
  | Link x ↦ λ h. h
])

-- HOW MANY NAMES OF A DIRECTORY A NODE HAS AFTER A CHANGE

more-with_entry : (m : ℕ) (names : Entries) (name : List ℕ) (node : ℕ) → names_for m (with_entry names name node) ≤ names_for m names + cond (eqb node m) 1 0
more-with_entry m [] name node = omega arith
more-with_entry m (e ∷ names) name node =
    elim (slice_cmp nat_cmp name e.0) as (λ o. names_for m (match_ordering o ((name, node) ∷ e ∷ names) ((e.0, node) ∷ names) (e ∷ with_entry names name node)) ≤ names_for m (e ∷ names) + cond (eqb node m) 1 0) [
      | Less ↦ omega arith
      | Equal ↦ omega arith
      | Greater ↦ omega (arith, more-with_entry m names name node)
    ]

more-with_other : (m : ℕ) (names : Entries) (name : List ℕ) (node : ℕ) → names_for m (with_other names name node) ≤ names_for m names + cond (eqb node m) 1 0
more-with_other m [] name node = omega arith
more-with_other m (e ∷ names) name node =
    elim (is_at (slice_cmp nat_cmp name) e.0) as (λ b. names_for m (cond b ((e.0, node) ∷ names) (e ∷ with_other names name node)) ≤ names_for m (e ∷ names) + cond (eqb node m) 1 0) [
      | true ↦ omega arith
      | false ↦ omega (arith, more-with_other m names name node)
    ]

more-without_entry : (m : ℕ) (names : Entries) (name : List ℕ) → names_for m (without_entry names name) ≤ names_for m names
more-without_entry m [] name = omega arith
more-without_entry m (e ∷ names) name =
    elim (is_at (slice_cmp nat_cmp name) e.0) as (λ b. names_for m (cond b names (e ∷ without_entry names name)) ≤ names_for m (e ∷ names)) [
      | true ↦ omega arith
      | false ↦ omega (arith, more-without_entry m names name)
    ]

pub more-with_name : (m : ℕ) (name : List ℕ) (node : ℕ) (nodes : List Node) (i d : ℕ) → names_for m (names_at (with_body (body_with_name name node) nodes i) d) ≤ names_for m (names_at nodes d) + cond (eqb node m) 1 0
more-with_name m name node = each_names (λ old new. names_for m new ≤ names_for m old + cond (eqb node m) 1 0) (λ names. omega arith) (body_with_name name node)
    (λ b. elim b as (λ b. names_for m (names_in (body_with_name name node b)) ≤ names_for m (names_in b) + cond (eqb node m) 1 0) [
      | File x ↦ omega arith
      | Directory p names ↦ more-with_entry m names name node
      | Link x ↦ omega arith
    ])

pub more-with_target : (m : ℕ) (name : List ℕ) (node : ℕ) (nodes : List Node) (i d : ℕ) → names_for m (names_at (with_body (body_with_other name node) nodes i) d) ≤ names_for m (names_at nodes d) + cond (eqb node m) 1 0
more-with_target m name node = each_names (λ old new. names_for m new ≤ names_for m old + cond (eqb node m) 1 0) (λ names. omega arith) (body_with_other name node)
    (λ b. elim b as (λ b. names_for m (names_in (body_with_other name node b)) ≤ names_for m (names_in b) + cond (eqb node m) 1 0) [
      | File x ↦ omega arith
      | Directory p names ↦ more-with_other m names name node
      | Link x ↦ omega arith
    ])

pub more-without_name : (m : ℕ) (name : List ℕ) (nodes : List Node) (i d : ℕ) → names_for m (names_at (with_body (body_without_name name) nodes i) d) ≤ names_for m (names_at nodes d)
more-without_name m name = each_names (λ old new. names_for m new ≤ names_for m old) (λ names. omega arith) (body_without_name name)
    (λ b. elim b as (λ b. names_for m (names_in (body_without_name name b)) ≤ names_for m (names_in b)) [
      | File x ↦ omega arith
      | Directory p names ↦ more-without_entry m names name
      | Link x ↦ omega arith
    ])

-- the names of one directory count among all
pub names_within : (m : ℕ) (nodes : List Node) (d : ℕ) → names_for m (names_at nodes d) ≤ links_of nodes m
unfolding links_of
names_within m [] zero = omega arith
names_within m [] (suc d) = omega arith
names_within m (x ∷ nodes) zero = omega arith
names_within m (x ∷ nodes) (suc d) = omega (arith, names_within m nodes d)

-- a directory that has a name for another one is its parent
pub holds : (nodes : List Node) (d n : ℕ) → IsSound nodes → 0 < names_for n (names_at nodes d) → kind_at nodes n ≡ Some kinds.Directory → parent_at nodes n ≡ d
holds nodes d n s l k = let q : (q : List ℕ) × (entry_at nodes d q ≡ Some n) = named_once (names_at nodes d) n (s.ordered d) l in s.stands d q.0 n q.1 k

-- a node that entries name stands in some directory
pub some_holder : (nodes : List Node) (n : ℕ) → 0 < links_of nodes n → (d : ℕ) × (0 < names_for n (names_at nodes d))
unfolding links_of
some_holder [] n l = absurd (omega arith)
some_holder (x ∷ nodes) n l =
    let P : ℕ → Type 0 = λ k. names_for n (names_in x.body) ≡ k → (d : ℕ) × (0 < names_for n (names_at (x ∷ nodes) d)) in
    elim (names_for n (names_in x.body)) as P [
      | zero ↦ λ e. let later : (d : ℕ) × (0 < names_for n (names_at nodes d)) = some_holder nodes n (omega arith) in (suc later.0, later.1)
      | suc k ↦ λ e. (0, omega arith)
    ] refl

-- .. and was made
pub made_holder : (nodes : List Node) (d n : ℕ) → IsSound nodes → 0 < names_for n (names_at nodes d) → n < length nodes
made_holder nodes d n s l = let q : (q : List ℕ) × (entry_at nodes d q ≡ Some n) = named_once (names_at nodes d) n (s.ordered d) l in s.named d q.0 n q.1

pub made_links : (nodes : List Node) (n : ℕ) → IsSound nodes → 0 < links_of nodes n → n < length nodes
made_links nodes n s l = let d : (d : ℕ) × (0 < names_for n (names_at nodes d)) = some_holder nodes n l in made_holder nodes d.0 n s d.1

-- what has an entry is a directory
pub has_entry : (nodes : List Node) (d : ℕ) (q : List ℕ) (n : ℕ) → entry_at nodes d q ≡ Some n → kind_at nodes d ≡ Some kinds.Directory
has_entry [] zero q n e = cc
has_entry [] (suc d) q n e = cc
has_entry (x ∷ nodes) zero q n e =
    let P : Body → Type 0 = λ b. entry_of (names_in b) q ≡ Some n → Some (kind_of b) ≡ Some kinds.Directory in
    elim x.body as P [ File t ↦ λ h. cc | Directory p names ↦ λ h. refl | Link t ↦ λ h. cc ] e
has_entry (x ∷ nodes) (suc d) q n e = has_entry nodes d q n e

pub some_nodes : (nodes : List Node) → kind_at nodes 0 ≡ Some kinds.Directory → 0 < length nodes
some_nodes [] k = cc
some_nodes (x ∷ nodes) k = omega arith
