-- A sound tree stays one through each change.
use Rattle.std.proofs.Common.{◌≡◌, ◌≢◌, ℕ, zero, suc, ◌+◌, ◌<◌, ◌≤◌, List, [], ◌∷◌, ◌++◌, length, ◌⊎◌, inl, inr, Option, Some, None, Bool, true, false, cond, eqb, refl, ap, sym, subst, ◌∙◌, arith}
use Rattle.std.proofs.lemmas.Bool.{false≢true}
use Rattle.std.proofs.lemmas.Bool.Decides.{nat_tests}
use Rattle.std.proofs.lemmas.List.{length-append}
use Rattle.std.specs.Map.{keys_of}
use Rattle.wasi_clocks.specs.declared.datetimes.Datetime.{Datetime}
use Rattle.wasi_fs_nodes.specs.Names.{IsAscending, entry_of}
use Rattle.wasi_fs_nodes.specs.Nodes.{body_at, kind_of, kind_of_body, kind_at, is_directory, is_directory_kind, names_in, names_of, names_at, entry_at, names_for, links_of, parent_in, parent_of, parent_at}
use Rattle.wasi_fs_nodes.specs.Bodies.{with_body, body_with_name, body_with_other, body_with_parent, body_without_name, with_name, without_name, with_parent, with_new, with_times}
use Rattle.wasi_fs_nodes.specs.Changes.{put_at, moved}
use Rattle.wasi_fs_nodes.specs.Shape.{IsRooted, IsSound, IsFresh}
use Rattle.wasi_fs_nodes.specs.declared.node.Node.{Node}
use Rattle.wasi_fs_nodes.specs.declared.node.Body.{Body}
use Rattle.wasi_fs_nodes.specs.declared.node.Body.TheVariants.{File, Directory, Link}
use Rattle.wasi_fs_nodes.specs.declared.node.Kind.{Kind}
use Rattle.wasi_fs_nodes.specs.declared.node.Kind.TheVariants as kinds
use Rattle.wasi_fs_nodes.proofs.EntryFacts.{no_names_ascend}
use Rattle.wasi_fs_nodes.proofs.NodeFacts.{some_names}
use Rattle.wasi_fs_nodes.proofs.ShapeFacts.{Keeps, keeps_name, keeps_other, keeps_taken, kind_at-with_body, parent_at-with_body, length-with_body, rooted-with_body, rooted-push, rooted-with_parent, rooted-with_times, parent_kind, body_at-with_times, kind_at-with_times}
use Rattle.wasi_fs_nodes.proofs.SumFacts.{links_of-push, links_of-kept, links_of-with_name, links_of-without_name, links_of-with_target, links_of-with_times, names_for-without_entry}
use Rattle.wasi_fs_nodes.proofs.MoveFacts.{kept_put_at, kind_at-moved, length-moved}
use Rattle.wasi_fs_nodes.proofs.SoundFacts.{names_at-other, names_at-kept, ordered-with_name, ordered-with_other, ordered-without_name, more-with_name, more-with_target, more-without_name, names_within, holds, made_holder, made_links, some_nodes}

-- WHAT KEEPS NAMES, KINDS AND PARENTS

pub sound_kept : (f : Body → Body) → Keeps f → ((b : Body) → names_in (f b) ≡ names_in b) → (nodes : List Node) (i : ℕ) → IsSound nodes → IsSound (with_body f nodes i)
sound_kept f k same nodes i s = record {
  rooted = rooted-with_body f k nodes i s.rooted;
  top = links_of-kept f same 0 nodes i ∙ s.top;
  named = λ d q n e. rw (length-with_body f nodes i) (s.named d q n (ap (λ names. entry_of names q) (sym (names_at-kept f same nodes i d)) ∙ e));
  ordered = λ d. let P : List (List ℕ × ℕ) → Type 0 = λ names. IsAscending (keys_of names) in subst P (sym (names_at-kept f same nodes i d)) (s.ordered d);
  stands = λ d q n e h. parent_at-with_body f k nodes i n
      ∙ s.stands d q n (ap (λ names. entry_of names q) (sym (names_at-kept f same nodes i d)) ∙ e) (sym (kind_at-with_body f k.kind nodes i n) ∙ h);
  once = λ n h. rw (links_of-kept f same n nodes i) (s.once n (sym (kind_at-with_body f k.kind nodes i n) ∙ h));
}

length-with_times : (nodes : List Node) (i : ℕ) (a m : Option Datetime) → length (with_times nodes i a m) ≡ length nodes
length-with_times [] i a m = refl
length-with_times (x ∷ nodes) zero a m = refl
length-with_times (x ∷ nodes) (suc i) a m = ap suc (length-with_times nodes i a m)

pub sound-with_times : (nodes : List Node) (i : ℕ) (a m : Option Datetime) → IsSound nodes → IsSound (with_times nodes i a m)
sound-with_times nodes i a m s =
    let same : (n : ℕ) → body_at (with_times nodes i a m) n ≡ body_at nodes n = λ n. body_at-with_times nodes i n a m in
    record {
      rooted = rooted-with_times nodes i a m s.rooted;
      top = links_of-with_times 0 nodes i a m ∙ s.top;
      named = λ d q n e. rw (length-with_times nodes i a m) (s.named d q n (ap (λ b. entry_of (names_of b) q) (sym (same d)) ∙ e));
      ordered = λ d. let P : Option Body → Type 0 = λ b. IsAscending (keys_of (names_of b)) in subst P (sym (same d)) (s.ordered d);
      stands = λ d q n e h. ap parent_of (same n) ∙ s.stands d q n (ap (λ b. entry_of (names_of b) q) (sym (same d)) ∙ e) (sym (kind_at-with_times nodes i n a m) ∙ h);
      once = λ n h. rw (links_of-with_times n nodes i a m) (s.once n (sym (kind_at-with_times nodes i n a m) ∙ h));
    }

-- ONE MORE NODE AT THE END

body_at-last : (nodes : List Node) (y : Node) → body_at (nodes ++ y ∷ []) (length nodes) ≡ Some y.body
body_at-last [] y = refl
body_at-last (x ∷ nodes) y = body_at-last nodes y

body_at-before : (nodes : List Node) (y : Node) (n : ℕ) → n ≢ length nodes → body_at (nodes ++ y ∷ []) n ≡ body_at nodes n
body_at-before [] y zero ne = absurd (ne refl)
body_at-before [] y (suc n) ne = refl
body_at-before (x ∷ nodes) y zero ne = refl
body_at-before (x ∷ nodes) y (suc n) ne = body_at-before nodes y n (λ e. ne (ap suc e))

same_or_not : (a b : ℕ) → (a ≡ b) ⊎ (a ≢ b)
same_or_not a b =
    let P : Bool → Type 0 = λ t. eqb a b ≡ t → (a ≡ b) ⊎ (a ≢ b) in
    elim (eqb a b) as P [
      | true ↦ λ e. inl (grind (arith, nat_tests))
      | false ↦ λ e. inr (grind (arith, nat_tests))
    ] refl

zero_unless : (k : ℕ) → (0 < k → ⊥) → k ≡ 0
zero_unless zero h = refl
zero_unless (suc k) h = absurd (h (omega arith))

-- no entry names a node that is still to come
no_links : (nodes : List Node) (n : ℕ) → IsSound nodes → length nodes ≡ n → links_of nodes n ≡ 0
no_links nodes n s e = zero_unless (links_of nodes n) (λ l. let m : n < length nodes = made_links nodes n s l in absurd (omega arith))

pub sound_new : (nodes : List Node) (dir : ℕ) (name : List ℕ) (node : Node) → IsSound nodes → kind_at nodes dir ≡ Some kinds.Directory → entry_at nodes dir name ≡ None → IsFresh nodes dir node
    → IsSound (with_new nodes dir name node)
sound_new nodes dir name node s k absent fresh =
    let next : ℕ = length nodes in
    let f : Body → Body = body_with_name name next in
    let ns : List Node = with_name nodes dir name next in
    let all : List Node = ns ++ node ∷ [] in
    let long : length ns ≡ next = length-with_body f nodes dir in
    let longer : length all ≡ next + 1 = length-append ns (node ∷ []) ∙ ap (λ i. i + 1) long in
    let kinds_same : (n : ℕ) → kind_at ns n ≡ kind_at nodes n = kind_at-with_body f (keeps_name name next).kind nodes dir in
    let before : (n : ℕ) → n ≢ next → body_at all n ≡ body_at ns n = λ n ne. body_at-before ns node n (λ e. ne (e ∙ long)) in
    let last : body_at all next ≡ Some node.body = subst (λ i. body_at all i ≡ Some node.body) long (body_at-last ns node) in
    let empty : (d : ℕ) → d ≡ next → names_at all d ≡ [] = λ d e. ap (λ i. names_of (body_at all i)) e ∙ ap names_of last ∙ fresh.empty in
    let few : (d n : ℕ) → names_for n (names_at all d) ≤ names_for n (names_at nodes d) + cond (eqb next n) 1 0 = λ d n. elim (same_or_not d next) as (λ _. names_for n (names_at all d) ≤ names_for n (names_at nodes d) + cond (eqb next n) 1 0) [
      | inl e ↦ rw (empty d e) (omega arith)
      | inr ne ↦ rw (ap names_of (before d ne)) (more-with_name n name next nodes dir d)
    ] in
    let total : (n : ℕ) → links_of all n ≡ links_of nodes n + cond (eqb next n) 1 0 = λ n.
    links_of-push n ns node ∙ ap (λ names. links_of ns n + names_for n names) fresh.empty ∙ omega (arith, links_of-with_name n nodes dir name next k absent) in
    let old : (d n : ℕ) → next ≢ n → 0 < names_for n (names_at all d) → 0 < names_for n (names_at nodes d) = λ d n ne l. less_apart next n _ _ ne l (few d n) in
    record {
      rooted = rooted-push ns node (rooted-with_body f (keeps_name name next) nodes dir s.rooted) (λ h. kinds_same (parent_in node.body) ∙ ap (kind_at nodes) (fresh.stands h) ∙ k);
      top = total 0 ∙ ap (λ i. i + cond (eqb next 0) 1 0) s.top ∙ no_zero next (some_nodes nodes s.rooted.root);
      named = λ d q n e. elim (same_or_not next n) as (λ _. n < length all) [
        | inl same ↦ omega (arith, longer)
        | inr ne ↦ omega (arith, longer, made_holder nodes d n s (old d n ne (some_names n (names_at all d) q e)))
      ];
      ordered = λ d. let P : List (List ℕ × ℕ) → Type 0 = λ names. IsAscending (keys_of names) in elim (same_or_not d next) as (λ _. P (names_at all d)) [
        | inl e ↦ subst P (sym (empty d e)) no_names_ascend
        | inr ne ↦ subst P (sym (ap names_of (before d ne))) (ordered-with_name name next nodes dir d (s.ordered d))
      ];
      stands = λ d q n e h. elim (same_or_not next n) as (λ _. parent_at all n ≡ d) [
        | inl same ↦ elim (same_or_not dir d) as (λ _. parent_at all n ≡ d) [
          | inl here ↦ ap (parent_at all) (sym same) ∙ ap parent_of last ∙ fresh.stands (unsome_kind (kind_of node.body) (sym (ap kind_of_body last) ∙ ap (kind_at all) same ∙ h)) ∙ here
          | inr apart ↦ elim (same_or_not d next) as (λ _. parent_at all n ≡ d) [
            | inl at_end ↦ absurd (no_names n (names_at all d) (empty d at_end) (some_names n (names_at all d) q e))
            | inr ne ↦
                let l : 0 < names_for n (names_at nodes d) = subst (λ names. 0 < names_for n names) (ap names_of (before d ne) ∙ names_at-other f nodes dir d apart) (some_names n (names_at all d) q e) in
                absurd (not_past next n same (made_holder nodes d n s l))
          ]
        ]
        | inr ne ↦
            let was : body_at all n ≡ body_at ns n = before n (λ e. ne (sym e)) in
            ap parent_of was ∙ parent_at-with_body f (keeps_name name next) nodes dir n
            ∙ holds nodes d n s (old d n ne (some_names n (names_at all d) q e)) (sym (kinds_same n) ∙ sym (ap kind_of_body was) ∙ h)
      ];
      once = λ n h. elim (same_or_not next n) as (λ _. links_of all n ≤ 1) [
        | inl same ↦ at_most (links_of nodes n) (eqb next n) _ (total n) (no_links nodes n s same)
        | inr ne ↦
            let was : body_at all n ≡ body_at ns n = before n (λ e. ne (sym e)) in
            let one : links_of nodes n ≤ 1 = s.once n (sym (kinds_same n) ∙ sym (ap kind_of_body was) ∙ h) in
            rw (total n) (kept_one next n (links_of nodes n) ne one)
      ];
    }
  where
    less_apart : (a n k m : ℕ) → a ≢ n → 0 < k → k ≤ m + cond (eqb a n) 1 0 → 0 < m
    less_apart a n k m ne l h = grind (arith, nat_tests)

    no_zero : (a : ℕ) → 0 < a → 0 + cond (eqb a 0) 1 0 ≡ 0
    no_zero a h = grind (arith, nat_tests)

    no_names : (n : ℕ) (names : List (List ℕ × ℕ)) → names ≡ [] → 0 < names_for n names → ⊥
    no_names n names e l = let z : 0 < names_for n [] = subst (λ x. 0 < names_for n x) e l in omega arith

    not_past : (a n : ℕ) → a ≡ n → n < a → ⊥
    not_past a n e l = omega arith

    at_most : (k : ℕ) (b : Bool) (m : ℕ) → m ≡ k + cond b 1 0 → k ≡ 0 → m ≤ 1
    at_most k true m e z = omega arith
    at_most k false m e z = omega arith

    kept_one : (a n k : ℕ) → a ≢ n → k ≤ 1 → k + cond (eqb a n) 1 0 ≤ 1
    kept_one a n k ne h = grind (arith, nat_tests)

    unsome_kind : (k : Kind) → Some k ≡ Some kinds.Directory → k ≡ kinds.Directory
    unsome_kind k e = cc

-- ONE MORE NAME FOR A FILE OR A LINK

no_directory : (nodes : List Node) (n m : ℕ) → kind_at nodes n ≡ Some kinds.Directory → is_directory nodes m ≡ false → m ≢ n
no_directory nodes n m k h e = false≢true (sym h ∙ ap is_directory_kind (ap (kind_at nodes) e ∙ k))

less_one : (a n k m : ℕ) → a ≢ n → 0 < k → k ≤ m + cond (eqb a n) 1 0 → 0 < m
less_one a n k m ne l h = grind (arith, nat_tests)

same_count : (a n k m : ℕ) → a ≢ n → k ≡ m + cond (eqb a n) 1 0 → k ≡ m
same_count a n k m ne h = grind (arith, nat_tests)

pub sound_link : (nodes : List Node) (dir : ℕ) (name : List ℕ) (node : ℕ) → IsSound nodes → kind_at nodes dir ≡ Some kinds.Directory → entry_at nodes dir name ≡ None
    → node < length nodes → is_directory nodes node ≡ false → IsSound (with_name nodes dir name node)
sound_link nodes dir name node s k absent made no_dir =
    let f : Body → Body = body_with_name name node in
    let new : List Node = with_name nodes dir name node in
    let kinds_same : (n : ℕ) → kind_at new n ≡ kind_at nodes n = kind_at-with_body f (keeps_name name node).kind nodes dir in
    let apart : (n : ℕ) → kind_at new n ≡ Some kinds.Directory → node ≢ n = λ n h. no_directory nodes n node (sym (kinds_same n) ∙ h) no_dir in
    let total : (n : ℕ) → node ≢ n → links_of new n ≡ links_of nodes n = λ n ne. same_count node n _ _ ne (links_of-with_name n nodes dir name node k absent) in
    let old : (d q' : ℕ) → node ≢ q' → 0 < names_for q' (names_at new d) → 0 < names_for q' (names_at nodes d) = λ d n ne l. less_one node n _ _ ne l (more-with_name n name node nodes dir d) in
    record {
      rooted = rooted-with_body f (keeps_name name node) nodes dir s.rooted;
      top = total 0 (apart 0 (kinds_same 0 ∙ s.rooted.root)) ∙ s.top;
      named = λ d q n e. rw (length-with_body f nodes dir) (elim (same_or_not node n) as (λ _. n < length nodes) [
        | inl same ↦ subst (λ i. i < length nodes) same made
        | inr ne ↦ made_holder nodes d n s (old d n ne (some_names n (names_at new d) q e))
      ]);
      ordered = λ d. ordered-with_name name node nodes dir d (s.ordered d);
      stands = λ d q n e h. parent_at-with_body f (keeps_name name node) nodes dir n
          ∙ holds nodes d n s (old d n (apart n h) (some_names n (names_at new d) q e)) (sym (kinds_same n) ∙ h);
      once = λ n h. rw (total n (apart n h)) (s.once n (sym (kinds_same n) ∙ h));
    }

-- WITHOUT A NAME

pub sound_taken : (nodes : List Node) (dir : ℕ) (name : List ℕ) (node : ℕ) → IsSound nodes → entry_at nodes dir name ≡ Some node → IsSound (without_name nodes dir name)
sound_taken nodes dir name node s there =
    let f : Body → Body = body_without_name name in
    let new : List Node = without_name nodes dir name in
    let kinds_same : (n : ℕ) → kind_at new n ≡ kind_at nodes n = kind_at-with_body f (keeps_taken name).kind nodes dir in
    let old : (d n : ℕ) → 0 < names_for n (names_at new d) → 0 < names_for n (names_at nodes d) = λ d n l. omega (arith, l, more-without_name n name nodes dir d) in
    record {
      rooted = rooted-with_body f (keeps_taken name) nodes dir s.rooted;
      top = omega (arith, links_of-without_name 0 nodes dir name node there, s.top);
      named = λ d q n e. rw (length-with_body f nodes dir) (made_holder nodes d n s (old d n (some_names n (names_at new d) q e)));
      ordered = λ d. ordered-without_name name nodes dir d (s.ordered d);
      stands = λ d q n e h. parent_at-with_body f (keeps_taken name) nodes dir n ∙ holds nodes d n s (old d n (some_names n (names_at new d) q e)) (sym (kinds_same n) ∙ h);
      once = λ n h. omega (arith, links_of-without_name n nodes dir name node there, s.once n (sym (kinds_same n) ∙ h));
    }

-- A NODE TAKES ANOTHER PLACE

parent-here : (nodes : List Node) (n dir : ℕ) → kind_at nodes n ≡ Some kinds.Directory → parent_at (with_parent nodes n dir) n ≡ dir
parent-here [] zero dir k = cc
parent-here [] (suc n) dir k = cc
parent-here (x ∷ nodes) zero dir k =
    let P : Body → Type 0 = λ b. Some (kind_of b) ≡ Some kinds.Directory → parent_in (body_with_parent dir b) ≡ dir in
    elim x.body as P [ File t ↦ λ h. cc | Directory p names ↦ λ h. refl | Link t ↦ λ h. cc ] k
parent-here (x ∷ nodes) (suc n) dir k = parent-here nodes n dir k

parent-other : (nodes : List Node) (i n dir : ℕ) → i ≢ n → parent_at (with_parent nodes i dir) n ≡ parent_at nodes n
parent-other [] i n dir ne = refl
parent-other (x ∷ nodes) zero zero dir ne = absurd (ne refl)
parent-other (x ∷ nodes) zero (suc n) dir ne = refl
parent-other (x ∷ nodes) (suc i) zero dir ne = refl
parent-other (x ∷ nodes) (suc i) (suc n) dir ne = parent-other nodes i n dir (λ e. ne (ap suc e))

parent_names : (dir : ℕ) (b : Body) → names_in (body_with_parent dir b) ≡ names_in b
parent_names dir b = elim b as (λ b. names_in (body_with_parent dir b) ≡ names_in b) [ File x ↦ refl | Directory p x ↦ refl | Link x ↦ refl ]

-- a directory has one name less for the node that was under the name
taken_here : (nodes : List Node) (dir : ℕ) (name : List ℕ) (n : ℕ) → entry_at nodes dir name ≡ Some n
    → names_for n (names_at (without_name nodes dir name) dir) + 1 ≡ names_for n (names_at nodes dir)
taken_here [] zero name n h = cc
taken_here [] (suc dir) name n h = cc
taken_here (x ∷ nodes) zero name n h =
    let P : Body → Type 0 = λ b. entry_of (names_in b) name ≡ Some n → names_for n (names_in (body_without_name name b)) + 1 ≡ names_for n (names_in b) in
    elim x.body as P [
      | File t ↦ λ k. cc
      | Directory p names ↦ λ k. let e = names_for-without_entry n names name n k in grind (arith, nat_tests)
      | Link t ↦ λ k. cc
    ] h
taken_here (x ∷ nodes) (suc dir) name n h = taken_here nodes dir name n h

put_parent : (nodes : List Node) (to : ℕ) (q : List ℕ) (node : ℕ) (target : Option ℕ) (n : ℕ) → parent_at (put_at nodes to q node target) n ≡ parent_at nodes n
put_parent nodes to q node None n = parent_at-with_body (body_with_name q node) (keeps_name q node) nodes to n
put_parent nodes to q node (Some before) n = parent_at-with_body (body_with_other q node) (keeps_other q node) nodes to n

put_more : (nodes : List Node) (to : ℕ) (q : List ℕ) (node : ℕ) (target : Option ℕ) (m d : ℕ)
    → names_for m (names_at (put_at nodes to q node target) d) ≤ names_for m (names_at nodes d) + cond (eqb node m) 1 0
put_more nodes to q node None m d = more-with_name m q node nodes to d
put_more nodes to q node (Some before) m d = more-with_target m q node nodes to d

put_other : (nodes : List Node) (to : ℕ) (q : List ℕ) (node : ℕ) (target : Option ℕ) (d : ℕ) → to ≢ d → names_at (put_at nodes to q node target) d ≡ names_at nodes d
put_other nodes to q node None d ne = names_at-other (body_with_name q node) nodes to d ne
put_other nodes to q node (Some before) d ne = names_at-other (body_with_other q node) nodes to d ne

put_ordered : (nodes : List Node) (to : ℕ) (q : List ℕ) (node : ℕ) (target : Option ℕ) (d : ℕ) → IsAscending (keys_of (names_at nodes d)) → IsAscending (keys_of (names_at (put_at nodes to q node target) d))
put_ordered nodes to q node None d h = ordered-with_name q node nodes to d h
put_ordered nodes to q node (Some before) d h = ordered-with_other q node nodes to d h

put_rooted : (nodes : List Node) (to : ℕ) (q : List ℕ) (node : ℕ) (target : Option ℕ) → IsRooted nodes → IsRooted (put_at nodes to q node target)
put_rooted nodes to q node None h = rooted-with_body (body_with_name q node) (keeps_name q node) nodes to h
put_rooted nodes to q node (Some before) h = rooted-with_body (body_with_other q node) (keeps_other q node) nodes to h

put_links : (nodes : List Node) (to : ℕ) (q : List ℕ) (node : ℕ) (target : Option ℕ) (m : ℕ) → kind_at nodes to ≡ Some kinds.Directory → target ≡ entry_at nodes to q
    → links_of (put_at nodes to q node target) m ≤ links_of nodes m + cond (eqb node m) 1 0
put_links nodes to q node None m k t = omega (arith, links_of-with_name m nodes to q node k (sym t))
put_links nodes to q node (Some before) m k t = omega (arith, links_of-with_target m nodes to q node before (sym t))

pub sound_moved : (nodes : List Node) (from : ℕ) (name : List ℕ) (node to : ℕ) (q : List ℕ) (target : Option ℕ) → IsSound nodes → entry_at nodes from name ≡ Some node
    → kind_at nodes to ≡ Some kinds.Directory → target ≡ entry_at nodes to q → IsSound (moved nodes from name node to q target)
sound_moved nodes from name node to q target s there k t =
    let put : List Node = put_at nodes to q node target in
    let taken : List Node = without_name put from name in
    let new : List Node = with_parent taken node to in
    let still : entry_at put from name ≡ Some node = kept_put_at nodes to q node target from name there in
    let kinds_taken : (n : ℕ) → kind_at taken n ≡ kind_at nodes n = kind_at-moved nodes to q node target from name in
    let kinds_same : (n : ℕ) → kind_at new n ≡ kind_at nodes n = λ n. kind_at-with_body (body_with_parent to) (parent_kind to) taken node n ∙ kinds_taken n in
    let names_same : (d : ℕ) → names_at new d ≡ names_at taken d = names_at-kept (body_with_parent to) (parent_names to) taken node in
    let total : (n : ℕ) → links_of new n ≤ links_of nodes n = λ n. omega (
      arith,
      links_of-kept (body_with_parent to) (parent_names to) n taken node,
      links_of-without_name n put from name node still,
      put_links nodes to q node target n k t,
    ) in
    let more : (d n : ℕ) → names_for n (names_at new d) ≤ names_for n (names_at put d) = λ d n. rw (names_same d) (more-without_name n name put from d) in
    let old : (d n : ℕ) → node ≢ n → 0 < names_for n (names_at new d) → 0 < names_for n (names_at nodes d) = λ d n ne l.
    less_one node n _ _ ne (some_of _ _ l (more d n)) (put_more nodes to q node target n d) in
    let long : length new ≡ length nodes = length-with_body (body_with_parent to) taken node ∙ length-moved nodes to q node target from name in
    let parent_taken : (n : ℕ) → parent_at taken n ≡ parent_at nodes n = λ n. parent_at-with_body (body_without_name name) (keeps_taken name) put from n ∙ put_parent nodes to q node target n in
    record {
      rooted = rooted-with_parent taken node to (kinds_taken to ∙ k) (rooted-with_body (body_without_name name) (keeps_taken name) put from (put_rooted nodes to q node target s.rooted));
      top = zero_unless (links_of new 0) (λ l. let b = total 0 in absurd (omega (arith, b, s.top, l)));
      named = λ d r n e. rw long (elim (same_or_not node n) as (λ _. n < length nodes) [
        | inl same ↦ subst (λ i. i < length nodes) same (s.named from name node there)
        | inr ne ↦ made_holder nodes d n s (old d n ne (some_names n (names_at new d) r e))
      ]);
      ordered = λ d. let P : List (List ℕ × ℕ) → Type 0 = λ names. IsAscending (keys_of names) in
          subst P (sym (names_same d)) (ordered-without_name name put from d (put_ordered nodes to q node target d (s.ordered d)));
      stands = λ d r n e h. elim (same_or_not node n) as (λ _. parent_at new n ≡ d) [
        | inl same ↦
            let here : 0 < names_for node (names_at taken d) = subst (λ i. 0 < names_for i (names_at taken d)) (sym same) (subst (λ names. 0 < names_for n names) (names_same d) (some_names n (names_at new d) r e)) in
            ap (parent_at new) (sym same) ∙ parent-here taken node to (kinds_taken node ∙ sym (kinds_same node) ∙ ap (kind_at new) same ∙ h)
            ∙ one_place nodes from name node to q target d s there (sym (kinds_same node) ∙ ap (kind_at new) same ∙ h) here
        | inr ne ↦ parent-other taken node n to ne ∙ parent_taken n ∙ holds nodes d n s (old d n ne (some_names n (names_at new d) r e)) (sym (kinds_same n) ∙ h)
      ];
      once = λ n h. let one : links_of nodes n ≤ 1 = s.once n (sym (kinds_same n) ∙ h) in omega (arith, total n, one);
    }
  where
    some_of : (a b : ℕ) → 0 < a → a ≤ b → 0 < b
    some_of a b l h = omega arith

    -- after a directory left its name, it stands in its new place alone
    one_place : (nodes : List Node) (from : ℕ) (name : List ℕ) (node to : ℕ) (q : List ℕ) (target : Option ℕ) (d : ℕ) → IsSound nodes → entry_at nodes from name ≡ Some node
        → kind_at nodes node ≡ Some kinds.Directory → 0 < names_for node (names_at (without_name (put_at nodes to q node target) from name) d) → to ≡ d
    one_place nodes from name node to q target d s there dir l =
        let put : List Node = put_at nodes to q node target in
        elim (same_or_not to d) as (λ _. to ≡ d) [
          | inl e ↦ e
          | inr ne ↦
              let same : names_at put d ≡ names_at nodes d = put_other nodes to q node target d ne in
              let was : 0 < names_for node (names_at nodes d) = subst (λ names. 0 < names_for node names) same (some_of _ _ l (more-without_name node name put from d)) in
              let at : from ≡ d = sym (s.stands from name node there dir) ∙ holds nodes d node s was dir in
              let gone : names_for node (names_at (without_name put from name) from) + 1 ≡ names_for node (names_at put from) = taken_here put from name node (kept_put_at nodes to q node target from name there) in
              let l' : 0 < names_for node (names_at (without_name put from name) from) = subst (λ i. 0 < names_for node (names_at (without_name put from name) i)) (sym at) l in
              let same' : names_at put from ≡ names_at nodes from = ap (names_at put) at ∙ same ∙ ap (names_at nodes) (sym at) in
              let one : names_for node (names_at put from) ≤ 1 = rw same' (omega (arith, names_within node nodes from, s.once node dir)) in
              absurd (omega (arith, gone, l', one))
        ]
