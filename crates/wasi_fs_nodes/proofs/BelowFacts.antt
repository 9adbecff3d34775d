-- Going up from a directory tells whether it lies below another one.
use Rattle.std.proofs.Common.{◌≡◌, ◌≢◌, ℕ, zero, suc, ◌+◌, ◌-◌, ◌<◌, ◌≤◌, List, [], ◌∷◌, length, ◌⊎◌, inl, inr, Option, Some, None, Result, Ok, Bool, true, false, cond, ◌&&◌, ◌||◌, eqb, refl, ap, sym, subst, ◌∙◌, arith}
use Rattle.std.proofs.lemmas.Bool.{false≢true}
use Rattle.std.proofs.lemmas.Bool.Decides.{nat_tests}
use Rattle.std.proofs.lemmas.Map.Keys.{IsDistinct-cons}
use Rattle.std.proofs.lemmas.Map.Steps.{length-le_from_distinct_below}
use Rattle.std.specs.List.{IsDistinct, AllByRecursion, list_any}
use Rattle.wasi_fs_types.specs.declared.error_code.ErrorCode.{ErrorCode}
use Rattle.wasi_fs_types.specs.declared.error_code.ErrorCode.TheVariants as code
use Rattle.wasi_fs_nodes.specs.Nodes.{kind_at, is_directory, names_at, entry_at, names_for, links_of, parent_at, LiesBelow, itself, inside, TellsBelow, is_removed}
use Rattle.wasi_fs_nodes.specs.Changes.{renamed, renamed_onto, is_node, target_refusal, moved}
use Rattle.wasi_fs_nodes.specs.Outcome.{unless, unless_some}
use Rattle.wasi_fs_nodes.specs.Shape.{IsSound}
use Rattle.wasi_fs_nodes.specs.Climbs.{climbs_to, climbs}
use Rattle.wasi_fs_nodes.specs.declared.node.Node.{Node}
use Rattle.wasi_fs_nodes.specs.declared.node.Kind.TheVariants as kinds
use Rattle.wasi_fs_nodes.proofs.NodeFacts.{some_links}
use Rattle.wasi_fs_nodes.proofs.SoundFacts.{named_once, some_holder, has_entry}

-- A WAY UP: the directories from one to another, each in the next
IsWay : List Node → ℕ → ℕ → List ℕ → Type 0
IsWay nodes top n [] = n ≡ top
IsWay nodes top n (dir ∷ above) = (0 < links_of nodes n) × (parent_at nodes n ≡ dir) × IsWay nodes top dir above

-- none of its directories comes twice, and each was made
record IsShort (nodes : List Node) (top n : ℕ) (above : List ℕ) : Type 0 where
  way : IsWay nodes top n above
  once : IsDistinct eqb (n ∷ above)
  made : (m : ℕ) → list_any (eqb m) (n ∷ above) ≡ true → m < length nodes

same_or_not : (a b : ℕ) → (a ≡ b) ⊎ (a ≢ b)
same_or_not a b =
    let P : Bool → Type 0 = λ t. eqb a b ≡ t → (a ≡ b) ⊎ (a ≢ b) in
    elim (eqb a b) as P [
      | true ↦ λ e. inl (grind (arith, nat_tests))
      | false ↦ λ e. inr (grind (arith, nat_tests))
    ] refl

in_rest : (n m : ℕ) (above : List ℕ) → m ≢ n → list_any (eqb m) (n ∷ above) ≡ true → list_any (eqb m) above ≡ true
in_rest n m above ne h = let z : eqb m n ≡ false = grind (arith, nat_tests) in subst (λ b. (b || list_any (eqb m) above) ≡ true) z h

in_more : (n m : ℕ) (above : List ℕ) → list_any (eqb m) above ≡ true → list_any (eqb m) (n ∷ above) ≡ true
in_more n m above h = elim (eqb m n) as (λ b. (b || list_any (eqb m) above) ≡ true) [ true ↦ refl | false ↦ h ]

shorter : (nodes : List Node) (top n dir : ℕ) (above : List ℕ) → IsShort nodes top n (dir ∷ above) → IsShort nodes top dir above
unfolding IsWay IsDistinct
shorter nodes top n dir above w = record { way = w.way.2; once = w.once.1; made = λ k l. w.made k (in_more n k (dir ∷ above) l) }

-- the way from one of its directories on
part : (nodes : List Node) (top : ℕ) (above : List ℕ) (n m : ℕ) → IsShort nodes top n above → list_any (eqb m) (n ∷ above) ≡ true → (later : List ℕ) × IsShort nodes top m later
part nodes top [] n m w h = elim (same_or_not m n) as (λ _. (later : List ℕ) × IsShort nodes top m later) [
  | inl e ↦ ([], subst (λ i. IsShort nodes top i []) (sym e) w)
  | inr ne ↦ absurd (false≢true (in_rest n m [] ne h))
]
part nodes top (dir ∷ above) n m w h = elim (same_or_not m n) as (λ _. (later : List ℕ) × IsShort nodes top m later) [
  | inl e ↦ (dir ∷ above, subst (λ i. IsShort nodes top i (dir ∷ above)) (sym e) w)
  | inr ne ↦ part nodes top above dir m (shorter nodes top n dir above w) (in_rest n m (dir ∷ above) ne h)
]

made_kind : (nodes : List Node) (n : ℕ) → kind_at nodes n ≡ Some kinds.Directory → n < length nodes
made_kind [] zero k = cc
made_kind [] (suc n) k = cc
made_kind (x ∷ nodes) zero k = omega arith
made_kind (x ∷ nodes) (suc n) k = omega (arith, made_kind nodes n k)

apart_from : (n : ℕ) (ms : List ℕ) → list_any (eqb n) ms ≡ false → AllByRecursion (λ m. eqb n m ≡ false) ms
apart_from n [] h = tt
apart_from n (m ∷ ms) h =
    let P : Bool → Type 0 = λ b. eqb n m ≡ b → (b || list_any (eqb n) ms) ≡ false → AllByRecursion (λ m. eqb n m ≡ false) (m ∷ ms) in
    elim (eqb n m) as P [
      | true ↦ λ _ k. absurd (false≢true (sym k))
      | false ↦ λ e k. (e, apart_from n ms k)
    ] refl h

made_more : (nodes : List Node) (n : ℕ) (above : List ℕ) → n < length nodes → ((m : ℕ) → list_any (eqb m) above ≡ true → m < length nodes) → (m : ℕ) → list_any (eqb m) (n ∷ above) ≡ true → m < length nodes
made_more nodes n above l h m k = elim (same_or_not m n) as (λ _. m < length nodes) [
  | inl e ↦ subst (λ i. i < length nodes) (sym e) l
  | inr ne ↦ h m (let z : eqb m n ≡ false = grind (arith, nat_tests) in subst (λ b. (b || list_any (eqb m) above) ≡ true) z k)
]

one_alone : (n : ℕ) → IsDistinct eqb (n ∷ [])
unfolding IsDistinct
one_alone n = (tt, tt)

way_of_one : (nodes : List Node) (top : ℕ) → IsWay nodes top top []
unfolding IsWay
way_of_one nodes top = refl

way_on : (nodes : List Node) (top n dir : ℕ) (above : List ℕ) → 0 < links_of nodes n → parent_at nodes n ≡ dir → IsWay nodes top dir above → IsWay nodes top n (dir ∷ above)
unfolding IsWay
way_on nodes top n dir above l e w = (l, e, w)

-- what lies below has a way up
way_of : (nodes : List Node) (top : ℕ) → IsSound nodes → {n : ℕ} → LiesBelow nodes top n → kind_at nodes n ≡ Some kinds.Directory → (above : List ℕ) × IsShort nodes top n above
way_of nodes top s itself k = ([], record { way = way_of_one nodes top; once = one_alone top; made = made_more nodes top [] (made_kind nodes top k) (λ m h. absurd (false≢true h)) })
way_of nodes top s (inside d q n h e) k =
    let kd : kind_at nodes d ≡ Some kinds.Directory = has_entry nodes d q n e in
    let before : (above : List ℕ) × IsShort nodes top d above = way_of nodes top s h kd in
    let P : Bool → Type 0 = λ b. list_any (eqb n) (d ∷ before.0) ≡ b → (above : List ℕ) × IsShort nodes top n above in
    elim (list_any (eqb n) (d ∷ before.0)) as P [
      | true ↦ λ met. part nodes top before.0 d n before.1 met
      | false ↦ λ new. (
        d ∷ before.0,
        record {
          way = way_on nodes top n d before.0 (some_links nodes d q n e) (s.stands d q n e k) before.1.way;
          once = IsDistinct-cons eqb n (d ∷ before.0) (apart_from n (d ∷ before.0) new) before.1.once;
          made = made_more nodes n (d ∷ before.0) (s.named d q n e) before.1.made;
        },
      )
    ] refl

-- .. and is met on it
met : (nodes : List Node) (top n : ℕ) (above : List ℕ) → IsWay nodes top n above → climbs_to (suc (length above)) nodes top n ≡ true
unfolding IsWay
met nodes top n [] w = let e : eqb n top ≡ true = grind (arith, nat_tests) in ap (λ b. cond b true (cond (eqb (links_of nodes n) 0) false false)) e
met nodes top n (dir ∷ above) w =
    let z : eqb (links_of nodes n) 0 ≡ false = let l : 0 < links_of nodes n = w.0 in grind (arith, nat_tests) in
    let later : climbs_to (suc (length above)) nodes top (parent_at nodes n) ≡ true = ap (climbs_to (suc (length above)) nodes top) w.1 ∙ met nodes top dir above w.2 in
    elim (eqb n top) as (λ b. cond b true (cond (eqb (links_of nodes n) 0) false (climbs_to (suc (length above)) nodes top (parent_at nodes n))) ≡ true) [
      | true ↦ refl
      | false ↦ ap (λ b. cond b false (climbs_to (suc (length above)) nodes top (parent_at nodes n))) z ∙ later
    ]

-- more steps find it too
farther : (k m : ℕ) (nodes : List Node) (top n : ℕ) → k ≤ m → climbs_to k nodes top n ≡ true → climbs_to m nodes top n ≡ true
farther zero m nodes top n l h = absurd (false≢true h)
farther (suc k) zero nodes top n l h = absurd (omega arith)
farther (suc k) (suc m) nodes top n l h =
    let P : Bool → Type 0 = λ b. cond b true (cond (eqb (links_of nodes n) 0) false (climbs_to k nodes top (parent_at nodes n))) ≡ true
    → cond b true (cond (eqb (links_of nodes n) 0) false (climbs_to m nodes top (parent_at nodes n))) ≡ true in
    elim (eqb n top) as P [
      | true ↦ λ e. refl
      | false ↦ elim (eqb (links_of nodes n) 0) as (λ b. cond b false (climbs_to k nodes top (parent_at nodes n)) ≡ true → cond b false (climbs_to m nodes top (parent_at nodes n)) ≡ true) [
        | true ↦ λ e. e
        | false ↦ λ e. farther k m nodes top (parent_at nodes n) (omega arith) e
      ]
    ] h

complete : (nodes : List Node) (top n : ℕ) → IsSound nodes → LiesBelow nodes top n → kind_at nodes n ≡ Some kinds.Directory → climbs nodes top n ≡ true
complete nodes top n s h k =
    let w : (above : List ℕ) × IsShort nodes top n above = way_of nodes top s h k in
    farther (suc (length w.0)) (length nodes) nodes top n (let l : length (n ∷ w.0) ≤ length nodes = length-le_from_distinct_below (n ∷ w.0) (length nodes) w.1.once w.1.made in l) (met nodes top n w.0 w.1.way)

-- what is met on the way up has the directory below it
right : (k : ℕ) (nodes : List Node) (top n : ℕ) → IsSound nodes → kind_at nodes n ≡ Some kinds.Directory → climbs_to k nodes top n ≡ true → LiesBelow nodes top n
right zero nodes top n s d h = absurd (false≢true h)
right (suc k) nodes top n s d h =
    let P : Bool → Type 0 = λ b. eqb n top ≡ b → cond b true (cond (eqb (links_of nodes n) 0) false (climbs_to k nodes top (parent_at nodes n))) ≡ true → LiesBelow nodes top n in
    elim (eqb n top) as P [
      | true ↦ λ e _. let same : top ≡ n = grind (arith, nat_tests) in subst (LiesBelow nodes top) same itself
      | false ↦ λ _ k'.
          (let Q : Bool → Type 0 = λ b. eqb (links_of nodes n) 0 ≡ b → cond b false (climbs_to k nodes top (parent_at nodes n)) ≡ true → LiesBelow nodes top n in
          elim (eqb (links_of nodes n) 0) as Q [
            | true ↦ λ _ e. absurd (false≢true e)
            | false ↦ λ z e. in_parent z (right k nodes top (parent_at nodes n) s (s.rooted.parents n d) e)
          ] refl k')
    ] refl h
  where
    in_parent : eqb (links_of nodes n) 0 ≡ false → LiesBelow nodes top (parent_at nodes n) → LiesBelow nodes top n
    in_parent z b =
        let l : 0 < links_of nodes n = grind (arith, nat_tests) in
        let holder : (dir : ℕ) × (0 < names_for n (names_at nodes dir)) = some_holder nodes n l in
        let q : (q : List ℕ) × (entry_at nodes holder.0 q ≡ Some n) = named_once (names_at nodes holder.0) n (s.ordered holder.0) holder.1 in
        inside (parent_at nodes n) q.0 n b (ap (λ dir. entry_at nodes dir q.0) (s.stands holder.0 q.0 n q.1 d) ∙ q.1)

pub tells : (nodes : List Node) → IsSound nodes → TellsBelow nodes (climbs nodes)
tells nodes s top dir d = (λ h. right (length nodes) nodes top dir s d h, λ b. complete nodes top dir s b d)

-- WHATEVER TEST TELLS, A RENAMING IS THE SAME

same_test : (nodes : List Node) (a b : ℕ → ℕ → Bool) → TellsBelow nodes a → TellsBelow nodes b → (top dir : ℕ) → kind_at nodes dir ≡ Some kinds.Directory → a top dir ≡ b top dir
same_test nodes a b h g top dir k = same (a top dir) (b top dir) (λ e. (g top dir k).1 ((h top dir k).0 e)) (λ e. (h top dir k).1 ((g top dir k).0 e))
  where
    same : (p q : Bool) → (p ≡ true → q ≡ true) → (q ≡ true → p ≡ true) → p ≡ q
    same true q h g = sym (h refl)
    same false true h g = g refl
    same false false h g = refl

pub renamed_same : (nodes : List Node) (a b : ℕ → ℕ → Bool) → TellsBelow nodes a → TellsBelow nodes b → (from : ℕ) (name : List ℕ) (to : ℕ) (q : List ℕ) → kind_at nodes to ≡ Some kinds.Directory
    → renamed a nodes from name to q ≡ renamed b nodes from name to q
renamed_same nodes a b h g from name to q k = by_entry (entry_at nodes from name)
  where
    by_entry : (o : Option ℕ) → renamed_onto a nodes from name o to q (entry_at nodes to q) ≡ renamed_onto b nodes from name o to q (entry_at nodes to q)
    by_entry None = refl
    by_entry (Some node) =
        let target : Option ℕ = entry_at nodes to q in
        let on : Result (List Node) ErrorCode = unless_some (target_refusal nodes node target) (unless (is_removed nodes to) code.NoEntry (Ok (moved nodes from name node to q target))) in
        ap (λ t. cond (is_node node target) (Ok nodes) (unless (is_directory nodes node && t) code.Invalid on)) (same_test nodes a b h g node to k)

-- ONE MORE STEP UP

pub climbs_on : (n i : ℕ) (nodes : List Node) (top here : ℕ) (x : Bool) → i < n → here ≢ top → links_of nodes here ≢ 0
    → climbs_to (n - i) nodes top here ≡ x → climbs_to (n - (i + 1)) nodes top (parent_at nodes here) ≡ x
climbs_on n i nodes top here x h ne nz e =
    let on : Bool = climbs_to (n - (i + 1)) nodes top (parent_at nodes here) in
    let step : climbs_to (n - i) nodes top here ≡ cond (eqb here top) true (cond (eqb (links_of nodes here) 0) false on) = (let s : n - i ≡ suc (n - (i + 1)) = omega arith in ap (λ k. climbs_to k nodes top here) s) in
    let f : eqb here top ≡ false = grind (arith, nat_tests) in
    let z : eqb (links_of nodes here) 0 ≡ false = grind (arith, nat_tests) in
    sym (step ∙ ap (λ b. cond b true (cond (eqb (links_of nodes here) 0) false on)) f ∙ ap (λ b. cond b false on) z) ∙ e
