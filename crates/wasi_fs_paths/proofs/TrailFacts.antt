use Rattle.std.proofs.Common.{◌≡◌, ℕ, List, [], ◌∷◌, length, Option, Some, None, Result, Ok, Err, Bool, true, false, cond, ltb, refl, ap, ◌∙◌}
use Rattle.wasi_fs_types.specs.declared.error_code.ErrorCode.{ErrorCode}
use Rattle.wasi_fs_types.specs.declared.error_code.ErrorCode.TheVariants as code
use Rattle.wasi_fs_nodes.specs.Nodes.{kind_at, entry_at, parent_at}
use Rattle.wasi_fs_nodes.specs.Outcome.{then, unless}
use Rattle.wasi_fs_nodes.specs.declared.node.Node.{Node}
use Rattle.wasi_fs_nodes.specs.declared.node.Kind.{Kind}
use Rattle.wasi_fs_nodes.specs.declared.node.Kind.TheVariants as kind
use Rattle.wasi_fs_paths.specs.Components.{is_parent}
use Rattle.wasi_fs_nodes.specs.Shape.{KnowParents}
use Rattle.wasi_fs_paths.specs.Paths.{Place, Inside, Named, Trail, back, into_kind, into, past, reached, last, walk}
use Rattle.wasi_fs_paths.specs.laws.Stands.{stand_walk, stand_last, stand_past, stand_back, stand_into, stand_into_kind, stand_inside}
use Rattle.wasi_fs_paths.specs.declared.walk.Stand.{Stand}

-- each directory of a trail stands in the next one
abbrev IsAbove : List Node → ℕ → List ℕ → Type 0
IsAbove nodes here [] = Unit {0}
IsAbove nodes here (dir ∷ above) = (parent_at nodes here ≡ dir) × IsAbove nodes dir above

record Agree (nodes : List Node) (stand : Stand) (trail : Trail) : Type 0 where
  depth : stand.depth ≡ length trail.above
  here : stand.here ≡ trail.here
  above : IsAbove nodes trail.here trail.above

abbrev AgreeOn : List Node → Result Stand ErrorCode → Result Trail ErrorCode → Type 0
AgreeOn nodes (Ok stand) (Ok trail) = Agree nodes stand trail
AgreeOn nodes (Ok stand) (Err f) = ⊥
AgreeOn nodes (Err e) (Ok trail) = ⊥
AgreeOn nodes (Err e) (Err f) = e ≡ f

agree_back : (nodes : List Node) (above : List ℕ) (here : ℕ) → IsAbove nodes here above → AgreeOn nodes (stand_back nodes (length above) here) (back above)
agree_back nodes [] here a = refl
agree_back nodes (dir ∷ above) here a = record { depth = refl; here = a.0; above = a.1 }

agree_into : (nodes : List Node) → KnowParents nodes → (above : List ℕ) (here : ℕ) (name : List ℕ) → IsAbove nodes here above → (o : Option ℕ) → entry_at nodes here name ≡ o
    → AgreeOn nodes (stand_into nodes (length above) o) (into nodes above here o)
agree_into nodes w above here name a None e = refl
agree_into nodes w above here name a (Some n) e =
    let P : Option Kind → Type 0 = λ k. kind_at nodes n ≡ k → AgreeOn nodes (stand_into_kind (length above) n k) (into_kind above here n k) in
    elim (kind_at nodes n) as P [
      | None ↦ λ _. refl
      | Some k ↦ elim k as (λ k. P (Some k)) [
        | kind.File ↦ λ _. refl
        | kind.Directory ↦ λ d. record { depth = refl; here = refl; above = (w here name n e d, a) }
        | kind.Link ↦ λ _. refl
      ]
    ] refl

agree_unless : (nodes : List Node) (b : Bool) (r : Result Stand ErrorCode) (s : Result Trail ErrorCode) → AgreeOn nodes r s → AgreeOn nodes (unless b code.NameTooLong r) (unless b code.NameTooLong s)
agree_unless nodes true r s h = refl
agree_unless nodes false r s h = h

agree_cond : (nodes : List Node) (b : Bool) (r t : Result Stand ErrorCode) (s u : Result Trail ErrorCode) → AgreeOn nodes r s → AgreeOn nodes t u → AgreeOn nodes (cond b r t) (cond b s u)
agree_cond nodes true r t s u h k = h
agree_cond nodes false r t s u h k = k

agree_past : (nodes : List Node) → KnowParents nodes → (above : List ℕ) (here : ℕ) (name : List ℕ) → IsAbove nodes here above
    → AgreeOn nodes (stand_past nodes (length above) here name) (past nodes above here name)
agree_past nodes w above here name a =
    agree_cond nodes (is_parent name) _ _ _ _ (agree_back nodes above here a)
    (agree_unless nodes (ltb 255 (length name)) _ _ (agree_into nodes w above here name a (entry_at nodes here name) refl))

same_then : (nodes : List Node) (r : Result Stand ErrorCode) (s : Result Trail ErrorCode) (f : Stand → Result Place ErrorCode) (g : Trail → Result Place ErrorCode)
    → AgreeOn nodes r s → ((stand : Stand) (trail : Trail) → Agree nodes stand trail → f stand ≡ g trail) → then r f ≡ then s g
same_then nodes (Ok stand) (Ok trail) f g h k = k stand trail h
same_then nodes (Ok stand) (Err e) f g h k = absurd h
same_then nodes (Err e) (Ok trail) f g h k = absurd h
same_then nodes (Err e) (Err d) f g h k = ap Err h

same_inside : (nodes : List Node) (r : Result Stand ErrorCode) (s : Result Trail ErrorCode) → AgreeOn nodes r s → stand_inside r ≡ reached s
same_inside nodes (Ok stand) (Ok trail) h = ap (λ n. Ok (Inside n)) h.here
same_inside nodes (Ok stand) (Err e) h = absurd h
same_inside nodes (Err e) (Ok trail) h = absurd h
same_inside nodes (Err e) (Err d) h = ap Err h

same_last : (nodes : List Node) (above : List ℕ) (here : ℕ) (name : List ℕ) → IsAbove nodes here above → stand_last nodes (length above) here name ≡ last nodes above here name
same_last nodes above here name a =
    ap (λ r. cond (is_parent name) r (unless (ltb 255 (length name)) code.NameTooLong (Ok (Named here name (entry_at nodes here name)))))
    (same_inside nodes (stand_back nodes (length above) here) (back above) (agree_back nodes above here a))

same_walk : (nodes : List Node) → KnowParents nodes → (above : List ℕ) (here : ℕ) (names : List (List ℕ)) → IsAbove nodes here above → stand_walk nodes (length above) here names ≡ walk nodes above here names
same_walk nodes w above here [] a = refl
same_walk nodes w above here (name ∷ []) a = same_last nodes above here name a
same_walk nodes w above here (name ∷ next ∷ names) a =
    same_then nodes (stand_past nodes (length above) here name) (past nodes above here name) _ _ (agree_past nodes w above here name a) (λ stand trail h.
    ap (λ d. stand_walk nodes d stand.here (next ∷ names)) h.depth
    ∙ ap (λ n. stand_walk nodes (length trail.above) n (next ∷ names)) h.here
    ∙ same_walk nodes w trail.above trail.here (next ∷ names) h.above)

-- .. from a start on
pub goes_back_along : (nodes : List Node) → KnowParents nodes → (start : ℕ) (names : List (List ℕ)) → stand_walk nodes 0 start names ≡ walk nodes [] start names
goes_back_along nodes w start names = same_walk nodes w [] start names tt
