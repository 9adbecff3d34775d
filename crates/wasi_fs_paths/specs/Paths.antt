-- What a path leads to from a directory, or the code of its refusal. The path is walked from its front, and the first
-- refusal met is the answer; at one name the rules count in the order in which they stand here.
use Rattle.std.specs.Prelude.{ℕ, List, [], ◌∷◌, length, Option, Some, None, Result, Ok, Err, Bool, false, cond, not, ltb}
use Rattle.std.specs.Option.{ok_or}
use Rattle.wasi_fs_types.specs.declared.error_code.ErrorCode.{ErrorCode}
use Rattle.wasi_fs_types.specs.declared.error_code.ErrorCode.TheVariants as code
use Rattle.wasi_fs_nodes.specs.Nodes.{kind_at, entry_at}
use Rattle.wasi_fs_nodes.specs.Outcome.{then, unless}
use Rattle.wasi_fs_nodes.specs.declared.node.Node.{Node}
use Rattle.wasi_fs_nodes.specs.declared.node.Kind.{Kind}
use Rattle.wasi_fs_nodes.specs.declared.node.Kind.TheVariants as kind
use Rattle.wasi_fs_paths.specs.Components.{components, is_parent, is_empty, begins_with_slash, ends_with_slash}
use Rattle.wasi_fs_paths.specs.declared.place.Wish.{Wish}

-- What a path leads to: a directory, where the path has no last name; or a last name in a directory, with the node of
-- that name, where it is there.
pub data Place : Type 0 where
  Inside : ℕ → Place
  Named : ℕ → List ℕ → Option ℕ → Place

-- A WALK: the directories that it came through, the nearest one first, and the one that it reached
pub record Trail : Type 0 where
  pub above : List ℕ
  pub here : ℕ

-- `..` goes back to the directory that the walk came from, and never above the start
abbrev pub back : List ℕ → Result Trail ErrorCode
back [] = Err code.NotPermitted
back (dir ∷ above) = Ok (record { above = above; here = dir })

abbrev pub into_kind : List ℕ → ℕ → ℕ → Option Kind → Result Trail ErrorCode
into_kind above here n None = Err code.NoEntry
into_kind above here n (Some kind.File) = Err code.NotDirectory
into_kind above here n (Some kind.Directory) = Ok (record { above = here ∷ above; here = n })
into_kind above here n (Some kind.Link) = Err code.Loop

-- on into the node of a name
abbrev pub into : List Node → List ℕ → ℕ → Option ℕ → Result Trail ErrorCode
into nodes above here None = Err code.NoEntry
into nodes above here (Some n) = into_kind above here n (kind_at nodes n)

-- past a component that is not the last one
abbrev pub past : List Node → List ℕ → ℕ → List ℕ → Result Trail ErrorCode
past nodes above here name = cond (is_parent name) (back above)
    (unless (ltb 255 (length name)) code.NameTooLong (into nodes above here (entry_at nodes here name)))

abbrev pub reached : Result Trail ErrorCode → Result Place ErrorCode
reached (Ok trail) = Ok (Inside trail.here)
reached (Err code) = Err code

-- what the last component leads to
abbrev pub last : List Node → List ℕ → ℕ → List ℕ → Result Place ErrorCode
last nodes above here name = cond (is_parent name) (reached (back above))
    (unless (ltb 255 (length name)) code.NameTooLong (Ok (Named here name (entry_at nodes here name))))

-- the walk along components
abbrev pub walk : List Node → List ℕ → ℕ → List (List ℕ) → Result Place ErrorCode
walk nodes above here [] = Ok (Inside here)
walk nodes above here (name ∷ []) = last nodes above here name
walk nodes above here (name ∷ next ∷ names) =
    then (past nodes above here name) (λ trail. walk nodes trail.above trail.here (next ∷ names))

abbrev pub settled_kind : Wish → Bool → ℕ → List ℕ → ℕ → Option Kind → Result Place ErrorCode
settled_kind wish slash dir name n None = Ok (Named dir name (Some n))
settled_kind wish slash dir name n (Some kind.File) = unless slash code.NotDirectory (Ok (Named dir name (Some n)))
settled_kind wish slash dir name n (Some kind.Directory) = Ok (Named dir name (Some n))
settled_kind wish slash dir name n (Some kind.Link) =
    unless wish.follow code.Loop (unless slash code.NotDirectory (Ok (Named dir name (Some n))))

-- the rules on what the last name is: absent, a link, or before a trailing slash
abbrev pub settled : List Node → Wish → Bool → Place → Result Place ErrorCode
settled nodes wish slash (Inside dir) = Ok (Inside dir)
settled nodes wish slash (Named dir name None) = unless (not wish.may_make) code.NoEntry (Ok (Named dir name None))
settled nodes wish slash (Named dir name (Some n)) = settled_kind wish slash dir name n (kind_at nodes n)

-- RESOLVING A PATH AT A DIRECTORY
abbrev pub resolved : List Node → ℕ → Wish → List ℕ → Result Place ErrorCode
resolved nodes start wish path =
    unless (is_empty path) code.NoEntry
    (unless (begins_with_slash path) code.NotPermitted
    (then (walk nodes [] start (components path)) (settled nodes wish (ends_with_slash path))))

-- the node that a place has
abbrev pub node_of : Place → Option ℕ
node_of (Inside dir) = Some dir
node_of (Named dir name node) = node

-- THE NODE THAT A PATH NAMES
abbrev pub found : List Node → ℕ → Bool → List ℕ → Result ℕ ErrorCode
found nodes start follow path =
    then (resolved nodes start (record { follow = follow; may_make = false }) path) (λ place. ok_or (node_of place) code.NoEntry)
