-- The walk as the code does it: by how deep it stands below its start, and by the parent that each directory names.
use Rattle.std.specs.Prelude.{ℕ, zero, suc, List, [], ◌∷◌, length, Option, Some, None, Result, Ok, Err, cond, ltb}
use Rattle.wasi_fs_types.specs.declared.error_code.ErrorCode.{ErrorCode}
use Rattle.wasi_fs_types.specs.declared.error_code.ErrorCode.TheVariants as code
use Rattle.wasi_fs_nodes.specs.Nodes.{kind_at, entry_at, parent_at}
use Rattle.wasi_fs_nodes.specs.Outcome.{then, unless}
use Rattle.wasi_fs_nodes.specs.declared.node.Node.{Node}
use Rattle.wasi_fs_nodes.specs.declared.node.Kind.{Kind}
use Rattle.wasi_fs_nodes.specs.declared.node.Kind.TheVariants as kind
use Rattle.wasi_fs_paths.specs.Components.{is_parent}
use Rattle.wasi_fs_paths.specs.Paths.{Place, Inside, Named}
use Rattle.wasi_fs_paths.specs.declared.walk.Stand.{Stand}

-- one directory stand_back, never above the start
abbrev pub stand_back : List Node → ℕ → ℕ → Result Stand ErrorCode
stand_back nodes zero here = Err code.NotPermitted
stand_back nodes (suc depth) here = Ok (record { depth = depth; here = parent_at nodes here })

abbrev pub stand_into_kind : ℕ → ℕ → Option Kind → Result Stand ErrorCode
stand_into_kind depth n None = Err code.NoEntry
stand_into_kind depth n (Some kind.File) = Err code.NotDirectory
stand_into_kind depth n (Some kind.Directory) = Ok (record { depth = suc depth; here = n })
stand_into_kind depth n (Some kind.Link) = Err code.Loop

-- on stand_into the node of a name
abbrev pub stand_into : List Node → ℕ → Option ℕ → Result Stand ErrorCode
stand_into nodes depth None = Err code.NoEntry
stand_into nodes depth (Some n) = stand_into_kind depth n (kind_at nodes n)

-- where the stand_walk stands after a component that is not the stand_last one
abbrev pub stand_past : List Node → ℕ → ℕ → List ℕ → Result Stand ErrorCode
stand_past nodes depth here name = cond (is_parent name) (stand_back nodes depth here)
    (unless (ltb 255 (length name)) code.NameTooLong (stand_into nodes depth (entry_at nodes here name)))

abbrev pub stand_inside : Result Stand ErrorCode → Result Place ErrorCode
stand_inside (Ok stand) = Ok (Inside stand.here)
stand_inside (Err code) = Err code

-- what the stand_last component leads to
abbrev pub stand_last : List Node → ℕ → ℕ → List ℕ → Result Place ErrorCode
stand_last nodes depth here name = cond (is_parent name) (stand_inside (stand_back nodes depth here))
    (unless (ltb 255 (length name)) code.NameTooLong (Ok (Named here name (entry_at nodes here name))))

-- the stand_walk along components, from a directory that lies some way below the start
abbrev pub stand_walk : List Node → ℕ → ℕ → List (List ℕ) → Result Place ErrorCode
stand_walk nodes depth here [] = Ok (Inside here)
stand_walk nodes depth here (name ∷ []) = stand_last nodes depth here name
stand_walk nodes depth here (name ∷ next ∷ names) =
    then (stand_past nodes depth here name) (λ stand. stand_walk nodes stand.depth stand.here (next ∷ names))
