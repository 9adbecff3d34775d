-- Places as the code has them, and what holds of each place that a path leads to.
use Rattle.std.specs.Prelude.{◌≡◌, ℕ, ◌≤◌, List, length, Option, Some, Result, Ok, Err}
use Rattle.wasi_fs_types.specs.declared.error_code.ErrorCode.{ErrorCode}
use Rattle.wasi_fs_nodes.specs.Nodes.{kind_at, entry_at}
use Rattle.wasi_fs_nodes.specs.declared.node.Node.{Node}
use Rattle.wasi_fs_nodes.specs.declared.node.Kind.TheVariants.{Directory}
use Rattle.wasi_fs_paths.specs.Paths.{Place, Inside, Named}
use Rattle.wasi_fs_paths.specs.declared.place.Place.{Place as Lent}
use Rattle.wasi_fs_paths.specs.declared.place.Place.TheVariants as lent

-- a place with its name's bytes
abbrev pub place_of : Lent → Place
place_of (lent.Inside dir) = Inside dir
place_of (lent.Named dir name node) = Named dir name.now node

abbrev pub place_result : Result Lent ErrorCode → Result Place ErrorCode
place_result (Ok place) = Ok (place_of place)
place_result (Err code) = Err code

pub record IsNamed (nodes : List Node) (dir : ℕ) (name : List ℕ) (node : Option ℕ) : Type 0 where
  pub directory : kind_at nodes dir ≡ Some Directory
  pub node_is : node ≡ entry_at nodes dir name
  pub short : length name ≤ 255

-- the place is in a directory, and has what stands there
abbrev pub IsPlace : List Node → Place → Type 0
IsPlace nodes (Inside dir) = kind_at nodes dir ≡ Some Directory
IsPlace nodes (Named dir name node) = IsNamed nodes dir name node
