-- The changes of a tree's nodes, each with its refusals in their order. A removed directory takes no new entry, and a
-- lack of room is the last refusal of all.
use Rattle.std.specs.Prelude.{ℕ, ◌+◌, List, [], ◌∷◌, length, Option, Some, None, is_some, Result, Ok, Err, Bool, true, false, cond, not, ◌&&◌, ◌||◌, eqb, ltb}
use Rattle.wasi_clocks.specs.declared.datetimes.Datetime.{Datetime}
use Rattle.wasi_fs_nodes.specs.Names.{has_no_names}
use Rattle.wasi_fs_nodes.specs.Nodes.{is_directory, names_at, entry_at, bytes_in, bytes_at, total_bytes, is_removed, all_at}
use Rattle.wasi_fs_nodes.specs.Bodies.{with_new, with_name, with_target, with_parent, without_name, with_bytes, with_size}
use Rattle.wasi_fs_nodes.specs.Outcome.{then, unless, unless_some}
use Rattle.wasi_fs_nodes.specs.Writes.{Limits, passed, place_in, Write, Fault, Refusal, Nothing, Bytes, write_from}
use Rattle.wasi_fs_nodes.specs.declared.at.At.{At}
use Rattle.wasi_fs_nodes.specs.declared.node.Node.{Node}
use Rattle.wasi_fs_nodes.specs.declared.node.Body.TheVariants.{File, Directory, Link}
use Rattle.wasi_fs_types.specs.declared.error_code.ErrorCode.{ErrorCode}
use Rattle.wasi_fs_types.specs.declared.error_code.ErrorCode.TheVariants as code

-- THE LIMITS: bytes of a file, bytes of all files ever made, nodes ever made
abbrev pub file_limit : ℕ
file_limit = 1048576

abbrev pub tree_limit : ℕ
tree_limit = 67108864

abbrev pub node_limit : ℕ
node_limit = 65536

-- NEW NODES
abbrev pub new_file : List ℕ → Option Datetime → Node
new_file bytes now = record { body = File bytes; times = all_at now }

abbrev pub new_directory : ℕ → Option Datetime → Node
new_directory dir now = record { body = Directory dir []; times = all_at now }

abbrev pub new_link : List ℕ → Option Datetime → Node
new_link text now = record { body = Link text; times = all_at now }

-- a tree of its root alone
abbrev pub root_alone : Option Datetime → List Node
root_alone now = new_directory 0 now ∷ []

-- as many nodes as there may be, or too many bytes with so many more
abbrev pub is_full_for : List Node → ℕ → Bool
is_full_for nodes size = ltb node_limit (length nodes + 1) || ltb tree_limit (total_bytes nodes + size)

-- whether a new node of so many bytes may stand under a name
abbrev pub may_make : List Node → ℕ → List ℕ → ℕ → Result (Unit {0}) ErrorCode
may_make nodes dir name size =
    unless (is_some (entry_at nodes dir name)) code.Exist
    (unless (ltb file_limit size) code.FileTooLarge
    (unless (is_removed nodes dir) code.NoEntry
    (unless (is_full_for nodes size) code.InsufficientSpace
    (Ok tt))))

-- a new node under a name
abbrev pub made : List Node → ℕ → List ℕ → Node → Result (List Node) ErrorCode
made nodes dir name node = then (may_make nodes dir name (length (bytes_in node.body))) (λ _. Ok (with_new nodes dir name node))

-- one more name for a node
abbrev pub linked : List Node → ℕ → List ℕ → ℕ → Result (List Node) ErrorCode
linked nodes dir name node =
    unless (is_directory nodes node) code.NotPermitted
    (unless (is_some (entry_at nodes dir name)) code.Exist
    (unless (is_removed nodes dir) code.NoEntry
    (Ok (with_name nodes dir name node))))

-- the name of a file or a link is taken away; its node stays
abbrev pub unlinked_entry : List Node → ℕ → List ℕ → Option ℕ → Result (List Node) ErrorCode
unlinked_entry nodes dir name None = Err code.NoEntry
unlinked_entry nodes dir name (Some node) = unless (is_directory nodes node) code.IsDirectory (Ok (without_name nodes dir name))

abbrev pub unlinked : List Node → ℕ → List ℕ → Result (List Node) ErrorCode
unlinked nodes dir name = unlinked_entry nodes dir name (entry_at nodes dir name)

-- the name of a directory with no entries is taken away; its node stays
abbrev pub removed_entry : List Node → ℕ → List ℕ → Option ℕ → Result (List Node) ErrorCode
removed_entry nodes dir name None = Err code.NoEntry
removed_entry nodes dir name (Some node) =
    unless (not (is_directory nodes node)) code.NotDirectory
    (unless (not (has_no_names (names_at nodes node))) code.NotEmpty
    (Ok (without_name nodes dir name)))

abbrev pub directory_removed : List Node → ℕ → List ℕ → Result (List Node) ErrorCode
directory_removed nodes dir name = removed_entry nodes dir name (entry_at nodes dir name)

-- A NODE TAKES ANOTHER PLACE
-- a name for a node: a new one, or another node's
abbrev pub put_at : List Node → ℕ → List ℕ → ℕ → Option ℕ → List Node
put_at nodes dir name node None = with_name nodes dir name node
put_at nodes dir name node (Some before) = with_target nodes dir name node

abbrev pub moved : List Node → ℕ → List ℕ → ℕ → ℕ → List ℕ → Option ℕ → List Node
moved nodes from name node to to_name target = with_parent (without_name (put_at nodes to to_name node target) from name) node to

abbrev pub is_node : ℕ → Option ℕ → Bool
is_node node None = false
is_node node (Some n) = eqb n node

-- the target is a directory, the source is one, the target has no entries
abbrev pub refusal_by_kind : Bool → Bool → Bool → Option ErrorCode
refusal_by_kind true false empty = Some code.IsDirectory
refusal_by_kind true true false = Some code.NotEmpty
refusal_by_kind true true true = None
refusal_by_kind false true empty = Some code.NotDirectory
refusal_by_kind false false empty = None

-- why a node cannot take the place of what is at the target
abbrev pub target_refusal : List Node → ℕ → Option ℕ → Option ErrorCode
target_refusal nodes node None = None
target_refusal nodes node (Some n) = refusal_by_kind (is_directory nodes n) (is_directory nodes node) (has_no_names (names_at nodes n))

-- 'below' tells whether one directory lies below another
abbrev pub renamed_onto : (ℕ → ℕ → Bool) → List Node → ℕ → List ℕ → Option ℕ → ℕ → List ℕ → Option ℕ → Result (List Node) ErrorCode
renamed_onto below nodes from name None to to_name target = Err code.NoEntry
renamed_onto below nodes from name (Some node) to to_name target =
    cond (is_node node target) (Ok nodes)
    (unless (is_directory nodes node && below node to) code.Invalid
    (unless_some (target_refusal nodes node target)
    (unless (is_removed nodes to) code.NoEntry
    (Ok (moved nodes from name node to to_name target)))))

abbrev pub renamed : (ℕ → ℕ → Bool) → List Node → ℕ → List ℕ → ℕ → List ℕ → Result (List Node) ErrorCode
renamed below nodes from name to to_name = renamed_onto below nodes from name (entry_at nodes from name) to to_name (entry_at nodes to to_name)

-- THE BYTES OF A FILE
abbrev pub limits_of : List Node → Limits
limits_of nodes = record { file = file_limit; all = tree_limit; total = total_bytes nodes }

-- cut, or filled with zeros
abbrev pub sized : List Node → ℕ → ℕ → Result (List Node) ErrorCode
sized nodes file size = unless_some (passed (Some (limits_of nodes)) (length (bytes_at nodes file)) size) (Ok (with_size nodes file size))

abbrev pub nodes_after : List Node → ℕ → Write → Result (List Node) ErrorCode
nodes_after nodes file (Fault code) = Err code
nodes_after nodes file (Refusal code) = Err code
nodes_after nodes file Nothing = Ok nodes
nodes_after nodes file (Bytes now) = Ok (with_bytes nodes file now)

-- bytes from a place on
abbrev pub wrote : List Node → ℕ → At → List ℕ → Result (List Node) ErrorCode
wrote nodes file to more =
    nodes_after nodes file (write_from (Some (limits_of nodes)) (bytes_at nodes file) (place_in 0 (length (bytes_at nodes file)) to) more)
