-- A tree as a store of its files.
use Rattle.std.specs.Prelude.{◌≡◌, ℕ, List, Some}
use Rattle.wasi_fs_nodes.specs.Nodes.{kind_at, bytes_at}
use Rattle.wasi_fs_nodes.specs.Bodies.{with_bytes}
use Rattle.wasi_fs_nodes.specs.Changes.{limits_of}
use Rattle.wasi_fs_nodes.specs.declared.node.Kind.TheVariants as kind
use Rattle.wasi_fs.specs.Stores.{Told}
use Rattle.wasi_fs.specs.Trees.{TreeState, with_nodes}

-- its limits are those of its nodes, and count all files ever made
abbrev pub tree_told : TreeState → Told
tree_told tree = record {
  least = 0;
  limits = Some (limits_of tree.nodes);
  planned = tree.planned;
  faults = tree.faults;
}

-- a number names a file where its node was made as one, and no two name the same
abbrev pub HasFile : TreeState → ℕ → Type 0
HasFile tree file = kind_at tree.nodes file ≡ Some kind.File

abbrev pub bytes_of_file : TreeState → ℕ → List ℕ
bytes_of_file tree file = bytes_at tree.nodes file

-- a file with other bytes and the same times, and all else as it was
abbrev pub with_file : TreeState → ℕ → List ℕ → TreeState
with_file tree file now = with_nodes tree (with_bytes tree.nodes file now)
