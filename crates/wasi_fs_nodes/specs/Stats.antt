-- What is told of a node, and of the entries of a directory.
use Rattle.std.specs.Prelude.{ℕ, List, [], ◌∷◌, Option, Some, None, cond, eqb, slice_get}
use Rattle.wasi_fs_nodes.specs.Nodes.{kind_of, size_in, links_of}
use Rattle.wasi_fs_nodes.specs.declared.node.Node.{Node}
use Rattle.wasi_fs_nodes.specs.declared.stats.Stat.{Stat}
use Rattle.wasi_fs_nodes.specs.declared.stats.Entry.{Entry}

-- a node's kind, the entries that name it, 1 for the root, its size and its times
abbrev pub stat_of : List Node → ℕ → Option Node → Option Stat
stat_of nodes n None = None
stat_of nodes n (Some node) =
    Some (record { kind = kind_of node.body; links = cond (eqb n 0) 1 (links_of nodes n); size = size_in node.body; times = node.times })

abbrev pub stat_at : List Node → ℕ → Option Stat
stat_at nodes n = stat_of nodes n (slice_get nodes n)

-- entries as pairs of a name and a node
abbrev pub pairs_of : List Entry → List (List ℕ × ℕ)
pairs_of [] = []
pairs_of (e ∷ es) = (e.name, e.node) ∷ pairs_of es
