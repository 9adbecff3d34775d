-- Whether a directory lies below another, told by going up by the parents that directories name.
use Rattle.std.specs.Prelude.{ℕ, zero, suc, List, length, Bool, true, false, cond, eqb}
use Rattle.wasi_fs_nodes.specs.Nodes.{links_of, parent_at}
use Rattle.wasi_fs_nodes.specs.declared.node.Node.{Node}

-- whether the directory is met within so many steps
abbrev pub climbs_to : ℕ → List Node → ℕ → ℕ → Bool
climbs_to zero nodes top dir = false
climbs_to (suc n) nodes top dir = cond (eqb dir top) true (cond (eqb (links_of nodes dir) 0) false (climbs_to n nodes top (parent_at nodes dir)))

-- no way up is longer than there are nodes
abbrev pub climbs : List Node → ℕ → ℕ → Bool
climbs nodes top dir = climbs_to (length nodes) nodes top dir
