-- What is kept beside the nodes: how many entries name each one, and the sum of the files' sizes.
use Rattle.std.specs.Prelude.{◌≡◌, ℕ, ◌≤◌, List, map, length, slice_index}
use Rattle.wasi_fs_nodes.specs.Nodes.{total_bytes, links_of}
use Rattle.wasi_fs_nodes.specs.Shape.{IsSound}
use Rattle.wasi_fs_nodes.specs.declared.node.Node.{Node}
use Rattle.wasi_fs_nodes.specs.declared.rows.Row.{Row}

abbrev pub nodes_in : List Row → List Node
nodes_in rows = map (λ (r : Row). r.node) rows

abbrev pub links_list : List Row → List ℕ
links_list rows = map (λ (r : Row). r.links) rows

-- what is kept is what the nodes add up to
pub record IsCounted (rows : List Row) (bytes : ℕ) : Type 0 where
  pub sum : bytes ≡ total_bytes (nodes_in rows)
  pub links : (n : ℕ) → slice_index (links_list rows) n ≡ links_of (nodes_in rows) n
  pub shape : IsSound (nodes_in rows)
  pub room : bytes ≤ 67108864
  pub few : length rows ≤ 65536
