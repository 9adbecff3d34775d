-- What a call makes, as a node.
use Rattle.std.specs.Prelude.{ℕ, Option}
use Rattle.wasi_clocks.specs.declared.datetimes.Datetime.{Datetime}
use Rattle.wasi_fs_nodes.specs.Changes.{new_file, new_directory, new_link}
use Rattle.wasi_fs_nodes.specs.declared.node.Node.{Node}
use Rattle.wasi_fs.specs.declared.making.New.{New}
use Rattle.wasi_fs.specs.declared.making.New.TheVariants.{Directory, File, Link}

-- the node with its three times, by the directory that it stands in
abbrev pub node_for : New → Option Datetime → ℕ → Node
node_for Directory time dir = new_directory dir time
node_for (File bytes) time dir = new_file bytes.now time
node_for (Link text) time dir = new_link text.now time
