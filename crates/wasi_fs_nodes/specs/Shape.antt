-- The shape that the nodes of every tree have.
use Rattle.std.specs.Prelude.{◌≡◌, ℕ, ◌<◌, ◌≤◌, List, [], length, Some}
use Rattle.std.specs.Map.{keys_of}
use Rattle.wasi_fs_nodes.specs.Names.{IsAscending}
use Rattle.wasi_fs_nodes.specs.Nodes.{kind_of, kind_at, parent_in, parent_at, names_in, names_at, entry_at, links_of}
use Rattle.wasi_fs_nodes.specs.declared.node.Node.{Node}
use Rattle.wasi_fs_nodes.specs.declared.node.Kind.{Kind}
use Rattle.wasi_fs_nodes.specs.declared.node.Kind.TheVariants.{Directory}

-- the root is a directory, and each directory names one as its parent
pub record IsRooted (nodes : List Node) : Type 0 where
  pub root : kind_at nodes 0 ≡ Some Directory
  pub parents : (n : ℕ) → kind_at nodes n ≡ Some Directory → kind_at nodes (parent_at nodes n) ≡ Some Directory

-- each entry names a node that was made
abbrev pub NamesNodes : List Node → Type 0
NamesNodes nodes = (dir : ℕ) (name : List ℕ) (n : ℕ) → entry_at nodes dir name ≡ Some n → n < length nodes

-- the directory that has another one as an entry is the one that this names as its parent
abbrev pub KnowParents : List Node → Type 0
KnowParents nodes = (dir : ℕ) (name : List ℕ) (n : ℕ) → entry_at nodes dir name ≡ Some n → kind_at nodes n ≡ Some Directory → parent_at nodes n ≡ dir

-- A SOUND TREE
pub record IsSound (nodes : List Node) : Type 0 where
  pub rooted : IsRooted nodes
  -- the root stands in no directory
  pub top : links_of nodes 0 ≡ 0
  pub named : NamesNodes nodes
  pub ordered : (dir : ℕ) → IsAscending (keys_of (names_at nodes dir))
  -- each directory stands in its parent, and in no other ..
  pub stands : KnowParents nodes
  -- .. under one name; a removed one, under none
  pub once : (n : ℕ) → kind_at nodes n ≡ Some Directory → links_of nodes n ≤ 1

-- a new node of a directory: it has no names, and is no other directory's
pub record IsFresh (nodes : List Node) (dir : ℕ) (node : Node) : Type 0 where
  pub empty : names_in node.body ≡ []
  pub stands : kind_of node.body ≡ Directory → parent_in node.body ≡ dir

-- a node that was made stays what it is
abbrev pub KindsStay : List Node → List Node → Type 0
KindsStay old new = (n : ℕ) (k : Kind) → kind_at old n ≡ Some k → kind_at new n ≡ Some k
