-- The nodes after a change of what one of them holds.
use Rattle.std.specs.Prelude.{ℕ, zero, suc, List, [], ◌∷◌, ◌++◌, length, Option}
use Rattle.wasi_clocks.specs.declared.datetimes.Datetime.{Datetime}
use Rattle.wasi_fs_nodes.specs.Content.{written, resized}
use Rattle.wasi_fs_nodes.specs.Names.{with_entry, without_entry, with_other}
use Rattle.wasi_fs_nodes.specs.Nodes.{bytes_at, times_with}
use Rattle.wasi_fs_nodes.specs.declared.node.Node.{Node}
use Rattle.wasi_fs_nodes.specs.declared.node.Body.{Body}
use Rattle.wasi_fs_nodes.specs.declared.node.Body.TheVariants.{File, Directory, Link}

abbrev pub body_with_name : List ℕ → ℕ → Body → Body
body_with_name name node (File bytes) = File bytes
body_with_name name node (Directory parent names) = Directory parent (with_entry names name node)
body_with_name name node (Link text) = Link text

abbrev pub body_with_other : List ℕ → ℕ → Body → Body
body_with_other name node (File bytes) = File bytes
body_with_other name node (Directory parent names) = Directory parent (with_other names name node)
body_with_other name node (Link text) = Link text

abbrev pub body_with_parent : ℕ → Body → Body
body_with_parent dir (File bytes) = File bytes
body_with_parent dir (Directory parent names) = Directory dir names
body_with_parent dir (Link text) = Link text

abbrev pub body_without_name : List ℕ → Body → Body
body_without_name name (File bytes) = File bytes
body_without_name name (Directory parent names) = Directory parent (without_entry names name)
body_without_name name (Link text) = Link text

abbrev pub body_with_bytes : List ℕ → Body → Body
body_with_bytes now (File bytes) = File now
body_with_bytes now (Directory parent names) = Directory parent names
body_with_bytes now (Link text) = Link text

abbrev pub body_resized : ℕ → Body → Body
body_resized size (File bytes) = File (resized bytes size)
body_resized size (Directory parent names) = Directory parent names
body_resized size (Link text) = Link text

-- with another body at a number
abbrev pub with_body : (Body → Body) → List Node → ℕ → List Node
with_body f [] n = []
with_body f (x ∷ xs) zero = record x { body = f x.body } ∷ xs
with_body f (x ∷ xs) (suc n) = x ∷ with_body f xs n

-- with a new name in a directory for a node
abbrev pub with_name : List Node → ℕ → List ℕ → ℕ → List Node
with_name nodes dir name node = with_body (body_with_name name node) nodes dir

-- with another node under a name that is there
abbrev pub with_target : List Node → ℕ → List ℕ → ℕ → List Node
with_target nodes dir name node = with_body (body_with_other name node) nodes dir

-- without a name
abbrev pub without_name : List Node → ℕ → List ℕ → List Node
without_name nodes dir name = with_body (body_without_name name) nodes dir

-- with a directory that stands in another; a file or a link stays as it was
abbrev pub with_parent : List Node → ℕ → ℕ → List Node
with_parent nodes n dir = with_body (body_with_parent dir) nodes n

-- with other bytes in a file, and the same times
abbrev pub with_bytes : List Node → ℕ → List ℕ → List Node
with_bytes nodes file now = with_body (body_with_bytes now) nodes file

-- with bytes over those of a file from a place on
abbrev pub with_written : List Node → ℕ → ℕ → List ℕ → List Node
with_written nodes file place more = with_bytes nodes file (written (bytes_at nodes file) place more)

-- with a file that is cut to a size, or filled with zeros
abbrev pub with_size : List Node → ℕ → ℕ → List Node
with_size nodes file size = with_body (body_resized size) nodes file

-- with a new node, whose number is the next one, under a new name
abbrev pub with_new : List Node → ℕ → List ℕ → Node → List Node
with_new nodes dir name node = with_name nodes dir name (length nodes) ++ node ∷ []

-- with other times of a node for access and for the change of its bytes, where they are told
abbrev pub with_times : List Node → ℕ → Option Datetime → Option Datetime → List Node
with_times [] n access modification = []
with_times (x ∷ xs) zero access modification = record x { times = times_with access modification x.times } ∷ xs
with_times (x ∷ xs) (suc n) access modification = x ∷ with_times xs n access modification
