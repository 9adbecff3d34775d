-- The nodes of a tree, and what they hold. They are a list: the node of a number stands at that place, and the next
-- number is the list's length. The root is node 0.
use Rattle.std.specs.Prelude.{◌≡◌, ◌↔◌, IsTrue, ℕ, ◌+◌, List, [], ◌∷◌, length, Option, Some, None, Bool, true, false, cond, eqb, slice_get}
use Rattle.wasi_clocks.specs.declared.datetimes.Datetime.{Datetime}
use Rattle.wasi_fs_nodes.specs.Names.{entry_of}
use Rattle.wasi_fs_nodes.specs.declared.node.Node.{Node}
use Rattle.wasi_fs_nodes.specs.declared.node.Times.{Times}
use Rattle.wasi_fs_nodes.specs.declared.node.Body.{Body}
use Rattle.wasi_fs_nodes.specs.declared.node.Body.TheVariants.{File, Directory, Link}
use Rattle.wasi_fs_nodes.specs.declared.node.Kind.{Kind}
use Rattle.wasi_fs_nodes.specs.declared.node.Kind.TheVariants as kinds

abbrev pub body_of : Option Node → Option Body
body_of None = None
body_of (Some node) = Some node.body

abbrev pub body_at : List Node → ℕ → Option Body
body_at nodes n = body_of (slice_get nodes n)

abbrev pub kind_of : Body → Kind
kind_of (File bytes) = kinds.File
kind_of (Directory parent names) = kinds.Directory
kind_of (Link text) = kinds.Link

abbrev pub kind_of_body : Option Body → Option Kind
kind_of_body None = None
kind_of_body (Some body) = Some (kind_of body)

-- what the node of a number is
abbrev pub kind_at : List Node → ℕ → Option Kind
kind_at nodes n = kind_of_body (body_at nodes n)

abbrev pub is_directory_kind : Option Kind → Bool
is_directory_kind None = false
is_directory_kind (Some kinds.File) = false
is_directory_kind (Some kinds.Directory) = true
is_directory_kind (Some kinds.Link) = false

abbrev pub is_directory : List Node → ℕ → Bool
is_directory nodes n = is_directory_kind (kind_at nodes n)

abbrev pub names_in : Body → List (List ℕ × ℕ)
names_in (File bytes) = []
names_in (Directory parent names) = names
names_in (Link text) = []

abbrev pub names_of : Option Body → List (List ℕ × ℕ)
names_of None = []
names_of (Some body) = names_in body

-- the names in a directory
abbrev pub names_at : List Node → ℕ → List (List ℕ × ℕ)
names_at nodes dir = names_of (body_at nodes dir)

-- THE MAP FROM (DIRECTORY, NAME) TO A NODE
abbrev pub entry_at : List Node → ℕ → List ℕ → Option ℕ
entry_at nodes dir name = entry_of (names_at nodes dir) name

abbrev pub parent_in : Body → ℕ
parent_in (File bytes) = 0
parent_in (Directory parent names) = parent
parent_in (Link text) = 0

abbrev pub parent_of : Option Body → ℕ
parent_of None = 0
parent_of (Some body) = parent_in body

-- the directory that a directory stands in; a removed one keeps it
abbrev pub parent_at : List Node → ℕ → ℕ
parent_at nodes dir = parent_of (body_at nodes dir)

abbrev pub bytes_in : Body → List ℕ
bytes_in (File bytes) = bytes
bytes_in (Directory parent names) = []
bytes_in (Link text) = []

abbrev pub bytes_of : Option Body → List ℕ
bytes_of None = []
bytes_of (Some body) = bytes_in body

-- the bytes of a file
abbrev pub bytes_at : List Node → ℕ → List ℕ
bytes_at nodes n = bytes_of (body_at nodes n)

abbrev pub text_in : Body → Option (List ℕ)
text_in (File bytes) = None
text_in (Directory parent names) = None
text_in (Link text) = Some text

abbrev pub text_of : Option Body → Option (List ℕ)
text_of None = None
text_of (Some body) = text_in body

-- the text of a link
abbrev pub text_at : List Node → ℕ → Option (List ℕ)
text_at nodes n = text_of (body_at nodes n)

-- the bytes of a file or of a link's text
abbrev pub size_in : Body → ℕ
size_in (File bytes) = length bytes
size_in (Directory parent names) = 0
size_in (Link text) = length text

-- the three times of a node that is made now
abbrev pub all_at : Option Datetime → Times
all_at now = record { access = now; modification = now; status_change = now }

abbrev pub or_else : Option Datetime → Option Datetime → Option Datetime
or_else None before = before
or_else (Some time) before = Some time

-- with other times for access and for the change of the bytes, where they are told
abbrev pub times_with : Option Datetime → Option Datetime → Times → Times
times_with access modification times =
    record times { access = or_else access times.access; modification = or_else modification times.modification }

-- how many names a list has for a node
abbrev pub names_for : ℕ → List (List ℕ × ℕ) → ℕ
names_for n [] = 0
names_for n (e ∷ names) = cond (eqb e.1 n) 1 0 + names_for n names

-- how many entries name a node
unfoldable pub links_of : List Node → ℕ → ℕ
links_of [] n = 0
links_of (node ∷ nodes) n = names_for n (names_in node.body) + links_of nodes n

-- the sum of the present sizes of all files ever made
unfoldable pub total_bytes : List Node → ℕ
total_bytes [] = 0
total_bytes (node ∷ nodes) = length (bytes_in node.body) + total_bytes nodes

-- a directory, not the root, that no entry names any more
abbrev pub is_removed : List Node → ℕ → Bool
is_removed nodes dir = cond (eqb dir 0) false (eqb (links_of nodes dir) 0)

-- A NODE LIES BELOW A DIRECTORY where it is the directory, or an entry of one that lies below it. So what no entry names
-- lies below nothing but itself.
pub data LiesBelow (nodes : List Node) (top : ℕ) : ℕ → Type 0 where
  itself : LiesBelow nodes top top
  inside : (dir : ℕ) (name : List ℕ) (n : ℕ) → LiesBelow nodes top dir → entry_at nodes dir name ≡ Some n → LiesBelow nodes top n

-- a test that tells, for each two directories, whether the second one lies below the first
abbrev pub TellsBelow : List Node → (ℕ → ℕ → Bool) → Type 0
TellsBelow nodes below = (top dir : ℕ) → kind_at nodes dir ≡ Some kinds.Directory → IsTrue (below top dir) ↔ LiesBelow nodes top dir
