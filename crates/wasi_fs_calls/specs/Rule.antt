-- What each call on a descriptor answers, and the tree after it.
use Rattle.std.specs.Prelude.{◌≡◌, List, Result, Ok, Err, Bool, true, false}
use Rattle.wasi_base.specs.declared.out_of_memory.OutOfMemory.{OutOfMemory}
use Rattle.wasi_clocks.specs.declared.wall_times.WallTime.{WallTime}
use Rattle.wasi_fs_types.specs.declared.error_code.ErrorCode.{ErrorCode}
use Rattle.wasi_fs_types.specs.declared.descriptor.MetadataHashValue.{MetadataHashValue}
use Rattle.wasi_fs_nodes.specs.Climbs.{climbs}
use Rattle.wasi_fs_nodes.specs.declared.node.Node.{Node}
use Rattle.wasi_fs.specs.Calls.{size_set, times_set, times_set_at, directory_created, symlink_made, link_made, removed, file_unlinked, node_renamed}
use Rattle.wasi_fs.specs.LookUps.{advised, flags_in, type_in, stat_of, stat_found, link_read, is_same, hash_of, hash_found}
use Rattle.wasi_fs.specs.Opening.{opened}
use Rattle.wasi_fs.specs.Trees.{TreeState, with_nodes, node_in, IsOf}
use Rattle.wasi_fs.specs.declared.descriptor.Descriptor.{Descriptor}
use Rattle.wasi_fs_calls.specs.declared.answers.DescriptorAnswer.{DescriptorAnswer}
use Rattle.wasi_fs_calls.specs.declared.answers.DescriptorAnswer.TheVariants.{Told, Opened}
use Rattle.wasi_fs_calls.specs.declared.answers.DescriptorTold.{DescriptorTold}
use Rattle.wasi_fs_calls.specs.declared.answers.DescriptorTold.TheVariants as told
use Rattle.wasi_fs_calls.specs.declared.call.DescriptorCall.{DescriptorCall}
use Rattle.wasi_fs_calls.specs.declared.call.DescriptorCall.TheVariants as call
use Rattle.wasi_fs_calls.specs.declared.call.PairCall.{PairCall}
use Rattle.wasi_fs_calls.specs.declared.call.PairCall.TheVariants as pair

-- what a call answers, and the tree that it leaves
pub record Outcome : Type 0 where
  pub answer : DescriptorAnswer
  pub left : TreeState

abbrev pub tells : TreeState → DescriptorTold → Outcome
tells tree it = record { answer = Told it; left = tree }

-- a look-up leaves the tree as it was
abbrev pub looks : {A : Type 0} → (A → DescriptorTold) → TreeState → Result A ErrorCode → Outcome
looks tell tree (Ok a) = tells tree (tell a)
looks tell tree (Err code) = tells tree (told.Err code)

-- a change leaves other nodes, unless it is refused
abbrev pub changes : TreeState → Result (List Node) ErrorCode → Outcome
changes tree (Ok nodes) = tells (with_nodes tree nodes) told.Ok
changes tree (Err code) = tells tree (told.Err code)

-- an opening makes a descriptor, and may make a file or empty one
abbrev pub opens : TreeState → Result (Descriptor × List Node) ErrorCode → Outcome
opens tree (Ok it) = record { answer = Opened it.0; left = with_nodes tree it.1 }
opens tree (Err code) = tells tree (told.Err code)

abbrev pub is_done : Unit {0} → DescriptorTold
is_done done = told.Ok

-- of a hash the caller is told the node; it knows the tree
abbrev pub hash_told : MetadataHashValue → DescriptorTold
hash_told hash = told.Hash hash.lower

-- A CALL ON ONE DESCRIPTOR, by whether its context's streams work at once, and by what the wall clock reads
abbrev pub answered : TreeState → Descriptor → Bool → WallTime → DescriptorCall → Outcome
answered tree at blocking now (call.Advise offset length advice) = looks is_done tree (advised at)
answered tree at blocking now call.GetFlags = tells tree (told.Flags (flags_in at))
answered tree at blocking now call.GetType = tells tree (told.Type (type_in at))
answered tree at blocking now (call.SetSize size) = changes tree (size_set tree.nodes at size)
answered tree at blocking now (call.SetTimes access modified) = changes tree (times_set tree.nodes at access modified now)
answered tree at blocking now (call.SetTimesAt flags path access modified) = changes tree (times_set_at tree.nodes at flags path access modified now)
answered tree at blocking now call.Sync = tells tree told.Ok
answered tree at blocking now call.SyncData = tells tree told.Ok
answered tree at blocking now (call.CreateDirectoryAt path) = changes tree (directory_created tree.nodes at path now)
answered tree at blocking now call.Stat = looks told.Stat tree (stat_of tree.nodes (node_in at))
answered tree at blocking now (call.StatAt flags path) = looks told.Stat tree (stat_found tree.nodes at flags path)
answered tree at blocking now (call.OpenAt flags path how mode) = opens tree (opened tree.nodes at flags path how mode now blocking)
answered tree at blocking now (call.ReadlinkAt path) = looks told.Text tree (link_read tree.nodes at path)
answered tree at blocking now (call.RemoveDirectoryAt path) = changes tree (removed tree.nodes at path)
answered tree at blocking now (call.SymlinkAt text path) = changes tree (symlink_made tree.nodes at text path now)
answered tree at blocking now (call.UnlinkFileAt path) = changes tree (file_unlinked tree.nodes at path)
answered tree at blocking now call.MetadataHash = tells tree (hash_told (hash_of tree (node_in at)))
answered tree at blocking now (call.MetadataHashAt flags path) = looks hash_told tree (hash_found tree at flags path)

-- A CALL ON TWO DESCRIPTORS; of directories that are renamed, the way up tells which lie below which
abbrev pub pair_answered : TreeState → Descriptor → Descriptor → PairCall → Outcome
pair_answered tree at to (pair.LinkAt flags path to_path) = changes tree (link_made tree.nodes at flags path to to_path)
pair_answered tree at to (pair.RenameAt path to_path) = changes tree (node_renamed (climbs tree.nodes) tree.nodes at path to to_path)
pair_answered tree at to pair.IsSameObject = tells tree (told.Truth (is_same at to))

-- WHICH CALLS TAKE MEMORY: no other answers that there is none
abbrev pub takes_memory : DescriptorCall → Bool
takes_memory (call.SetSize size) = true
takes_memory (call.CreateDirectoryAt path) = true
takes_memory (call.OpenAt flags path how mode) = true
takes_memory (call.ReadlinkAt path) = true
takes_memory (call.SymlinkAt text path) = true
takes_memory other = false

abbrev pub pair_takes_memory : PairCall → Bool
pair_takes_memory (pair.LinkAt flags path to_path) = true
pair_takes_memory (pair.RenameAt path to_path) = true
pair_takes_memory pair.IsSameObject = false

abbrev pub is_refusal : DescriptorAnswer → Bool
is_refusal (Told (told.Err code)) = true
is_refusal other = false

-- a descriptor that is made is of the tree
abbrev pub IsMadeIn : TreeState → DescriptorAnswer → Type 0
IsMadeIn tree (Told it) = Unit {0}
IsMadeIn tree (Opened at) = IsOf tree at

-- no descriptor is made
abbrev pub IsTold : DescriptorAnswer → Type 0
IsTold (Told it) = Unit {0}
IsTold (Opened at) = ⊥

-- WHAT THE CODE ANSWERS AND LEAVES: the rule's, or there is no memory. That comes only where the call is not refused, and
-- changes nothing.
abbrev pub Answers : TreeState → TreeState → Result DescriptorAnswer OutOfMemory → Outcome → Type 0
Answers old new (Ok answer) outcome = outcome ≡ record { answer = answer; left = new }
Answers old new (Err memory) outcome = (is_refusal outcome.answer ≡ false) × (new ≡ old)
