use Rattle.wasi_fs_nodes.specs.Climbs.{climbs}
use Rattle.wasi_fs.specs.Calls.{size_set, times_set, times_set_at, directory_created, symlink_made, link_made, removed, file_unlinked, node_renamed}
use Rattle.wasi_fs.specs.LookUps.{advised, stat_of, stat_found, link_read, hash_found}
use Rattle.wasi_fs.specs.Opening.{opened}
use Rattle.wasi_fs.specs.Trees.{node_in, KeepsDescriptors}
use Rattle.wasi_fs_calls.specs.Rule.{answered, pair_answered, is_done, hash_told}
use Rattle.wasi_fs_calls.specs.declared.answers.DescriptorTold.TheVariants as told
use Rattle.wasi_fs_calls.specs.declared.call.DescriptorCall.{DescriptorCall}
use Rattle.wasi_fs_calls.specs.declared.call.DescriptorCall.TheVariants as call
use Rattle.wasi_fs_calls.specs.declared.call.PairCall.{PairCall}
use Rattle.wasi_fs_calls.specs.declared.call.PairCall.TheVariants as pair
use Rattle.wasi_fs_calls.proofs.KeptFacts.{looks_kept, changes_kept, opens_kept, IsMade, looks_made, changes_made, opens_made}
use Rattle.wasi_fs_calls.proofs.laws.calls_keep_descriptors.Goals as goal

pub returns-clause-kept : goal.returns-clause-kept
returns-clause-kept c tree at blocking now it = by_call it
  where
    by_call : (it : DescriptorCall) → KeepsDescriptors tree (answered tree at blocking now it).left
    by_call (call.Advise offset length advice) = looks_kept is_done tree (advised at)
    by_call call.GetFlags = λ at h. h
    by_call call.GetType = λ at h. h
    by_call (call.SetSize size) = changes_kept tree (size_set tree.nodes at size) (c.calls_keep_kinds.ensures.size tree.nodes at size)
    by_call (call.SetTimes access modified) = changes_kept tree (times_set tree.nodes at access modified now) (c.calls_keep_kinds.ensures.times tree.nodes at access modified now)
    by_call (call.SetTimesAt flags path access modified) = changes_kept tree (times_set_at tree.nodes at flags path access modified now) (c.calls_keep_kinds.ensures.times_at tree.nodes at flags path access modified now)
    by_call call.Sync = λ at h. h
    by_call call.SyncData = λ at h. h
    by_call (call.CreateDirectoryAt path) = changes_kept tree (directory_created tree.nodes at path now) (c.calls_keep_kinds.ensures.directory tree.nodes at path now)
    by_call call.Stat = looks_kept told.Stat tree (stat_of tree.nodes (node_in at))
    by_call (call.StatAt flags path) = looks_kept told.Stat tree (stat_found tree.nodes at flags path)
    by_call (call.OpenAt flags path how mode) = opens_kept tree (opened tree.nodes at flags path how mode now blocking) (c.openings_keep_kinds.ensures.kinds tree.nodes at flags path how mode now blocking)
    by_call (call.ReadlinkAt path) = looks_kept told.Text tree (link_read tree.nodes at path)
    by_call (call.RemoveDirectoryAt path) = changes_kept tree (removed tree.nodes at path) (c.calls_keep_kinds.ensures.remove tree.nodes at path)
    by_call (call.SymlinkAt text path) = changes_kept tree (symlink_made tree.nodes at text path now) (c.calls_keep_kinds.ensures.symlink tree.nodes at text path now)
    by_call (call.UnlinkFileAt path) = changes_kept tree (file_unlinked tree.nodes at path) (c.calls_keep_kinds.ensures.unlink tree.nodes at path)
    by_call call.MetadataHash = λ at h. h
    by_call (call.MetadataHashAt flags path) = looks_kept hash_told tree (hash_found tree at flags path)

pub returns-clause-kept_by_two : goal.returns-clause-kept_by_two
returns-clause-kept_by_two c tree at to it = by_call it
  where
    by_call : (it : PairCall) → KeepsDescriptors tree (pair_answered tree at to it).left
    by_call (pair.LinkAt flags path to_path) = changes_kept tree (link_made tree.nodes at flags path to to_path) (c.calls_keep_kinds.ensures.link tree.nodes at flags path to to_path)
    by_call (pair.RenameAt path to_path) = changes_kept tree (node_renamed (climbs tree.nodes) tree.nodes at path to to_path) (c.calls_keep_kinds.ensures.rename (climbs tree.nodes) tree.nodes at path to to_path)
    by_call pair.IsSameObject = λ at h. h

pub returns-clause-made : goal.returns-clause-made
returns-clause-made c tree at blocking now it is_of = by_call it
  where
    by_call : (it : DescriptorCall) → IsMade (answered tree at blocking now it)
    by_call (call.Advise offset length advice) = looks_made is_done tree (advised at)
    by_call call.GetFlags = tt
    by_call call.GetType = tt
    by_call (call.SetSize size) = changes_made tree (size_set tree.nodes at size)
    by_call (call.SetTimes access modified) = changes_made tree (times_set tree.nodes at access modified now)
    by_call (call.SetTimesAt flags path access modified) = changes_made tree (times_set_at tree.nodes at flags path access modified now)
    by_call call.Sync = tt
    by_call call.SyncData = tt
    by_call (call.CreateDirectoryAt path) = changes_made tree (directory_created tree.nodes at path now)
    by_call call.Stat = looks_made told.Stat tree (stat_of tree.nodes (node_in at))
    by_call (call.StatAt flags path) = looks_made told.Stat tree (stat_found tree.nodes at flags path)
    by_call (call.OpenAt flags path how mode) = opens_made tree (opened tree.nodes at flags path how mode now blocking) (c.openings_keep_kinds.ensures.of_tree tree at is_of flags path how mode now blocking)
    by_call (call.ReadlinkAt path) = looks_made told.Text tree (link_read tree.nodes at path)
    by_call (call.RemoveDirectoryAt path) = changes_made tree (removed tree.nodes at path)
    by_call (call.SymlinkAt text path) = changes_made tree (symlink_made tree.nodes at text path now)
    by_call (call.UnlinkFileAt path) = changes_made tree (file_unlinked tree.nodes at path)
    by_call call.MetadataHash = tt
    by_call (call.MetadataHashAt flags path) = looks_made hash_told tree (hash_found tree at flags path)
