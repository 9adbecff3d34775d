use Rattle.wasi_fs.specs.Calls.{size_set, times_set, times_set_at, directory_created, symlink_made, removed, file_unlinked}
use Rattle.wasi_fs.specs.LookUps.{advised, stat_of, stat_found, link_read, hash_found}
use Rattle.std.proofs.Common.{refl}
use Rattle.wasi_fs.specs.Opening.{opened}
use Rattle.wasi_fs.specs.Trees.{node_in}
use Rattle.wasi_fs_calls.specs.Rule.{answered, is_done, hash_told}
use Rattle.wasi_fs_calls.specs.declared.answers.DescriptorTold.TheVariants as told
use Rattle.wasi_fs_calls.specs.declared.call.DescriptorCall.{DescriptorCall}
use Rattle.wasi_fs_calls.specs.declared.call.DescriptorCall.TheVariants as call
use Rattle.wasi_fs_calls.proofs.RefusedFacts.{LeavesRefused, looks_refused, changes_refused, opens_refused}
use Rattle.wasi_fs_calls.proofs.laws.refused_calls_change_nothing.Goals as goal

pub returns-clause-one : goal.returns-clause-one
returns-clause-one c tree at blocking now it = by_call it
  where
    by_call : (it : DescriptorCall) → LeavesRefused tree (answered tree at blocking now it)
    by_call (call.Advise offset length advice) = looks_refused is_done tree (advised at)
    by_call call.GetFlags = λ refused. refl
    by_call call.GetType = λ refused. refl
    by_call (call.SetSize size) = changes_refused tree (size_set tree.nodes at size)
    by_call (call.SetTimes access modified) = changes_refused tree (times_set tree.nodes at access modified now)
    by_call (call.SetTimesAt flags path access modified) = changes_refused tree (times_set_at tree.nodes at flags path access modified now)
    by_call call.Sync = λ refused. refl
    by_call call.SyncData = λ refused. refl
    by_call (call.CreateDirectoryAt path) = changes_refused tree (directory_created tree.nodes at path now)
    by_call call.Stat = looks_refused told.Stat tree (stat_of tree.nodes (node_in at))
    by_call (call.StatAt flags path) = looks_refused told.Stat tree (stat_found tree.nodes at flags path)
    by_call (call.OpenAt flags path how mode) = opens_refused tree (opened tree.nodes at flags path how mode now blocking)
    by_call (call.ReadlinkAt path) = looks_refused told.Text tree (link_read tree.nodes at path)
    by_call (call.RemoveDirectoryAt path) = changes_refused tree (removed tree.nodes at path)
    by_call (call.SymlinkAt text path) = changes_refused tree (symlink_made tree.nodes at text path now)
    by_call (call.UnlinkFileAt path) = changes_refused tree (file_unlinked tree.nodes at path)
    by_call call.MetadataHash = λ refused. refl
    by_call (call.MetadataHashAt flags path) = looks_refused hash_told tree (hash_found tree at flags path)
