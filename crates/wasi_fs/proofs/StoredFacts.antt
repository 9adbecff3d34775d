-- A read or a write of a file keeps each descriptor of the tree.
use Rattle.std.proofs.Common.{ℕ, List, Result, Ok, Err, refl, ◌∙◌}
use Rattle.wasi_fs_types.specs.declared.error_code.ErrorCode.{ErrorCode}
use Rattle.wasi_fs_nodes.specs.declared.store_error.StoreError.{StoreError}
use Rattle.wasi_fs_nodes.specs.declared.store_error.StoreError.TheVariants as store
use Rattle.wasi_fs_nodes.specs.Writes.{Write, Fault, Refusal, Nothing, Bytes}
use Rattle.wasi_fs.specs.Stores.{after_read, after_write, unless_no_memory}
use Rattle.wasi_fs.specs.TreeStore.{with_file}
use Rattle.wasi_fs.specs.laws.Bound.{kinds_same}
use Rattle.wasi_fs.specs.Trees.{TreeState, after_fault, KeepsDescriptors}
use Rattle.wasi_fs.proofs.KeptFacts.{kept_by_kinds}

fault_keeps : (tree : TreeState) → KeepsDescriptors tree (after_fault tree)
fault_keeps tree = kept_by_kinds tree (after_fault tree) refl (λ n k e. e)

pub read_keeps : (tree : TreeState) (outcome : Result (List ℕ) ErrorCode) → KeepsDescriptors tree (after_read after_fault tree outcome)
read_keeps tree (Ok bytes) = λ at h. h
read_keeps tree (Err code) = fault_keeps tree

after_keeps : (tree : TreeState) (file : ℕ) (write : Write) → KeepsDescriptors tree (after_write after_fault (with_file tree file) tree write)
after_keeps tree file (Fault code) = fault_keeps tree
after_keeps tree file (Refusal code) = λ at h. h
after_keeps tree file Nothing = λ at h. h
after_keeps tree file (Bytes now) = kept_by_kinds tree (with_file tree file now) refl (λ n k e. kinds_same now tree.nodes file n ∙ e)

pub write_keeps : (tree : TreeState) (file : ℕ) (write : Write) (answer : Result ℕ StoreError) → KeepsDescriptors tree (unless_no_memory answer tree (after_write after_fault (with_file tree file) tree write))
write_keeps tree file write (Ok count) = after_keeps tree file write
write_keeps tree file write (Err (store.Code code)) = after_keeps tree file write
write_keeps tree file write (Err store.OutOfMemory) = λ at h. h
