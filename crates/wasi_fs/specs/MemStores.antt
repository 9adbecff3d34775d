-- A store of one file in memory.
use Rattle.std.specs.Prelude.{ℕ, List, Option, None}
use Rattle.wasi_base.specs.declared.io_kind.IoKind.{IoKind}
use Rattle.wasi_fs.specs.Stores.{Told}
use Rattle.wasi_fs.specs.Trees.{risen}

pub record OneFile : Type 0 where
  pub base : ℕ
  pub bytes : List ℕ
  pub faults : ℕ
  pub fail_next : Option IoKind

-- its bytes stand from the base on, and it has no limits
abbrev pub one_file_told : OneFile → Told
one_file_told one = record { least = one.base; limits = None; planned = one.fail_next; faults = one.faults }

abbrev pub one_file_after_fault : OneFile → OneFile
one_file_after_fault one = record { base = one.base; bytes = one.bytes; faults = risen one.faults; fail_next = None }

abbrev pub one_file_with : OneFile → List ℕ → OneFile
one_file_with one now = record { base = one.base; bytes = now; faults = one.faults; fail_next = one.fail_next }
