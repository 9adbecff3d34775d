-- What a store of files tells, and what a read and a write of one file answer and leave.
use Rattle.std.specs.Prelude.{ℕ, ◌+◌, ◌-◌, List, length, take, drop, Option, Some, None, Result, Ok, Err, Bool, true, false, cond, eqb, ltb, ◌≡◌, ◌≤◌, IsOk}
use Rattle.wasi_base.specs.declared.io_kind.IoKind.{IoKind}
use Rattle.wasi_fs_types.specs.ErrorCode.{code_of_kind}
use Rattle.wasi_fs_types.specs.declared.error_code.ErrorCode.{ErrorCode}
use Rattle.wasi_fs_types.specs.declared.error_code.ErrorCode.TheVariants as code
use Rattle.wasi_fs_nodes.specs.Writes.{Limits, place_in, Write, Fault, Refusal, Nothing, Bytes, write_from}
use Rattle.wasi_fs_nodes.specs.declared.at.At.{At}
use Rattle.wasi_fs_nodes.specs.declared.at.At.TheVariants as at
use Rattle.wasi_fs_nodes.specs.declared.store_error.StoreError.{StoreError}
use Rattle.wasi_fs_nodes.specs.declared.store_error.StoreError.TheVariants as store
use Rattle.wasi_fs.specs.Trees.{risen}

-- what a store tells of itself: the least offset, its limits, if it has any, the fault that the next call meets, and
-- how many faults were met. The first byte of a file stands at the least offset.
pub record Told : Type 0 where
  pub least : ℕ
  pub limits : Option Limits
  pub planned : Option IoKind
  pub faults : ℕ

-- A FAULT IS MET exactly where one is planned, or else where the offset is below the least one ..
abbrev pub fault_of : Option IoKind → Bool → Option ErrorCode
fault_of (Some kind) below = Some (code_of_kind kind)
fault_of None true = Some code.Invalid
fault_of None false = None

-- .. and is then gone, and counted
abbrev pub told_after_fault : Told → Told
told_after_fault told = record { least = told.least; limits = told.limits; planned = None; faults = risen told.faults }

-- whether a call begins below the least offset
abbrev pub is_too_low : ℕ → At → Bool
is_too_low least at.End = false
is_too_low least (at.Offset offset) = ltb offset least

-- A READ gives the bytes from a place on, as many as the room, unless it meets a fault
abbrev pub given_unless : Option ErrorCode → List ℕ → ℕ → ℕ → Result (List ℕ) ErrorCode
given_unless (Some code) bytes place room = Err code
given_unless None bytes place room = Ok (take room (drop place bytes))

abbrev pub given : Told → List ℕ → ℕ → ℕ → Result (List ℕ) ErrorCode
given told bytes offset room = given_unless (fault_of told.planned (ltb offset told.least)) bytes (offset - told.least) room

-- its count and the front of its buffer say what was given, and the rest of the buffer stays
abbrev pub Gave : Result ℕ ErrorCode → List ℕ → List ℕ → Result (List ℕ) ErrorCode → Type 0
Gave (Ok count) before buf outcome = (count ≤ length buf) × (outcome ≡ Ok (take count buf)) × (drop count buf ≡ drop count before)
Gave (Err code) before buf outcome = (outcome ≡ Err code) × (buf ≡ before)

-- what stands after a read: only a fault changes anything
abbrev pub after_read : {S : Type 0} → (S → S) → S → Result (List ℕ) ErrorCode → S
after_read after_fault before (Ok bytes) = before
after_read after_fault before (Err code) = after_fault before

-- A WRITE that meets no fault comes to what the write rule says
abbrev pub write_unless : Option ErrorCode → Write → Write
write_unless (Some code) write = Fault code
write_unless None write = write

abbrev pub write_of : Told → List ℕ → At → List ℕ → Write
write_of told bytes to more = write_unless (fault_of told.planned (is_too_low told.least to)) (write_from told.limits bytes (place_in told.least (length bytes) to) more)

-- a write takes all its bytes, or answers a code
abbrev pub taken : Write → ℕ → Result ℕ ErrorCode
taken (Fault code) count = Err code
taken (Refusal code) count = Err code
taken Nothing count = Ok count
taken (Bytes bytes) count = Ok count

-- out of memory comes only where there is no code
abbrev pub Took : Result ℕ StoreError → Result ℕ ErrorCode → Type 0
Took (Ok count) outcome = outcome ≡ Ok count
Took (Err (store.Code code)) outcome = outcome ≡ Err code
Took (Err store.OutOfMemory) outcome = IsOk outcome

-- a write that is done took all its bytes
abbrev pub counted : Result (Unit {0}) StoreError → ℕ → Result ℕ StoreError
counted (Ok done) count = Ok count
counted (Err refusal) count = Err refusal

-- what stands after a write, by what a fault and the file's new bytes leave ..
abbrev pub after_write : {S : Type 0} → (S → S) → (List ℕ → S) → S → Write → S
after_write after_fault with_bytes before (Fault code) = after_fault before
after_write after_fault with_bytes before (Refusal code) = before
after_write after_fault with_bytes before Nothing = before
after_write after_fault with_bytes before (Bytes bytes) = with_bytes bytes

-- .. and out of memory leaves all as it was
abbrev pub unless_no_memory : {S : Type 0} → Result ℕ StoreError → S → S → S
unless_no_memory (Ok count) before after = after
unless_no_memory (Err (store.Code code)) before after = after
unless_no_memory (Err store.OutOfMemory) before after = before

-- a file's bytes after a write
abbrev pub bytes_after : List ℕ → Write → List ℕ
bytes_after bytes write = after_write (λ same. same) (λ now. now) bytes write

-- what is told where a file that had so many bytes has so many
abbrev pub limits_grown : Option Limits → ℕ → ℕ → Option Limits
limits_grown None size now = None
limits_grown (Some limits) size now = Some (record { file = limits.file; all = limits.all; total = limits.total + (now - size) })

abbrev pub told_grown : Told → ℕ → ℕ → Told
told_grown told size now = record { least = told.least; limits = limits_grown told.limits size now; planned = told.planned; faults = told.faults }

-- what is told after a write to a file of these bytes
abbrev pub told_after_write : Told → List ℕ → Write → Told
told_after_write told bytes write = after_write told_after_fault (λ now. told_grown told (length bytes) (length now)) told write

-- WHAT THE MEMBERS OF A STORE ARE BOUND TO: a fault changes the plan and the count alone; other bytes in a file, as many as
-- it had or more, change that file's bytes and the sum alone
pub record IsBound {S : Type 0} (told : S → Told) (is_file : S → ℕ → Type 0) (contents : S → ℕ → List ℕ) (file_of : ℕ → ℕ) (met : S → S) (with_contents : S → ℕ → List ℕ → S) : Type 0 where
  -- numbers of one file have the same bytes
  pub one_file : (store : S) (f g : ℕ) → file_of f ≡ file_of g → contents store f ≡ contents store g
  pub met_tells : (store : S) → told (met store) ≡ told_after_fault (told store)
  pub met_leaves : (store : S) (f : ℕ) → contents (met store) f ≡ contents store f
  pub met_keeps : (store : S) (f : ℕ) → is_file store f → is_file (met store) f
  pub with_tells : (store : S) (file : ℕ) (now : List ℕ) → is_file store file → length (contents store file) ≤ length now
      → told (with_contents store file now) ≡ told_grown (told store) (length (contents store file)) (length now)
  pub with_leaves : (store : S) (file : ℕ) (now : List ℕ) (f : ℕ) → is_file store file → contents (with_contents store file now) f ≡ cond (eqb (file_of f) (file_of file)) now (contents store f)
  pub with_keeps : (store : S) (file : ℕ) (now : List ℕ) (f : ℕ) → is_file store f → is_file (with_contents store file now) f
