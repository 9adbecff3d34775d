-- What a call answers: its outcome, or the code of a refusal.
use Rattle.std.specs.Prelude.{◌≡◌, Option, Some, None, Result, Ok, Err, IsOk, Bool, true, false}
use Rattle.wasi_fs_types.specs.declared.error_code.ErrorCode.{ErrorCode}
use Rattle.wasi_fs_nodes.specs.declared.store_error.StoreError.{StoreError}
use Rattle.wasi_fs_nodes.specs.declared.store_error.StoreError.TheVariants.{Code, OutOfMemory}

-- on with what was found, unless it was refused
abbrev pub then : {A B : Type 0} → Result A ErrorCode → (A → Result B ErrorCode) → Result B ErrorCode
then (Ok a) f = f a
then (Err code) f = Err code

-- refused with a code, or on
abbrev pub unless : {A : Type 0} → Bool → ErrorCode → Result A ErrorCode → Result A ErrorCode
unless true code on = Err code
unless false code on = on

-- refused with the code, if there is one, or on
abbrev pub unless_some : {A : Type 0} → Option ErrorCode → Result A ErrorCode → Result A ErrorCode
unless_some None on = on
unless_some (Some code) on = Err code

-- A CHANGE'S CONTRACT: the definition says what it leaves, or the code of its refusal, which changes nothing. Nor does
-- out of memory, which comes only where there is no code.
abbrev pub Leaves : {A T : Type 0} → T → T → Result A StoreError → Result T ErrorCode → Type 0
Leaves old new (Ok a) outcome = outcome ≡ Ok new
Leaves old new (Err (Code code)) outcome = (outcome ≡ Err code) × (new ≡ old)
Leaves old new (Err OutOfMemory) outcome = IsOk outcome × (new ≡ old)

-- the same for a change that takes no memory
abbrev pub LeavesAlways : {A T : Type 0} → T → T → Result A ErrorCode → Result T ErrorCode → Type 0
LeavesAlways old new (Ok a) outcome = outcome ≡ Ok new
LeavesAlways old new (Err code) outcome = (outcome ≡ Err code) × (new ≡ old)
