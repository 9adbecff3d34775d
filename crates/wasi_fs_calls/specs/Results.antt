-- A tree's result as what is told of it.
use Rattle.std.specs.Prelude.{Result, Ok, Err}
use Rattle.wasi_base.specs.declared.out_of_memory.OutOfMemory.{OutOfMemory}
use Rattle.wasi_base.specs.declared.trappable.TrappableError.{TrappableError}
use Rattle.wasi_base.specs.declared.trappable.TrappableError.TheVariants as error
use Rattle.wasi_fs_types.specs.declared.error_code.ErrorCode.{ErrorCode}
use Rattle.wasi_fs.specs.declared.descriptor.Descriptor.{Descriptor}
use Rattle.wasi_fs_calls.specs.declared.answers.DescriptorAnswer.{DescriptorAnswer}
use Rattle.wasi_fs_calls.specs.declared.answers.DescriptorAnswer.TheVariants.{Told, Opened}
use Rattle.wasi_fs_calls.specs.declared.answers.DescriptorTold.{DescriptorTold}
use Rattle.wasi_fs_calls.specs.declared.answers.DescriptorTold.TheVariants as told

-- what a result tells, or the code of its refusal; a trap comes from no call of a tree
abbrev pub told_as : {A : Type 0} → (A → DescriptorAnswer) → Result A (TrappableError ErrorCode) → Result DescriptorAnswer OutOfMemory
told_as tell (Ok a) = Ok (tell a)
told_as tell (Err (error.Normal code)) = Ok (Told (told.Err code))
told_as tell (Err (error.Trap text)) = Err (record {})
told_as tell (Err error.OutOfMemory) = Err (record {})

abbrev pub told_of : Result DescriptorTold (TrappableError ErrorCode) → Result DescriptorAnswer OutOfMemory
told_of = told_as Told

abbrev pub done_of : Result (Unit {0}) (TrappableError ErrorCode) → Result DescriptorAnswer OutOfMemory
done_of = told_as (λ done. Told told.Ok)

abbrev pub opened_of : Result Descriptor (TrappableError ErrorCode) → Result DescriptorAnswer OutOfMemory
opened_of = told_as Opened
