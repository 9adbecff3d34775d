-- A guest's own error, or a trap.
use Rattle.std.specs.Prelude.{ℕ, List, codes, Option, Some, None, Result, Ok, Err}
use Rattle.wasi_base.specs.TrapText.{trap_text}
use Rattle.wasi_base.specs.declared.trappable.TrappableError.{TrappableError}
use Rattle.wasi_base.specs.declared.trappable.TrappableError.TheVariants.{Normal, Trap, OutOfMemory}
use Rattle.wasi_base.specs.declared.trappable.Trapped.{Trapped}
use Rattle.wasi_base.specs.declared.trappable.Trapped.TheVariants as trapped

abbrev pub normal_or_trapped : {T : Type 0} → TrappableError T → Result T Trapped
normal_or_trapped (Normal error) = Ok error
normal_or_trapped (Trap text) = Err (trapped.Trap text)
normal_or_trapped OutOfMemory = Err trapped.OutOfMemory

abbrev pub normal_in : {T : Type 0} → TrappableError T → Option T
normal_in (Normal error) = Some error
normal_in (Trap text) = None
normal_in OutOfMemory = None

abbrev pub trappable_text : {T : Type 0} → (T → Option (List ℕ)) → TrappableError T → Option (List ℕ)
trappable_text output (Normal error) = output error
trappable_text output (Trap text) = Some (trap_text text)
trappable_text output OutOfMemory = Some (codes "out of memory")
