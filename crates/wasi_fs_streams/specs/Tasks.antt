-- A file stream's task, turn by turn.
use Rattle.std.specs.Prelude.{Option, Some, None}
use Rattle.wasi_fs_streams.specs.declared.task.Task.{Task}
use Rattle.wasi_fs_streams.specs.declared.task.Task.TheVariants.{NotStarted, Running, Done}
use Rattle.wasi_fs_streams.specs.declared.task.TaskTurn.{TaskTurn}
use Rattle.wasi_fs_streams.specs.declared.task.TaskTurn.TheVariants as turn

-- A TURN, by what comes of the work: one starts the task, and the next does its work
abbrev pub task_turned : {W D : Type 0} → (W → D) → Option (Task W D) → TaskTurn × Option (Task W D)
task_turned outcome None = (turn.Idle, None)
task_turned outcome (Some (NotStarted work)) = (turn.Started, Some (Running work))
task_turned outcome (Some (Running work)) = (turn.Done, Some (Done (outcome work)))
task_turned outcome (Some (Done was)) = (turn.Idle, Some (Done was))

-- the work that a turn does, if it does any
abbrev pub work_turned : {W D : Type 0} → Option (Task W D) → Option W
work_turned None = None
work_turned (Some (NotStarted work)) = None
work_turned (Some (Running work)) = Some work
work_turned (Some (Done was)) = None
