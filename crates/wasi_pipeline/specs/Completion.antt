-- Where no stage was stopped, no fault was told and the reader was told of the end, all of the input came through all of the stages.
use Rattle.std.specs.Prelude.{◌≡◌, ℕ, ◌⊎◌, List, [], ◌∷◌}
use Rattle.std.specs.List.{flat_map}
use Rattle.wasi_base.specs.Source.{Told}
use Rattle.wasi_reply.specs.declared.reply.Reply.{Reply}
use Rattle.wasi_pipeline.specs.Chain.{closed}
use Rattle.wasi_pipeline.specs.Conservation.{bytes_shown}
use Rattle.wasi_pipeline.specs.Feeding.{OnFailed}
use Rattle.wasi_pipeline.specs.Grammar.{AllStand, nothing_declared}
use Rattle.wasi_pipeline.specs.Kinds.{made}
use Rattle.wasi_pipeline.specs.Run.{pipe_end, replies, step_told, stepped_with}
use Rattle.wasi_pipeline.specs.Steps.{Pipe, new_pipe}
use Rattle.wasi_pipeline.specs.declared.stage.Stage.{Stage}
use Rattle.wasi_pipeline.specs.declared.stage.Turn.{Turn}
use Rattle.wasi_pipeline.specs.declared.stage.Turn.TheVariants.{Pump, Stop}
use Rattle.wasi_pipeline.specs.declared.line.Line.{Line}
use Rattle.wasi_pipeline.specs.declared.line.Line.TheVariants as line

-- the kinds of the stages, applied in order
abbrev pub made_by_all : List Stage → List ℕ → List ℕ
made_by_all [] bytes = bytes
made_by_all (stage ∷ stages) bytes = made_by_all stages (made stage.kind bytes)

-- a step, and then each step, stops no stage
abbrev pub KeepsOn : Turn → Type 0
KeepsOn (Pump most) = Unit {0}
KeepsOn Stop = ⊥

abbrev pub StopsNone : Line → Type 0
StopsNone (line.Link bound) = Unit {0}
StopsNone (line.Stage kind bound) = Unit {0}
StopsNone (line.Feed most) = Unit {0}
StopsNone (line.Turn stage turn) = KeepsOn turn
StopsNone (line.Drain most) = Unit {0}

abbrev pub StopNone : List Line → Type 0
StopNone [] = Unit {0}
StopNone (step ∷ steps) = StopsNone step × StopNone steps

-- no reply tells a fault
abbrev pub FaultNone : List Reply → Type 0
FaultNone [] = Unit {0}
FaultNone (answer ∷ answers) = OnFailed answer ⊥ × FaultNone answers

-- a drain was told of the end
abbrev pub IsEnd : Line → Reply → Type 0
IsEnd (line.Link bound) answer = ⊥
IsEnd (line.Stage kind bound) answer = ⊥
IsEnd (line.Feed most) answer = ⊥
IsEnd (line.Turn stage turn) answer = ⊥
IsEnd (line.Drain most) answer = answer ≡ closed

abbrev pub HasEnded : List Line → Pipe → Told → Type 0
HasEnded [] pipe told = ⊥
HasEnded (step ∷ steps) pipe told = IsEnd step (stepped_with step pipe told).reply ⊎ HasEnded steps (stepped_with step pipe told).pipe (step_told step pipe told)

-- then the bytes that were shown are what the kinds make, in turn, of all that the input had
abbrev pub Completes : List Line → Told → Type 0
Completes steps input = StopNone steps → FaultNone (replies steps new_pipe input) → HasEnded steps new_pipe input → flat_map bytes_shown (replies steps new_pipe input) ≡ made_by_all (pipe_end steps new_pipe input).stages input.left

abbrev pub ValidRunsComplete : Type 0
ValidRunsComplete = (steps : List Line) (input : Told) → AllStand nothing_declared steps → Completes steps input
