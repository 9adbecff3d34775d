-- A step of a pipeline, and a run of steps.
use Rattle.std.specs.Prelude.{◌≡◌, ℕ, ◌<◌, ◌≤◌, ◌-◌, true, false, List, [], ◌∷◌, ◌++◌, Option, Some, None}
use Rattle.wasi_base.specs.Source.{Told, Given, Gives}
use Rattle.wasi_reply.specs.declared.reply.Reply.{Reply}
use Rattle.wasi_stdin.specs.Shared.{Shared}
use Rattle.wasi_pipeline.specs.Chain.{Chain, closed, done, new_channel, turned_at, drained}
use Rattle.wasi_pipeline.specs.Feeding.{Fed, fed, size_fed, resting}
use Rattle.wasi_pipeline.specs.declared.kind.StageKind.{StageKind}
use Rattle.wasi_pipeline.specs.declared.stage.Channel.{Channel}
use Rattle.wasi_pipeline.specs.declared.stage.Stage.{Stage}
use Rattle.wasi_pipeline.specs.declared.line.Line.{Line}
use Rattle.wasi_pipeline.specs.declared.line.Line.TheVariants as line

-- link 0, once it is declared, and the stages, each with the link that it writes
pub record Pipe : Type 0 where
  pub input : Option Channel
  pub stages : List Stage

abbrev pub new_pipe : Pipe
new_pipe = record { input = None; stages = [] }

pub record PipelineState : Type 0 where
  pub pipe : Pipe
  pub deliveries : ℕ

abbrev pub new_stage : StageKind → ℕ → Stage
new_stage kind bound = record { kind = kind; last = None; stopped = false; output = new_channel bound }

-- what a step replies, and the pipeline after it
pub record Stepped : Type 0 where
  pub reply : Reply
  pub pipe : Pipe

abbrev pub of_chain : Chain → Stepped
of_chain chain = record { reply = chain.reply; pipe = record { input = Some chain.input; stages = chain.stages } }

abbrev pub of_fed : Fed → List Stage → Stepped
of_fed it stages = record { reply = it.reply; pipe = record { input = Some it.channel; stages = stages } }

-- no valid script has a second link 0, or a step before the first
abbrev pub refused : Option Channel → List Stage → Stepped
refused input stages = record { reply = closed; pipe = record { input = input; stages = stages } }

-- a step, where the read that it makes gives this
abbrev pub stepped_on : Line → Given → Channel → List Stage → Stepped
stepped_on (line.Link bound) g channel stages = refused (Some channel) stages
stepped_on (line.Stage kind bound) g channel stages = record { reply = done; pipe = record { input = Some channel; stages = stages ++ new_stage kind bound ∷ [] } }
stepped_on (line.Feed most) g channel stages = of_fed (fed (size_fed most channel) g channel) stages
stepped_on (line.Turn stage turn) g channel stages = of_chain (turned_at (stage - 1) turn channel stages)
stepped_on (line.Drain most) g channel stages = of_chain (drained most channel stages)

abbrev pub stepped_first : Line → List Stage → Stepped
stepped_first (line.Link bound) stages = record { reply = done; pipe = record { input = Some (new_channel bound); stages = stages } }
stepped_first other stages = refused None stages

abbrev pub stepped_by : Line → Given → Option Channel → List Stage → Stepped
stepped_by step g None stages = stepped_first step stages
stepped_by step g (Some channel) stages = stepped_on step g channel stages

abbrev pub stepped : Line → Given → Pipe → Stepped
stepped step g pipe = stepped_by step g pipe.input pipe.stages

-- how many bytes a step reads of the input; for 0 it makes no read
abbrev pub size_on : Line → Option Channel → ℕ
size_on (line.Feed most) (Some channel) = size_fed most channel
size_on _ _ = 0

abbrev pub size_read : Line → Pipe → ℕ
size_read step pipe = size_on step pipe.input

-- a step took the input from `before` to `after` and the pipeline from `old` to `new`
pub record IsStep (before after : Option Told) (old new : Pipe) (step : Line) (answer : Reply) : Type 0 where
  pub given : Given
  pub is : record { reply = answer; pipe = new } ≡ stepped step given old
  pub read : 0 < size_read step old → Gives before (size_read step old) given after
  pub unread : size_read step old ≡ 0 → after ≡ before

-- the bound of a link that a step declares
abbrev pub IsBound : ℕ → Type 0
IsBound bound = (2 ≤ bound) × (bound ≤ 65536)

abbrev pub HasBound : Line → Type 0
HasBound (line.Link bound) = IsBound bound
HasBound (line.Stage kind bound) = IsBound bound
HasBound (line.Feed most) = Unit {0}
HasBound (line.Turn stage turn) = Unit {0}
HasBound (line.Drain most) = Unit {0}

-- while link 0 may be written, the input rests between steps
abbrev pub RestsFor : Option Channel → Shared → Type 0
RestsFor None shared = shared ≡ resting shared.deliveries
RestsFor (Some channel) shared = channel.writer_open ≡ true → shared ≡ resting shared.deliveries
