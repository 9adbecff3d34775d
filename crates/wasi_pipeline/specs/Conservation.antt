-- Bytes are neither lost nor doubled: what each link was given is what was taken out of it, and then what it holds.
use Rattle.std.specs.Prelude.{◌≡◌, ℕ, ◌≤◌, List, [], ◌∷◌, ◌++◌, length, take, Option, Some, None}
use Rattle.std.specs.List.{flat_map}
use Rattle.wasi_base.specs.Source.{Told}
use Rattle.wasi_reply.specs.declared.reply.Told.TheVariants as told
use Rattle.wasi_reply.specs.declared.reply.Reply.{Reply}
use Rattle.wasi_reply.specs.declared.reply.Reply.TheVariants as reply
use Rattle.wasi_pipeline.specs.Grammar.{AllStand, nothing_declared}
use Rattle.wasi_pipeline.specs.Kinds.{last_after, made}
use Rattle.wasi_pipeline.specs.Run.{pipe_end, replies, told_end}
use Rattle.wasi_pipeline.specs.Steps.{new_pipe}
use Rattle.wasi_pipeline.specs.declared.stage.Channel.{Channel}
use Rattle.wasi_pipeline.specs.declared.stage.Stage.{Stage}
use Rattle.wasi_pipeline.specs.declared.line.Line.{Line}

-- what was put into a link is what was taken out of it, followed by what it holds, which is never more than its bound
pub record Passes (put : List ℕ) (channel : Channel) (taken : List ℕ) : Type 0 where
  pub whole : put ≡ taken ++ channel.link.held
  pub within : length channel.link.held ≤ channel.link.bound

-- a link into which these bytes were put, and the stages after it: what a stage put into its link is what its kind makes of
-- what it took, and `out` was taken out of the last link
abbrev pub Carries : List ℕ → Channel → List Stage → List ℕ → Type 0
Carries put channel [] out = Passes put channel out
Carries put channel (stage ∷ stages) out = (taken : List ℕ) × Passes put channel taken × (stage.last ≡ last_after None taken) × Carries (made stage.kind taken) stage.output stages out

-- the same of a pipeline; before there is a link nothing was put and taken
abbrev pub CarriesIn : List ℕ → Option Channel → List Stage → List ℕ → Type 0
CarriesIn put None stages out = (put ≡ []) × (out ≡ []) × (stages ≡ [])
CarriesIn put (Some channel) stages out = Carries put channel stages out

-- the bytes that a reply shows
abbrev pub bytes_shown : Reply → List ℕ
bytes_shown (reply.Told (told.Bytes bytes)) = bytes
bytes_shown _ = []

-- after these steps: what was put into link 0 is what the input gave, the links and stages carry it, and what was taken out
-- of the last link is what the replies show
pub record Conserves (steps : List Line) (input : Told) : Type 0 where
  pub put : List ℕ
  pub given : input.left ≡ put ++ (told_end steps new_pipe input).left
  pub carried : CarriesIn put (pipe_end steps new_pipe input).input (pipe_end steps new_pipe input).stages (flat_map bytes_shown (replies steps new_pipe input))

-- at each moment of a run
abbrev pub ConservesAtEachStep : List Line → Told → Type 0
ConservesAtEachStep steps input = (count : ℕ) → Conserves (take count steps) input

abbrev pub ValidRunsConserve : Type 0
ValidRunsConserve = (steps : List Line) (input : Told) → AllStand nothing_declared steps → ConservesAtEachStep steps input
