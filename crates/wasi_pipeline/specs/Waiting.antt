-- Why a stage takes no byte at its turn.
use Rattle.std.specs.Prelude.{◌≡◌, ℕ, ◌<◌, ◌≤◌, ◌⊎◌, true, List, [], ◌∷◌, length}
use Rattle.wasi_pipeline.specs.Chain.{counted, pumped, room_of}
use Rattle.wasi_pipeline.specs.Kinds.{becomes}
use Rattle.wasi_pipeline.specs.declared.stage.Channel.{Channel}
use Rattle.wasi_pipeline.specs.declared.stage.Stage.{Stage}

-- nothing is there to take, and more may come
pub record LacksBytes (input : Channel) : Type 0 where
  pub empty : input.link.held ≡ []
  pub writable : input.writer_open ≡ true

-- there is no room for what the next byte becomes
pub record LacksRoom (input : Channel) (stage : Stage) : Type 0 where
  pub byte : ℕ
  pub rest : List ℕ
  pub next : input.link.held ≡ byte ∷ rest
  pub room : room_of stage.output.link < length (becomes stage.kind stage.last byte)

-- a turn that replies `count 0` has one of these causes
abbrev pub TakesNothing : Type 0
TakesNothing = (most : ℕ) (input : Channel) (stage : Stage) → 1 ≤ most → (pumped most input stage).reply ≡ counted 0 → LacksBytes input ⊎ LacksRoom input stage
