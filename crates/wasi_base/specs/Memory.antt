-- What the source and the sink in memory hold, as contracts see them.
use Rattle.std.specs.Prelude.{ℕ, List}
use Rattle.wasi_base.specs.Source.{Told}
use Rattle.wasi_base.specs.Sink.{Limits}

pub record SourceMemory : Type 0 where
  pub told : Told
  pub faults : ℕ

pub record SinkMemory : Type 0 where
  pub taken : List ℕ
  pub limits : Limits
  pub faults : ℕ
