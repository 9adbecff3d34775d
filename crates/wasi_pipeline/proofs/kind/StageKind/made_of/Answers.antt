use Rattle.std.proofs.Common.{refl}
use Rattle.hex.specs.Hex.{encode_with}
use Rattle.wasi_pipeline.proofs.kind.StageKind.made_of.Goals as goal

pub returns-in-Hex : goal.returns-in-Hex
unfolding encode_with
returns-in-Hex c = rw (c.in-Hex.is, c.digit.ensures, c.digit-in-Hex.ensures) refl
