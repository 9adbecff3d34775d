use Rattle.std.proofs.Common.{◌∙◌}
use Rattle.wasi_fs_paths.specs.Components.{components}
use Rattle.wasi_fs_paths.proofs.TrailFacts.{goes_back_along}
use Rattle.wasi_fs_paths.proofs.walk.walk.Goals as goal

pub returns : goal.returns
returns c = c.walk_on.ensures ∙ goes_back_along c.args.nodes.now c.root.ensures.sound.stands c.args.start (components c.args.path.now)
