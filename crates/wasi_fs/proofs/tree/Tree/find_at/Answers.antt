use Rattle.std.proofs.Common.{◌∙◌, ap}
use Rattle.wasi_fs_nodes.specs.Outcome.{then}
use Rattle.wasi_fs_paths.specs.Paths.{found}
use Rattle.wasi_fs.proofs.tree.Tree.find_at.Goals as goal

pub returns-in-Ok-clause-is : goal.returns-in-Ok-clause-is
returns-in-Ok-clause-is c =
    c.find.ensures.is
    ∙ ap (λ nodes. found nodes c.in-Ok.dir.node c.args.follow c.args.path.now) c.nodes.ensures
    ∙ ap (λ outcome. then outcome (λ dir. found c.args.self.now.nodes dir.node c.args.follow c.args.path.now)) c.in-Ok.ensures.is
