use Rattle.std.proofs.Common.{sym}
use Rattle.wasi_fs_nodes.specs.Outcome.{then}
use Rattle.wasi_fs_paths.specs.Paths.{resolved}
use Rattle.wasi_fs.specs.Calls.{there, directory_removed_at}
use Rattle.wasi_fs.specs.Trees.{as_writable_directory}
use Rattle.wasi_fs.proofs.OutcomeFacts.{change_always, always_known}
use Rattle.wasi_fs.proofs.tree.Tree.take_directory.Goals as goal

pub returns : goal.returns
returns c =
    always_known c.args.self.now _ c.told.result (as_writable_directory c.args.at.now) c.in-Ok.dir (λ dir. then (resolved c.args.self.now.nodes dir.node there c.args.path.now) (directory_removed_at c.args.self.now.nodes)) (sym c.in-Ok.ensures.is)
    (change_always _ _ c.self.view_is c.remove.new.nodes c.remove.result c.told.result c.told.ensures (λ nodes. then (resolved nodes c.in-Ok.dir.node there c.args.path.now) (directory_removed_at nodes)) c.remove.ensures)
