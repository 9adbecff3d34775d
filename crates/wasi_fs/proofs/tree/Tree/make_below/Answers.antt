use Rattle.wasi_fs_nodes.specs.Outcome.{then}
use Rattle.wasi_fs_paths.specs.Paths.{resolved}
use Rattle.wasi_fs.specs.Calls.{there_or_new, made_at}
use Rattle.wasi_fs.specs.Making.{node_for}
use Rattle.wasi_fs.proofs.OutcomeFacts.{change_done}
use Rattle.wasi_fs.proofs.tree.Tree.make_below.Goals as goal

pub returns : goal.returns
returns c = change_done _ _ c.self.view_is c.make.new.nodes c.make.result c.done.result c.done.ensures
    (λ nodes. then (resolved nodes c.args.dir.node there_or_new c.args.path.now) (made_at nodes (node_for c.args.new c.args.time))) c.make.ensures
