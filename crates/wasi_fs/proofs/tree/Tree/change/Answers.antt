use Rattle.wasi_fs.specs.Calls.{added}
use Rattle.wasi_fs.specs.Making.{node_for}
use Rattle.wasi_fs.proofs.OutcomeFacts.{change_done}
use Rattle.wasi_fs.proofs.tree.Tree.change.Goals as goal

pub returns : goal.returns
returns c = change_done _ _ c.self.view_is c.add.new.nodes c.add.result c.done.result c.done.ensures (λ nodes. added nodes c.args.path.now (node_for c.args.new c.args.time)) c.add.ensures
