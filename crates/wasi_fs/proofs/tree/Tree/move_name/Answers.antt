use Rattle.std.proofs.Common.{List, sym, subst, ap}
use Rattle.wasi_fs_nodes.specs.Nodes.{TellsBelow}
use Rattle.wasi_fs_nodes.specs.declared.node.Node.{Node}
use Rattle.wasi_fs.specs.Trees.{TreeState}
use Rattle.wasi_fs_nodes.specs.Outcome.{then}
use Rattle.wasi_fs_paths.specs.Paths.{resolved}
use Rattle.wasi_fs.specs.Calls.{there, there_or_new, renamed_at, as_writable_directories}
use Rattle.wasi_fs.proofs.OutcomeFacts.{change_told, then_known}
use Rattle.wasi_fs.proofs.tree.Tree.move_name.Goals as goal

pub returns : goal.returns
returns c below known =
    then_known c.args.self.now _ c.from_store.result (as_writable_directories c.args.at.now c.args.to.now) c.in-Ok.dirs
    (λ dirs. then (resolved c.args.self.now.nodes dirs.0.node there c.args.path.now) (λ place. then (resolved c.args.self.now.nodes dirs.1.node there_or_new c.args.to_path.now) (renamed_at below c.args.self.now.nodes place))) (sym c.in-Ok.ensures.is)
    (change_told _ _ c.self.view_is c.rename.new.nodes c.rename.result c.from_store.result c.from_store.ensures
    (λ nodes. then (resolved nodes c.in-Ok.dirs.0.node there c.args.path.now) (λ place. then (resolved nodes c.in-Ok.dirs.1.node there_or_new c.args.to_path.now) (renamed_at below nodes place))) (c.rename.ensures below (let P : List Node → Type 0 = λ nodes. TellsBelow nodes below in subst P (sym (ap (λ (t : TreeState). t.nodes) c.self.view_is)) known)))
