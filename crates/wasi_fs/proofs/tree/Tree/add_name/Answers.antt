use Rattle.std.proofs.Common.{false, sym, ◌∙◌}
use Rattle.wasi_fs_types.specs.declared.error_code.ErrorCode.TheVariants as code
use Rattle.wasi_fs_nodes.specs.Outcome.{then, unless}
use Rattle.wasi_fs_paths.specs.Paths.{resolved, found}
use Rattle.wasi_fs.specs.Calls.{there_or_new, linked_at, as_writable_directories}
use Rattle.wasi_fs.specs.Flags.{follows}
use Rattle.wasi_fs.proofs.OutcomeFacts.{change_told, then_known, unless_not}
use Rattle.wasi_fs.proofs.tree.Tree.add_name.Goals as goal

pub returns : goal.returns
returns c =
    then_known c.args.self.now _ c.from_store.result (as_writable_directories c.args.at.now c.args.to.now) c.in-Ok.dirs
    (λ dirs. unless (follows c.args.flags) code.Invalid (then (found c.args.self.now.nodes dirs.0.node false c.args.path.now) (λ node. then (resolved c.args.self.now.nodes dirs.1.node there_or_new c.args.to_path.now) (linked_at c.args.self.now.nodes node)))) (sym c.in-Ok.ensures.is)
    (unless_not c.args.self.now _ c.from_store.result (follows c.args.flags) code.Invalid (then (found c.args.self.now.nodes c.in-Ok.dirs.0.node false c.args.path.now) (λ node. then (resolved c.args.self.now.nodes c.in-Ok.dirs.1.node there_or_new c.args.to_path.now) (linked_at c.args.self.now.nodes node))) (sym c.follows.ensures ∙ c.if-follows.false)
    (change_told _ _ c.self.view_is c.link.new.nodes c.link.result c.from_store.result c.from_store.ensures
    (λ nodes. then (found nodes c.in-Ok.dirs.0.node false c.args.path.now) (λ node. then (resolved nodes c.in-Ok.dirs.1.node there_or_new c.args.to_path.now) (linked_at nodes node))) c.link.ensures))
