use Rattle.std.proofs.Common.{Option, sym, subst, ◌∙◌}
use Rattle.wasi_clocks.specs.declared.datetimes.Datetime.{Datetime}
use Rattle.wasi_fs_nodes.specs.Changes.{new_link}
use Rattle.wasi_fs_nodes.specs.Outcome.{then, unless}
use Rattle.wasi_fs_paths.specs.Components.{begins_with_slash}
use Rattle.wasi_fs_types.specs.declared.error_code.ErrorCode.TheVariants as code
use Rattle.wasi_fs_paths.specs.Paths.{resolved}
use Rattle.wasi_fs.specs.Calls.{there_or_new, made_at}
use Rattle.wasi_fs.specs.Outcome.{Leaves}
use Rattle.wasi_fs.specs.Times.{time_of}
use Rattle.wasi_fs.specs.Trees.{as_writable_directory}
use Rattle.wasi_fs.proofs.OutcomeFacts.{then_known, unless_not}
use Rattle.wasi_fs.proofs.tree.Tree.make_symlink.Goals as goal

pub returns : goal.returns
returns c =
    let P : Option Datetime → Type 0 = λ time. Leaves c.args.self.now c.make_below.new.self c.make_below.result (then (resolved c.args.self.now.nodes c.in-Ok.dir.node there_or_new c.args.path.now) (made_at c.args.self.now.nodes (λ in_dir. new_link c.args.text.now time))) in
    then_known c.args.self.now c.make_below.new.self c.make_below.result (as_writable_directory c.args.at.now) c.in-Ok.dir
    (λ dir. unless (begins_with_slash c.args.text.now) code.NotPermitted (then (resolved c.args.self.now.nodes dir.node there_or_new c.args.path.now) (made_at c.args.self.now.nodes (λ in_dir. new_link c.args.text.now (time_of c.args.now))))) (sym c.in-Ok.ensures.is)
    (unless_not c.args.self.now c.make_below.new.self c.make_below.result (begins_with_slash c.args.text.now) code.NotPermitted (then (resolved c.args.self.now.nodes c.in-Ok.dir.node there_or_new c.args.path.now) (made_at c.args.self.now.nodes (λ in_dir. new_link c.args.text.now (time_of c.args.now)))) (sym c.begins_with_slash.ensures ∙ c.if-begins_with_slash.false) (subst P c.time_of.ensures c.make_below.ensures))
