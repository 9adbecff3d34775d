use Rattle.std.proofs.Common.{Option, sym, subst}
use Rattle.wasi_clocks.specs.declared.datetimes.Datetime.{Datetime}
use Rattle.wasi_fs_nodes.specs.Changes.{new_directory}
use Rattle.wasi_fs_nodes.specs.Outcome.{then}
use Rattle.wasi_fs_paths.specs.Paths.{resolved}
use Rattle.wasi_fs.specs.Calls.{there_or_new, made_at}
use Rattle.wasi_fs.specs.Outcome.{Leaves}
use Rattle.wasi_fs.specs.Times.{time_of}
use Rattle.wasi_fs.specs.Trees.{as_writable_directory}
use Rattle.wasi_fs.proofs.OutcomeFacts.{then_known}
use Rattle.wasi_fs.proofs.tree.Tree.make_directory.Goals as goal

pub returns : goal.returns
returns c =
    let P : Option Datetime → Type 0 = λ time. Leaves c.args.self.now c.make_below.new.self c.make_below.result (then (resolved c.args.self.now.nodes c.in-Ok.dir.node there_or_new c.args.path.now) (made_at c.args.self.now.nodes (λ in_dir. new_directory in_dir time))) in
    then_known c.args.self.now c.make_below.new.self c.make_below.result (as_writable_directory c.args.at.now) c.in-Ok.dir
    (λ dir. then (resolved c.args.self.now.nodes dir.node there_or_new c.args.path.now) (made_at c.args.self.now.nodes (λ in_dir. new_directory in_dir (time_of c.args.now)))) (sym c.in-Ok.ensures.is)
    (subst P c.time_of.ensures c.make_below.ensures)
