use Rattle.std.proofs.Common.{Bool, Ok, sym, subst}
use Rattle.wasi_fs_nodes.specs.Bodies.{with_times}
use Rattle.wasi_fs_nodes.specs.Outcome.{then, LeavesAlways as NodesAlways}
use Rattle.wasi_fs_paths.specs.Paths.{found}
use Rattle.wasi_fs.specs.Calls.{times_for}
use Rattle.wasi_fs.specs.Flags.{follows}
use Rattle.wasi_fs.specs.Trees.{as_writable_directory}
use Rattle.wasi_fs.proofs.OutcomeFacts.{change_always, always_known}
use Rattle.wasi_fs.proofs.tree.Tree.retime_at.Goals as goal

pub returns : goal.returns
returns c =
    let P : Bool → Type 0 = λ follow. NodesAlways c.self.inside.nodes c.set_at.new.nodes c.set_at.result (then (found c.self.inside.nodes c.in-Ok-writable_directory.dir.node follow c.args.path.now) (λ n. Ok (with_times c.self.inside.nodes n c.in-Ok.times.0 c.in-Ok.times.1))) in
    always_known c.args.self.now _ c.told.result (times_for c.args.access c.args.modified c.args.now) c.in-Ok.times
    (λ times. then (as_writable_directory c.args.at.now) (λ dir. then (found c.args.self.now.nodes dir.node (follows c.args.flags) c.args.path.now) (λ n. Ok (with_times c.args.self.now.nodes n times.0 times.1)))) (sym c.in-Ok.ensures)
    (always_known c.args.self.now _ c.told.result (as_writable_directory c.args.at.now) c.in-Ok-writable_directory.dir
    (λ dir. then (found c.args.self.now.nodes dir.node (follows c.args.flags) c.args.path.now) (λ n. Ok (with_times c.args.self.now.nodes n c.in-Ok.times.0 c.in-Ok.times.1))) (sym c.in-Ok-writable_directory.ensures.is)
    (change_always _ _ c.self.view_is c.set_at.new.nodes c.set_at.result c.told.result c.told.ensures
    (λ nodes. then (found nodes c.in-Ok-writable_directory.dir.node (follows c.args.flags) c.args.path.now) (λ n. Ok (with_times nodes n c.in-Ok.times.0 c.in-Ok.times.1))) (subst P c.follows-follow.ensures c.set_at.ensures)))
