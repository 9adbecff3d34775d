use Rattle.wasi_fs_nodes.specs.Climbs.{climbs}
use Rattle.wasi_fs.specs.Calls.{node_renamed}
use Rattle.wasi_fs.proofs.KeptFacts.{left_kept}
use Rattle.wasi_fs.proofs.tree.Tree.rename_at.Goals as goal

pub returns-clause-kept : goal.returns-clause-kept
returns-clause-kept c =
    let known = c.below_is_told.ensures c.args.self.now.nodes c.root.ensures.sound in
    left_kept c.args.self.now c.move_name.new.self c.move_name.result (node_renamed (climbs c.args.self.now.nodes) c.args.self.now.nodes c.args.at.now c.args.path.now c.args.to.now c.args.to_path.now) (c.move_name.ensures (climbs c.args.self.now.nodes) known)
    (c.calls_keep_kinds.ensures.rename (climbs c.args.self.now.nodes) c.args.self.now.nodes c.args.at.now c.args.path.now c.args.to.now c.args.to_path.now)
