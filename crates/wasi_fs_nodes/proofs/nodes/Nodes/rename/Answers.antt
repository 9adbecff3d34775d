use Rattle.std.proofs.Common.{List, Result, subst}
use Rattle.wasi_fs_types.specs.declared.error_code.ErrorCode.{ErrorCode}
use Rattle.wasi_fs_nodes.specs.Outcome.{Leaves}
use Rattle.wasi_fs_nodes.specs.Climbs.{climbs}
use Rattle.wasi_fs_nodes.specs.declared.node.Node.{Node}
use Rattle.wasi_fs_nodes.proofs.BelowFacts.{tells, renamed_same}
use Rattle.wasi_fs_nodes.proofs.nodes.Nodes.rename.Goals as goal

pub returns : goal.returns
returns c below told =
    let P : Result (List Node) ErrorCode → Type 0 = λ outcome. Leaves c.args.self.now c.rename_node.new.self c.rename_node.result outcome in
    subst P
    (renamed_same c.args.self.now (climbs c.args.self.now) below (tells c.args.self.now c.root.ensures.sound) told c.args.from c.args.name.now c.args.to c.args.to_name.now c.requires)
    c.rename_node.ensures
