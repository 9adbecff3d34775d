use Rattle.std.proofs.Common.{rules}
use Rattle.wasi_fs_nodes.proofs.CountFacts.{counted_root}
use Rattle.wasi_fs_nodes.proofs.nodes.Nodes.new.Goals as goal

pub invariant_of-result : goal.invariant_of-result
invariant_of-result c = counted_root c.args.now c.push_reserved.new.self.items (search rules) (search rules) (search rules)
