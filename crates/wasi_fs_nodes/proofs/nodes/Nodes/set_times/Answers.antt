use Rattle.wasi_fs_nodes.proofs.CountFacts.{counted_times}
use Rattle.wasi_fs_nodes.proofs.nodes.Nodes.set_times.Goals as goal

pub invariant_of-self : goal.invariant_of-self
invariant_of-self c =
    counted_times c.self.inside.rows.items c.set_times.new.rows.items c.self.inside.bytes c.args.node c.args.access c.args.modification c.self.invariant
    c.set_times.ensures.nodes c.set_times.ensures.links c.set_times.ensures.len
