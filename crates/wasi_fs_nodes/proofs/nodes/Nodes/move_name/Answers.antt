use Rattle.std.proofs.Common.{ap, ◌∙◌}
use Rattle.wasi_fs_nodes.specs.Nodes.{entry_at, kind_at}
use Rattle.wasi_fs_nodes.proofs.CountFacts.{counted_moved}
use Rattle.wasi_fs_nodes.proofs.nodes.Nodes.move_name.Goals as goal

pub invariant_of-self-2 : goal.invariant_of-self-2
invariant_of-self-2 c =
    counted_moved c.self.inside.rows.items c.move_name.new.rows.items c.self.inside.bytes c.args.from c.args.node c.args.to c.args.name.now c.args.to_name.now c.self.invariant
    (ap (λ ns. entry_at ns c.args.from c.args.name.now) c.self.view_is ∙ c.requires.from)
    (ap (λ ns. kind_at ns c.args.to) c.self.view_is ∙ c.requires.is_dir)
    (ap (λ ns. entry_at ns c.args.to c.args.to_name.now) c.self.view_is ∙ c.requires.absent)
    c.in_ok-move_name.ensures.nodes c.in_ok-move_name.ensures.links c.in_ok-move_name.ensures.len
