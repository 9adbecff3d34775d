use Rattle.std.proofs.Common.{ap, ◌∙◌}
use Rattle.wasi_fs_nodes.specs.Nodes.{entry_at, kind_at}
use Rattle.wasi_fs_nodes.proofs.CountFacts.{counted_replaced, some_before}
use Rattle.wasi_fs_nodes.proofs.nodes.Nodes.move_over.Goals as goal

pub invariant_of-self : goal.invariant_of-self
invariant_of-self c =
    counted_replaced c.self.inside.rows.items c.move_over.new.rows.items c.self.inside.bytes c.args.from c.args.node c.args.to c.args.before c.args.name.now c.args.to_name.now c.self.invariant
    (ap (λ ns. entry_at ns c.args.from c.args.name.now) c.self.view_is ∙ c.requires.from)
    (ap (λ ns. kind_at ns c.args.to) c.self.view_is ∙ c.requires.is_dir)
    (ap (λ ns. entry_at ns c.args.to c.args.to_name.now) c.self.view_is ∙ c.requires.there)
    c.move_over.ensures.nodes c.move_over.ensures.links c.move_over.ensures.len

pub move_over-requires-clause-some : goal.move_over-requires-clause-some
move_over-requires-clause-some c =
    some_before c.self.inside.rows.items c.self.inside.bytes c.args.to c.args.before c.args.to_name.now c.self.invariant (ap (λ ns. entry_at ns c.args.to c.args.to_name.now) c.self.view_is ∙ c.requires.there)
