use Rattle.std.proofs.Common.{ap, arith, ◌∙◌, set, get_or, ◌-◌}
use Rattle.std.proofs.lemmas.List.{length-map}
use Rattle.wasi_fs_nodes.specs.Nodes.{entry_at}
use Rattle.wasi_fs_nodes.specs.declared.rows.Row.{Row}
use Rattle.wasi_fs_nodes.proofs.NodeFacts.{within}
use Rattle.wasi_fs_nodes.proofs.CountFacts.{counted_taken, some_before}
use Rattle.wasi_fs_nodes.proofs.nodes.Nodes.take.Goals as goal

pub drop_link-requires-clause-some : goal.drop_link-requires-clause-some
drop_link-requires-clause-some c =
    rw c.take_name.ensures.links
    (some_before c.self.inside.rows.items c.self.inside.bytes c.args.dir c.args.node c.args.name.now c.self.invariant (ap (λ ns. entry_at ns c.args.dir c.args.name.now) c.self.view_is ∙ c.requires))

pub drop_link-requires-clause-within : goal.drop_link-requires-clause-within
drop_link-requires-clause-within c =
    let s = some_before c.self.inside.rows.items c.self.inside.bytes c.args.dir c.args.node c.args.name.now c.self.invariant (ap (λ ns. entry_at ns c.args.dir c.args.name.now) c.self.view_is ∙ c.requires) in
    omega (arith, within _ c.args.node s, length-map c.self.inside.rows.items (λ (r : Row). r.links), c.take_name.ensures.len)

pub invariant_of-self : goal.invariant_of-self
invariant_of-self c =
    counted_taken c.self.inside.rows.items c.drop_link.new.rows.items c.self.inside.bytes c.args.dir c.args.node c.args.name.now c.self.invariant
    (ap (λ ns. entry_at ns c.args.dir c.args.name.now) c.self.view_is ∙ c.requires)
    (c.drop_link.ensures.nodes ∙ c.take_name.ensures.nodes)
    (c.drop_link.ensures.links ∙ ap (λ ls. set ls c.args.node (get_or ls c.args.node 0 - 1)) c.take_name.ensures.links)
    (c.drop_link.ensures.len ∙ c.take_name.ensures.len)
