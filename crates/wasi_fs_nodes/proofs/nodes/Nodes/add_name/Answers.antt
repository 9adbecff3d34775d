use Rattle.std.proofs.Common.{◌+◌, ap, arith, ◌∙◌, length, set, get_or}
use Rattle.wasi_fs_nodes.specs.Nodes.{kind_at, is_directory, entry_at}
use Rattle.wasi_fs_nodes.proofs.CountFacts.{counted_link}
use Rattle.wasi_fs_nodes.proofs.nodes.Nodes.add_name.Goals as goal

pub invariant_of-self-2 : goal.invariant_of-self-2
invariant_of-self-2 c =
    counted_link c.self.inside.rows.items c.add_link.new.rows.items c.self.inside.bytes c.args.dir c.args.node c.args.name.now c.self.invariant
    (ap (λ ns. kind_at ns c.args.dir) c.self.view_is ∙ c.requires.is_dir)
    (ap (λ ns. entry_at ns c.args.dir c.args.name.now) c.self.view_is ∙ c.requires.absent)
    (omega (arith, ap length c.self.view_is, c.requires.made))
    (ap (λ ns. is_directory ns c.args.node) c.self.view_is ∙ c.requires.no_dir)
    (c.add_link.ensures.nodes ∙ c.in_ok-put_name.ensures.nodes)
    (c.add_link.ensures.links ∙ ap (λ ls. set ls c.args.node (get_or ls c.args.node 0 + 1)) c.in_ok-put_name.ensures.links)
    (c.add_link.ensures.len ∙ c.in_ok-put_name.ensures.len)
