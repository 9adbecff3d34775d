use Rattle.std.proofs.Common.{rules, arith, sym, ap, ◌∙◌, subst, ◌≡◌, List, length}
use Rattle.std.proofs.lemmas.List.{length-map}
use Rattle.wasi_fs_nodes.specs.Nodes.{kind_at, entry_at, total_bytes}
use Rattle.wasi_fs_nodes.specs.Bodies.{with_name}
use Rattle.wasi_fs_nodes.specs.Shape.{IsFresh}
use Rattle.wasi_fs_nodes.specs.Counts.{nodes_in, links_list}
use Rattle.wasi_fs_nodes.specs.declared.node.Node.{Node}
use Rattle.wasi_fs_nodes.specs.declared.rows.Row.{Row}
use Rattle.wasi_fs_nodes.proofs.CountFacts.{counted_new}
use Rattle.wasi_fs_nodes.proofs.nodes.Nodes.add.Goals as goal

pub invariant_of-self-2 : goal.invariant_of-self-2
invariant_of-self-2 c =
    rw c.push_reserved.ensures.items
    (counted_new c.self.inside.rows.items c.put_name.new.rows.items c.self.inside.bytes c.args.dir c.args.name.now c.args.node c.bytes-size.result c.self.invariant
    (ap (λ ns. kind_at ns c.args.dir) c.self.view_is ∙ c.requires.is_dir)
    (ap (λ ns. entry_at ns c.args.dir c.args.name.now) c.self.view_is ∙ c.requires.absent)
    (let P : List Node → Type 0 = λ ns. IsFresh ns c.args.dir c.args.node in subst P (sym c.self.view_is) c.requires.fresh)
    c.bytes-size.ensures
    (c.in_ok-put_name.ensures.nodes ∙ ap (λ ns. with_name ns c.args.dir c.args.name.now c.len-number.result) (ap nodes_in c.in_ok-reserve.ensures.items) ∙ (let e : c.len-number.result ≡ length c.self.inside.rows.items = search rules in ap (with_name (nodes_in c.self.inside.rows.items) c.args.dir c.args.name.now) e))
    (c.in_ok-put_name.ensures.links ∙ ap links_list c.in_ok-reserve.ensures.items)
    (c.in_ok-put_name.ensures.len ∙ ap length c.in_ok-reserve.ensures.items)
    (omega (arith, length-map c.self.inside.rows.items (λ (r : Row). r.node), ap length c.self.view_is, c.requires.few))
    (omega (arith, c.self.invariant.sum, ap total_bytes c.self.view_is, c.requires.room, c.bytes-size.ensures)))
