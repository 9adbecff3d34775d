use Rattle.std.proofs.Common.{◌++◌, refl, ap, sym, ◌∙◌}
use Rattle.std.specs.Vec.Iter.{into_iter_items}
use Rattle.wasi_fs_nodes.specs.Stats.{pairs_of}
use Rattle.wasi_fs.specs.Listing.{type_of_node, entries_told}
use Rattle.wasi_fs.proofs.ListFacts.{one_more}
use Rattle.wasi_fs.proofs.list.told.Goals as goal

pub loop-entry-preserved : goal.loop-entry-preserved
loop-entry-preserved c =
    one_more c.args.nodes.now c.loop-entry.entries.items c.in-Some.entry (into_iter_items c.next.new.self) c.type_of_node.result c.in-Some.entry.name
    (c.type_of_node.ensures ∙ ap type_of_node c.kind.ensures) refl c.push.new.self.items c.in_ok-push.ensures.items
    ∙ ap (λ it. c.loop-entry.entries.items ++ entries_told c.args.nodes.now (pairs_of it)) (sym c.in-Some.ensures.steps.0)
    ∙ c.loop-entry.invariant
