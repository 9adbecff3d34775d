use Rattle.std.proofs.Common.{refl}
use Rattle.wasi_fs_nodes.proofs.RowFacts.{times_changed, links_kept}
use Rattle.wasi_fs_nodes.proofs.rows.set_times.Goals as goal

pub returns-clause-nodes : goal.returns-clause-nodes
returns-clause-nodes c = times_changed c.args.access c.args.modification c.args.rows.now.items c.args.node c.index_mut.result.now _ c.index_mut.ensures.value c.with.ensures

pub returns-clause-links : goal.returns-clause-links
returns-clause-links c = links_kept c.args.rows.now.items c.args.node c.index_mut.result.now _ c.index_mut.ensures.value refl
