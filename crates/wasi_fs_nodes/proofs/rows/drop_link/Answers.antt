use Rattle.std.proofs.Common.{refl}
use Rattle.wasi_fs_nodes.proofs.RowFacts.{nodes_kept, links_lowered}
use Rattle.wasi_fs_nodes.proofs.rows.drop_link.Goals as goal

pub returns-clause-nodes : goal.returns-clause-nodes
returns-clause-nodes c = nodes_kept c.args.rows.now.items c.args.node c.index_mut.result.now _ c.index_mut.ensures.value refl

pub returns-clause-links : goal.returns-clause-links
returns-clause-links c = links_lowered c.args.rows.now.items c.args.node c.index_mut.result.now _ c.index_mut.ensures.value refl
