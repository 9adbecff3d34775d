use Rattle.wasi_fs.proofs.ListFacts.{told_here, told_in_order, told_all_known}
use Rattle.wasi_fs.proofs.list.entries_of.Goals as goal

pub returns-in-Ok-clause-entries : goal.returns-in-Ok-clause-entries
returns-in-Ok-clause-entries c = told_here c.told.result c.args.nodes.now _ _ c.told.ensures c.in-Ok.ensures.entries

pub returns-in-Ok-clause-ascending : goal.returns-in-Ok-clause-ascending
returns-in-Ok-clause-ascending c = told_in_order c.told.result c.args.nodes.now _ c.told.ensures c.in-Ok.ensures.ascending

pub returns-in-Ok-clause-known : goal.returns-in-Ok-clause-known
returns-in-Ok-clause-known c =
    told_all_known c.told.result c.args.nodes.now c.args.dir c.root.ensures.sound (told_here c.told.result c.args.nodes.now _ _ c.told.ensures c.in-Ok.ensures.entries)
