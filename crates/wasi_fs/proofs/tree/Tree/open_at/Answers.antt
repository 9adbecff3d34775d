use Rattle.wasi_fs.specs.Opening.{opened}
use Rattle.wasi_fs.proofs.KeptFacts.{gave_kept, gave_of_tree, opened_stay, opened_is_of}
use Rattle.wasi_fs.proofs.tree.Tree.open_at.Goals as goal

pub returns-clause-of_tree : goal.returns-clause-of_tree
returns-clause-of_tree c =
    gave_of_tree c.args.self.now c.open.new.self c.open.result
    (opened c.args.self.now.nodes c.args.at.now c.args.path_flags c.args.path.now c.args.how c.args.flags c.args.now c.args.blocking) c.open.ensures
    (opened_is_of c.kinds_stay.ensures.emptied c.args.self.now c.args.at.now c.requires c.args.path_flags c.args.path.now c.args.how c.args.flags c.args.now c.args.blocking)

pub returns-clause-kept : goal.returns-clause-kept
returns-clause-kept c =
    gave_kept c.args.self.now c.open.new.self c.open.result
    (opened c.args.self.now.nodes c.args.at.now c.args.path_flags c.args.path.now c.args.how c.args.flags c.args.now c.args.blocking) c.open.ensures
    (opened_stay c.kinds_stay.ensures.made c.kinds_stay.ensures.emptied c.args.self.now.nodes c.args.at.now c.args.path_flags c.args.path.now c.args.how c.args.flags c.args.now c.args.blocking)
