use Rattle.wasi_fs.specs.Calls.{removed}
use Rattle.wasi_fs.proofs.KeptFacts.{always_kept}
use Rattle.wasi_fs.proofs.tree.Tree.remove_directory_at.Goals as goal

pub returns-clause-kept : goal.returns-clause-kept
returns-clause-kept c =
    always_kept c.args.self.now c.take_directory.new.self c.take_directory.result (removed c.args.self.now.nodes c.args.at.now c.args.path.now) c.take_directory.ensures
    (c.calls_keep_kinds.ensures.remove c.args.self.now.nodes c.args.at.now c.args.path.now)
