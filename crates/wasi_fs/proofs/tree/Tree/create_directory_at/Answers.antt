use Rattle.wasi_fs.specs.Calls.{directory_created}
use Rattle.wasi_fs.proofs.KeptFacts.{left_kept}
use Rattle.wasi_fs.proofs.tree.Tree.create_directory_at.Goals as goal

pub returns-clause-kept : goal.returns-clause-kept
returns-clause-kept c =
    left_kept c.args.self.now c.make_directory.new.self c.make_directory.result (directory_created c.args.self.now.nodes c.args.at.now c.args.path.now c.args.now) c.make_directory.ensures
    (c.calls_keep_kinds.ensures.directory c.args.self.now.nodes c.args.at.now c.args.path.now c.args.now)
