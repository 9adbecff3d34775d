use Rattle.std.proofs.Common.{List, sym, ap, ◌∙◌}
use Rattle.wasi_fs_nodes.specs.Changes.{new_file, new_directory, new_link}
use Rattle.wasi_fs_nodes.specs.declared.node.Node.{Node}
use Rattle.wasi_fs.specs.Calls.{added, allowed}
use Rattle.wasi_fs.specs.Times.{time_of}
use Rattle.wasi_fs.proofs.tree.Tree.may_add.Goals as goal

pub returns-clause-file : goal.returns-clause-file
returns-clause-file c bytes now e =
    c.may_add.ensures (λ dir. new_file bytes (time_of now)) (λ dir. e)
    ∙ ap (λ (nodes : List Node). allowed (added nodes c.args.path.now (λ dir. new_file bytes (time_of now)))) c.nodes.ensures

pub returns-clause-directory : goal.returns-clause-directory
returns-clause-directory c now e =
    c.may_add.ensures (λ dir. new_directory dir (time_of now)) (λ dir. sym e)
    ∙ ap (λ (nodes : List Node). allowed (added nodes c.args.path.now (λ dir. new_directory dir (time_of now)))) c.nodes.ensures

pub returns-clause-link : goal.returns-clause-link
returns-clause-link c text now e =
    c.may_add.ensures (λ dir. new_link text (time_of now)) (λ dir. sym e)
    ∙ ap (λ (nodes : List Node). allowed (added nodes c.args.path.now (λ dir. new_link text (time_of now)))) c.nodes.ensures
