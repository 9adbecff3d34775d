use Rattle.std.proofs.Common.{◌∙◌, ap, arith, length}
use Rattle.wasi_fs_nodes.specs.Nodes.{kind_at, bytes_at}
use Rattle.wasi_fs_nodes.proofs.CountFacts.{counted_sized}
use Rattle.wasi_fs_nodes.proofs.nodes.Nodes.empty.Goals as goal

pub invariant_of-self : goal.invariant_of-self
invariant_of-self c =
    counted_sized c.self.inside.rows.items c.clear_file.new.rows.items c.self.inside.bytes _ c.file_size-before.result c.args.file 0 c.self.invariant
    (ap (λ ns. kind_at ns c.args.file) c.self.view_is ∙ c.requires)
    c.clear_file.ensures.nodes c.clear_file.ensures.links c.clear_file.ensures.len
    (omega (arith, c.file_size-before.ensures, ap (λ ns. length (bytes_at ns c.args.file)) c.self.view_is))
    (omega (arith, c.self.invariant.sum, c.self.invariant.room))
    (omega arith)
