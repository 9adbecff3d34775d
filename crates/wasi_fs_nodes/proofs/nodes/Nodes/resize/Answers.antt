use Rattle.std.proofs.Common.{◌∙◌, ap, arith, length}
use Rattle.wasi_fs_nodes.specs.Nodes.{kind_at, bytes_at, total_bytes}
use Rattle.wasi_fs_nodes.proofs.CountFacts.{counted_sized}
use Rattle.wasi_fs_nodes.proofs.nodes.Nodes.resize.Goals as goal

pub invariant_of-self-2 : goal.invariant_of-self-2
invariant_of-self-2 c =
    counted_sized c.self.inside.rows.items c.resize_file.new.rows.items c.self.inside.bytes _ c.file_size-before.result c.args.file c.args.size c.self.invariant
    (ap (λ ns. kind_at ns c.args.file) c.self.view_is ∙ c.requires.is_file)
    c.in_ok-resize_file.ensures.nodes c.in_ok-resize_file.ensures.links c.in_ok-resize_file.ensures.len
    (omega (arith, c.file_size-before.ensures, ap (λ ns. length (bytes_at ns c.args.file)) c.self.view_is))
    (omega (arith, c.file_size-before.ensures, ap total_bytes c.self.view_is, c.requires.room))
    (omega arith)
