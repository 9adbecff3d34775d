use Rattle.std.proofs.Common.{◌∙◌, ap, arith, length}
use Rattle.wasi_fs_nodes.specs.Nodes.{kind_at, bytes_at, total_bytes}
use Rattle.wasi_fs_nodes.proofs.CountFacts.{counted_written}
use Rattle.wasi_fs_nodes.proofs.nodes.Nodes.write_bytes.Goals as goal

pub invariant_of-self-2 : goal.invariant_of-self-2
invariant_of-self-2 c =
    counted_written c.self.inside.rows.items c.write_bytes.new.rows.items c.self.inside.bytes c.saturating_sub.result c.args.file c.args.place c.args.more.now c.self.invariant
    (ap (λ ns. kind_at ns c.args.file) c.self.view_is ∙ c.requires.is_file)
    c.in_ok-write_bytes.ensures.nodes c.in_ok-write_bytes.ensures.links c.in_ok-write_bytes.ensures.len
    (omega (arith, c.saturating_sub.ensures, c.file_size-size.ensures, ap (λ ns. length (bytes_at ns c.args.file)) c.self.view_is))
    (omega (arith, c.saturating_sub.ensures, c.file_size-size.ensures, ap total_bytes c.self.view_is, c.requires.room))
