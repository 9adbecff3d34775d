use Rattle.std.proofs.Common.{sym, ap, ◌∙◌, length, drop, take, ◌++◌, ◌+◌}
use Rattle.wasi_fs_nodes.proofs.WriteFacts.{one_write}
use Rattle.wasi_fs_nodes.proofs.content.write_bytes.Goals as goal

pub returns-clause-ok : goal.returns-clause-ok
returns-clause-ok c =
    one_write c.args.bytes.now.items c.fill_to.new.bytes.items c.copy_in.new.bytes c.args.more.now c.args.place c.fill_to.new.bytes.len
    c.in_ok-fill_to.ensures.ok
    (c.copy_in.ensures ∙ ap (λ ys. take c.args.place ys ++ (c.args.more.now ++ drop (c.args.place + length c.args.more.now) ys)) c.as_mut_slice.ensures.value)
    (sym c.as_mut_slice.ensures.len ∙ ap length c.as_mut_slice.ensures.value)
