use Rattle.std.proofs.Common.{◌∙◌, arith}
use Rattle.wasi_threads.proofs.BytesFacts.{all_read, written_whole}
use Rattle.wasi_threads.proofs.collect.held_bytes.Goals as goal

pub returns : goal.returns
returns c =
    let whole = all_read c.read.result c.read.new.dst c.args.core c.held_count-count.result c.captured.ensures.sound c.held_count-count.ensures (omega (arith, c.in_ok-held.ensures.len)) c.read.ensures.answer c.read.ensures.count in
    c.new.ensures ∙ (written_whole c.read.new.dst _ c.in_ok-held.held.len (omega (arith, c.in_ok-held.ensures.len)) ∙ whole)
