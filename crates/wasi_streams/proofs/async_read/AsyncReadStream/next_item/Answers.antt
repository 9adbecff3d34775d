use Rattle.std.proofs.Common.{◌≡◌, ◌<◌, length, arith}
use Rattle.wasi_streams.specs.Reader.{item_of}
use Rattle.wasi_streams.proofs.ReaderFacts.{kept_counted}
use Rattle.wasi_streams.proofs.async_read.AsyncReadStream.next_item.Goals as goal

pub returns-then-self-len : goal.returns-then-self-len
returns-then-self-len g c =
    let len : c.len.result ≡ length c.self.inside.kept.items = omega (arith, c.len.ensures, c.self.inside.kept.ok.0) in
    let again : c.len-then-self-len.result ≡ length c.self.inside.kept.items = omega (arith, c.len-then-self-len.ensures, c.self.inside.kept.ok.0) in
    let some : c.self.inside.from < length c.self.inside.kept.items = omega (arith, c.if-self-len.true, len) in
    rw (← c.self.view_is) (kept_counted c.self.inside.kept.items c.self.inside.from c.len-then-self-len.result (item_of c.self.inside.channel c.self.inside.block.items) some again)
