use Rattle.std.proofs.Common.{◌≡◌, ◌<◌, length, arith}
use Rattle.wasi_streams.proofs.ReaderFacts.{kept_stays, left}
use Rattle.wasi_streams.proofs.async_read.AsyncReadStream.take_item.Goals as goal

pub returns-then-self-len : goal.returns-then-self-len
returns-then-self-len g c =
    let len : c.len.result ≡ length c.self.inside.kept.items = omega (arith, c.len.ensures, c.self.inside.kept.ok.0) in
    let some : c.self.inside.from < length c.self.inside.kept.items = omega (arith, c.if-self-len.true, len) in
    kept_stays c.args.self.now (rw (← c.self.view_is) (left c.self.inside.kept.items c.self.inside.from some))
