use Rattle.wasi_fs_streams.proofs.WriteFacts.{polled_at_once}
use Rattle.wasi_fs_streams.proofs.write.WriteStreamConsumer.poll_consume.Goals as goal

pub returns-in-Ok-send-clause-polled : goal.returns-in-Ok-send-clause-polled
returns-in-Ok-send-clause-polled g c =
    polled_at_once (g.T.Store.told c.args.store.now) (g.T.Store.contents c.args.store.now) c.args.piece.now c.args.finish c.args.self.now c.in-Open.file c.in-Open.location c.in-Open.task c.in-Ok-send.outcome c.written-after.result
    c.in-Open.is c.if-not-file.false c.in-Ok-send.ensures.takes c.written-after.ensures
