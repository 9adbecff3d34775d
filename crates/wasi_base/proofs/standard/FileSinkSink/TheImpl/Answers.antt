use Rattle.std.proofs.Common.{length, None, refl}
use Rattle.wasi_base.proofs.StandardFacts.{nothing_more, nothing_lost, writes_untold, flushes_untold}
use Rattle.wasi_base.proofs.standard.FileSinkSink.TheImpl.Goals as goal

pub write-tells : goal.write-tells
write-tells g c = record {
  bound = c.ensures.bound;
  nothing = c.ensures.nothing;
  some = c.ensures.some;
  took = nothing_more c.result None;
  err = nothing_lost c.result None;
  limits = λ some. writes_untold (length c.args.piece.now) c.result;
  cause = c.ensures.cause;
}

pub flush-tells : goal.flush-tells
flush-tells g c = record { same = refl; limits = flushes_untold c.result; cause = c.ensures.cause }
