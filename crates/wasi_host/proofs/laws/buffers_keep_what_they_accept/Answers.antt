use Rattle.wasi_host.specs.laws.Buffered.{buffers_keep}
use Rattle.wasi_host.proofs.laws.buffers_keep_what_they_accept.Goals as goal

pub returns : goal.returns
returns c = buffers_keep
