use Rattle.wasi_reply.proofs.FixedReplies.{texts_fix}
use Rattle.wasi_reply.proofs.laws.texts_fix_replies.Goals as goal

pub returns : goal.returns
returns c = texts_fix
