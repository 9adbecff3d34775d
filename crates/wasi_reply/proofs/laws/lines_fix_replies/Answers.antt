use Rattle.wasi_reply.proofs.FixedReplies.{lines_fix}
use Rattle.wasi_reply.proofs.laws.lines_fix_replies.Goals as goal

pub returns : goal.returns
returns c = lines_fix
