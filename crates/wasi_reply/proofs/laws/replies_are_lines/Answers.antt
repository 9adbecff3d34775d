use Rattle.wasi_reply.specs.laws.ReplyLines.{are_lines}
use Rattle.wasi_reply.proofs.laws.replies_are_lines.Goals as goal

pub returns : goal.returns
returns c = are_lines
