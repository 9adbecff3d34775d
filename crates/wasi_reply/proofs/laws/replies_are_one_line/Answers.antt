use Rattle.std.proofs.Common.{◌≢◌}
use Rattle.std.proofs.lemmas.List.Elements.{All-from_recursion}
use Rattle.wasi_reply.specs.Reply.{text_of}
use Rattle.wasi_reply.specs.laws.ReplyLines.{text_line}
use Rattle.wasi_reply.proofs.laws.replies_are_one_line.Goals as goal

pub returns : goal.returns
returns c = λ reply. All-from_recursion (λ byte. byte ≢ 10) (text_of reply) (text_line reply)
