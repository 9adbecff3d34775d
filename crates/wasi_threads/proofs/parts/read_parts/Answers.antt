use Rattle.std.proofs.Common.{ap, ◌∙◌}
use Rattle.wasi_stdin.specs.Shared.{bytes_read}
use Rattle.wasi_threads.specs.History.{kept_reading}
use Rattle.wasi_threads.proofs.ShareFacts.{reads_given}
use Rattle.wasi_threads.proofs.parts.read_parts.Goals as goal

pub returns-clause-reply : goal.returns-clause-reply
returns-clause-reply c =
    let front = reads_given c.skip-answer.result c.args.core.now _ c.args.size _ c.held.ensures.same c.in_ok-given.ensures.held c.skip-answer.ensures.answer in
    c.answered.ensures.reply ∙ front

pub returns-clause-answer : goal.returns-clause-answer
returns-clause-answer c =
    let front = reads_given c.skip-answer.result c.args.core.now _ c.args.size _ c.held.ensures.same c.in_ok-given.ensures.held c.skip-answer.ensures.answer in
    c.answered.ensures.answer ∙ ap kept_reading front

pub returns-clause-bytes : goal.returns-clause-bytes
returns-clause-bytes c =
    let front = reads_given c.skip-answer.result c.args.core.now _ c.args.size _ c.held.ensures.same c.in_ok-given.ensures.held c.skip-answer.ensures.answer in
    c.answered.ensures.bytes ∙ ap bytes_read front

pub returns-clause-copy : goal.returns-clause-copy
returns-clause-copy c =
    let front = reads_given c.skip-answer.result c.args.core.now _ c.args.size _ c.held.ensures.same c.in_ok-given.ensures.held c.skip-answer.ensures.answer in
    c.answered.ensures.copy ∙ ap bytes_read front
