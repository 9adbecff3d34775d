use Rattle.std.proofs.Common.{arith, ap, length, length-append}
use Rattle.wasi_commands.proofs.command.run_command.Goals as goal

pub returns-in-Err-ReadFault-clause-read : goal.returns-in-Err-ReadFault-clause-read
returns-in-Err-ReadFault-clause-read g c = λ three. (rw c.in-Err-ReadFault.field-0-is at c.in-Err-ReadFault.ensures.read, λ s e. rw c.in-Err-ReadFault.field-0-is at (c.in-Err-ReadFault.ensures.script s e), c.tell-in-Err-ReadFault.ensures.tells)

pub returns-in-Err-TooLong-clause-too_long : goal.returns-in-Err-TooLong-clause-too_long
returns-in-Err-TooLong-clause-too_long g c = λ four. (λ s e. rw c.in-Err-TooLong.field-0-is at (c.in-Err-TooLong.ensures.script s e), c.tell-in-Err-TooLong.ensures.tells)

pub returns-in-Err-TooLong-clause-complete : goal.returns-in-Err-TooLong-clause-complete
returns-in-Err-TooLong-clause-complete g c = λ s e words valid short reads writes.
    let past = rw c.in-Err-TooLong.field-0-is at (c.in-Err-TooLong.ensures.script s e) in
    absurd (omega (arith, ap length past.taken.all, length-append past.bytes past.taken.at.left, past.past, short))

pub returns-in-Err-BadScript-clause-bad : goal.returns-in-Err-BadScript-clause-bad
returns-in-Err-BadScript-clause-bad g c = λ five. (c.in-Err-BadScript.number, λ s e. rw c.in-Err-BadScript.field-0-is at (c.in-Err-BadScript.ensures.script s e), c.tell_bad_script.ensures)

pub returns-in-Err-BadScript-clause-complete : goal.returns-in-Err-BadScript-clause-complete
returns-in-Err-BadScript-clause-complete g c = λ s e words valid short reads writes.
    let bad = rw c.in-Err-BadScript.field-0-is at (c.in-Err-BadScript.ensures.script s e) in
    absurd (g.met.P.Program.no_bad_line s.left c.in-Err-BadScript.number valid bad.1)

pub returns-in-Err-WriteFault-clause-write : goal.returns-in-Err-WriteFault-clause-write
returns-in-Err-WriteFault-clause-write g c = λ six. (rw c.in-Err-WriteFault.field-0-is at c.in-Err-WriteFault.ensures.write, λ s e. rw c.in-Err-WriteFault.field-0-is at (c.in-Err-WriteFault.ensures.script s e), c.tell-in-Err-WriteFault.ensures.tells)
