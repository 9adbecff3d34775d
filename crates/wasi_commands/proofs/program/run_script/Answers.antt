use Rattle.wasi_commands.proofs.program.run_script.Goals as goal

pub returns-in-Err-Fault-clause-script : goal.returns-in-Err-Fault-clause-script
returns-in-Err-Fault-clause-script g c = λ s e. rw c.in-Err-Fault.field-0-is at (c.in-Err-Fault.ensures.part s e)

pub returns-in-Err-TooLong-clause-script : goal.returns-in-Err-TooLong-clause-script
returns-in-Err-TooLong-clause-script g c = λ s e. rw c.in-Err-TooLong.field-0-is at (c.in-Err-TooLong.ensures.part s e)

pub returns-clause-stopped : goal.returns-clause-stopped
returns-clause-stopped g c = λ s t e f. rw f (g.met.P.Program.may_stop_unread s.left t (g.K.Sink.taken c.args.out.now))
