use Rattle.wasi_base.proofs.trap_text.TrapTextDisplay.fmt.Goals as goal

-- src/trap_text.rt:29:5
pub returns-in-RequestedLength-clause-writes : goal.returns-in-RequestedLength-clause-writes
returns-in-RequestedLength-clause-writes g c = rw c.in-RequestedLength.is c.write-in-RequestedLength.ensures.writes
