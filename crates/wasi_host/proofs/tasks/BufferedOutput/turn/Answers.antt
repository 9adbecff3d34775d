use Rattle.std.proofs.Common.{◌∙◌, ap}
use Rattle.wasi_streams.specs.Outputs.{Outlet}
use Rattle.wasi_streams.specs.Writer.{Writer}
use Rattle.wasi_host.specs.Turns.{InTurn}
use Rattle.wasi_host.specs.Tasks.{writer_turned}
use Rattle.wasi_host.proofs.TaskFacts.{turn_left}
use Rattle.wasi_host.proofs.tasks.BufferedOutput.turn.Goals as goal

pub returns-clause-left : goal.returns-clause-left
returns-clause-left c = ap (λ stream. record { turn = c.self.inside.turns; stream = stream }) (turn_left c.self.inside.stream c.turn.new.self c.turn.result c.turn.ensures.idle c.turn.ensures.writes c.turn.ensures.flushes) ∙ ap (λ (it : InTurn (Writer Outlet)). record it { stream = (writer_turned it.stream).left }) c.self.view_is
