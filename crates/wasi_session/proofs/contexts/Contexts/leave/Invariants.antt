use Rattle.std.proofs.Common.{◌≡◌}
use Rattle.wasi_host.specs.Host.{leave_each, leave_all}
use Rattle.wasi_session.specs.Contexts.{rows_by, settings_in}
use Rattle.wasi_session.proofs.contexts.Contexts.leave.Given as goal

-- once those that are left went too, all went
abbrev pub invariant-loop-context : goal.invariant-loop-context
invariant-loop-context l = leave_each l.who (rows_by settings_in l.context-iterator) l.streams ≡ leave_all l.who l.self.settings l.fn.streams
