-- Plain calls on a shared stream: the stream's own calls, but traps while anybody has the turn.
use Rattle.std.specs.Prelude.{Option, Some, None, Result, Err}
use Rattle.wasi_base.specs.declared.stream_error.StreamError.{StreamError}
use Rattle.wasi_base.specs.declared.stream_error.StreamError.TheVariants.{Trap}
use Rattle.wasi_base.specs.declared.trap_text.TrapText.{TrapText}
use Rattle.wasi_cli.specs.declared.owner.Owner.{Owner}

abbrev pub unless_held : {A : Type 0} → Option Owner → TrapText → Result A StreamError → Result A StreamError
unless_held None text answer = answer
unless_held (Some holder) text answer = Err (Trap text)

abbrev pub after_unless_held : {A : Type 0} → Option Owner → A → A → A
after_unless_held None before after = after
after_unless_held (Some holder) before after = before
