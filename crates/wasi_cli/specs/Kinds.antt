-- Which stream each kind of input and output stands for, by the way in which it is called.
use Rattle.std.specs.Prelude.{Bool, false}
use Rattle.wasi_cli.specs.declared.kinds.InKind.{InKind}
use Rattle.wasi_cli.specs.declared.kinds.InKind.TheVariants as input
use Rattle.wasi_cli.specs.declared.kinds.OutKind.{OutKind}
use Rattle.wasi_cli.specs.declared.kinds.OutKind.TheVariants as output
use Rattle.wasi_cli.specs.declared.streams.PolledIn.{PolledIn}
use Rattle.wasi_cli.specs.declared.streams.PolledIn.TheVariants as polled_in
use Rattle.wasi_cli.specs.declared.streams.P2In.{P2In}
use Rattle.wasi_cli.specs.declared.streams.P2In.TheVariants as p2_in
use Rattle.wasi_cli.specs.declared.streams.PolledOut.{PolledOut}
use Rattle.wasi_cli.specs.declared.streams.PolledOut.TheVariants as polled_out
use Rattle.wasi_cli.specs.declared.streams.P2Out.{P2Out}
use Rattle.wasi_cli.specs.declared.streams.P2Out.TheVariants as p2_out

-- a terminal where the kind says so, and no other kind is one
abbrev pub in_terminal : InKind → Bool
in_terminal (input.Shared terminal) = terminal
in_terminal _ = false

abbrev pub out_terminal : OutKind → Bool
out_terminal (output.Stdio number terminal) = terminal
out_terminal _ = false

abbrev pub in_polled : InKind → PolledIn
in_polled (input.Shared terminal) = polled_in.Shared
in_polled input.Empty = polled_in.Empty
in_polled input.Closed = polled_in.Empty
in_polled (input.Pipe number) = polled_in.Pipe number
in_polled (input.File number) = polled_in.File number
in_polled (input.Async number) = polled_in.Async number

abbrev pub in_p2 : InKind → P2In
in_p2 (input.Shared terminal) = p2_in.Shared
in_p2 input.Empty = p2_in.Closed
in_p2 input.Closed = p2_in.Closed
in_p2 (input.Pipe number) = p2_in.Pipe number
in_p2 (input.File number) = p2_in.File number
in_p2 (input.Async number) = p2_in.Async number

abbrev pub out_polled : OutKind → PolledOut
out_polled output.Empty = polled_out.Empty
out_polled output.Sink = polled_out.Empty
out_polled output.Closed = polled_out.Closed
out_polled (output.Pipe number) = polled_out.Pipe number
out_polled (output.File number) = polled_out.File number
out_polled (output.Stdio number terminal) = polled_out.Stdio number
out_polled (output.Buffered number) = polled_out.Buffered number

abbrev pub out_p2 : OutKind → P2Out
out_p2 output.Empty = p2_out.Sink
out_p2 output.Sink = p2_out.Sink
out_p2 output.Closed = p2_out.Closed
out_p2 (output.Pipe number) = p2_out.Pipe number
out_p2 (output.File number) = p2_out.File number
out_p2 (output.Stdio number terminal) = p2_out.Stdio number
out_p2 (output.Buffered number) = p2_out.Buffered number
