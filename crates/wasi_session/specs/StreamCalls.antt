-- A call on the stream that a standard stream of a context is: what is to be done, and what it leaves of the streams.
use Rattle.std.specs.Prelude.{ℕ, Option}
use Rattle.wasi_script.specs.declared.lines.Standard.{Standard}
use Rattle.wasi_script.specs.declared.lines.Standard.TheVariants as standard
use Rattle.wasi_script.specs.declared.lines.EntryCall.{EntryCall}
use Rattle.wasi_script.specs.declared.lines.Input.{Input}
use Rattle.wasi_script.specs.declared.lines.Output.{Output}
use Rattle.wasi_host.specs.declared.entry.StreamEntry.{StreamEntry}
use Rattle.wasi_host.specs.declared.settings.Settings.{Settings}
use Rattle.wasi_cli.specs.declared.owner.Owner.{Owner}
use Rattle.wasi_host.specs.Calls.{Doing, doing, called, sent}
use Rattle.wasi_host.specs.Host.{Streams, input_at, put_input, output_at, put_output}

abbrev pub input_doing : EntryCall → Option ℕ → Owner → StreamEntry → Input → Streams → Doing Streams
input_doing it context at entry from streams = let done = called it context at entry (input_at from streams) in doing done.deed (put_input from done.left streams)

abbrev pub output_doing : EntryCall → Option ℕ → Standard → Owner → StreamEntry → Output → Streams → Doing Streams
output_doing it context which at entry to streams = let done = sent it context which at entry (output_at to streams) in doing done.deed (put_output to done.left streams)

abbrev pub stream_doing : EntryCall → Owner → Option ℕ → Standard → StreamEntry → Settings → Streams → Doing Streams
stream_doing it at context standard.Input entry settings streams = input_doing it context at entry settings.input streams
stream_doing it at context standard.Output entry settings streams = output_doing it context standard.Output at entry settings.stdout streams
stream_doing it at context standard.Error entry settings streams = output_doing it context standard.Error at entry settings.stderr streams
