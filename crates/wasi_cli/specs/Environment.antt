-- A context of the command line in which nothing was set.
use Rattle.std.specs.Prelude.{[], None}
use Rattle.wasi_cli.specs.declared.context.WasiCliCtx.{WasiCliCtx}
use Rattle.wasi_cli.specs.declared.kinds.InKind.TheVariants as input
use Rattle.wasi_cli.specs.declared.kinds.OutKind.TheVariants as output

abbrev pub no_command_line : WasiCliCtx
no_command_line = record {
  environment = [];
  arguments = [];
  initial_cwd = None;
  stdin = input.Empty;
  stdout = output.Empty;
  stderr = output.Empty;
}
