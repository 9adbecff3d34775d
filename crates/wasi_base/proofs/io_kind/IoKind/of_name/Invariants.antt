use Rattle.std.proofs.Common.{◌≡◌, drop}
use Rattle.wasi_base.specs.IoKind.{named_among, kind_named}
use Rattle.wasi_base.proofs.io_kind.IoKind.of_name.Given as goal

abbrev pub invariant-loop-kind : goal.invariant-loop-kind
invariant-loop-kind l = named_among (drop l.kind-index l.kind-items) l.name ≡ kind_named l.name
