use Rattle.std.proofs.Common.{◌∙◌, sym, ap}
use Rattle.std.specs.Str.{bytes_eq}
use Rattle.wasi_base.specs.IoKind.{kinds}
use Rattle.wasi_base.proofs.KindFacts.{named_past}
use Rattle.wasi_base.proofs.io_kind.IoKind.of_name.Goals as goal

pub loop-kind-preserved : goal.loop-kind-preserved
loop-kind-preserved c =
    named_past kinds c.loop-kind.kind-index _ c.args.name.now c.loop-kind-test.true
    (ap (bytes_eq c.args.name.now) (sym (c.as_bytes.ensures.value ∙ c.name.ensures)) ∙ sym c.eq.ensures ∙ c.if-eq.false)
    ∙ c.loop-kind.invariant
