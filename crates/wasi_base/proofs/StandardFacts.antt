-- Sources and sinks that tell nothing.
use Rattle.std.proofs.Common.{◌≡◌, ℕ, List, Option, None, Result, Ok, Err, IfOk, OnErr, refl}
use Rattle.wasi_base.specs.declared.io_kind.IoKind.{IoKind}
use Rattle.wasi_base.specs.Sink.{Writes, Flushes}

pub nothing_more : (r : Result ℕ IoKind) (told : Option (List ℕ)) → IfOk r (λ n. told ≡ told)
nothing_more (Ok n) told = refl
nothing_more (Err kind) told = tt

pub nothing_lost : (r : Result ℕ IoKind) (told : Option (List ℕ)) → OnErr r (told ≡ told)
nothing_lost (Ok n) told = tt
nothing_lost (Err kind) told = refl

pub writes_untold : (n : ℕ) (r : Result ℕ IoKind) → Writes None n r None
writes_untold n r = record { told = λ l e. absurd (cc) }

pub flushes_untold : (r : Result (Unit {0}) IoKind) → Flushes None r None
flushes_untold r = record { told = λ l e. absurd (cc) }
