-- The random sources of a context, and what its guest is told of them.
use Rattle.std.specs.Prelude.{◌/◌, ◌%◌, ◌^◌, cond, nat_lt, min}
use Rattle.wasi_base.specs.declared.trap_text.TrapText.TheVariants.{RequestedLength}
use Rattle.wasi_random.specs.declared.known.KnownGenerator.{KnownGenerator}
use Rattle.wasi_random.specs.Known.{of_number, known_u64, known_bytes}
use Rattle.wasi_script.specs.declared.lines.RandomSource.{RandomSource}
use Rattle.wasi_script.specs.declared.lines.RandomSource.TheVariants as source
use Rattle.wasi_script.specs.declared.lines.RandomCall.{RandomCall}
use Rattle.wasi_script.specs.declared.lines.RandomCall.TheVariants as random
use Rattle.wasi_reply.specs.declared.reply.Told.{Told}
use Rattle.wasi_reply.specs.declared.reply.Told.TheVariants as told
use Rattle.wasi_host.specs.declared.settings.Settings.{Settings}
pub use Rattle.wasi_host.specs.declared.random.Sources.{Sources}

-- both sources are of the seed 0 unless lines say otherwise
abbrev pub new_sources : Sources
new_sources = record { secure = of_number 0; insecure = of_number 0 }

abbrev pub source_at : RandomSource → Sources → KnownGenerator
source_at source.Secure sources = sources.secure
source_at source.Insecure sources = sources.insecure

abbrev pub with_source : RandomSource → KnownGenerator → Sources → Sources
with_source source.Secure it sources = record sources { secure = it }
with_source source.Insecure it sources = record sources { insecure = it }

-- what a call is told, and what it leaves of its context's sources
pub record Drawn : Type 0 where
  pub told : Told
  pub left : Sources

-- a draw leaves the other source as it was
abbrev pub draw : {A : Type 0} → (KnownGenerator → A × KnownGenerator) → (A → Told) → RandomSource → Sources → Drawn
draw next tell from sources = let it = next (source_at from sources) in record { told = tell it.0; left = with_source from it.1 sources }

abbrev pub drawn : RandomCall → Settings → Sources → Drawn
drawn (random.Bytes from count) settings sources =
    cond (nat_lt settings.most_random count)
    (record { told = told.Trap (RequestedLength count settings.most_random); left = sources })
    (draw (known_bytes count) told.Bytes from sources)
drawn (random.BytesUpTo from count) settings sources = draw (known_bytes (min count settings.most_random)) told.Bytes from sources
drawn (random.Number from) settings sources = draw known_u64 told.Count from sources
drawn random.InsecureSeed settings sources = record { told = told.Seed (settings.insecure_seed % 2 ^ 64) (settings.insecure_seed / 2 ^ 64); left = sources }
