-- The contexts of a guest as the code keeps them: each with what lines say of it and its random sources.
use Rattle.std.specs.Prelude.{ℕ, List, [], ◌∷◌, refl}
use Rattle.std.specs.Coded.{Coded, code_by, coded×}
use Rattle.wasi_host.specs.declared.settings.Settings.{Settings}
use Rattle.wasi_host.specs.declared.random.Sources.{Sources}
use Rattle.wasi_host.specs.Contexts.{ByContext}
use Rattle.wasi_host.specs.Codes.{by_context_code}
use Rattle.wasi_session.specs.declared.contexts.GuestContext.{GuestContext}

pub record Contexts : Type 0 where
  pub settings : ByContext Settings
  pub sources : ByContext Sources

-- one part of each
abbrev pub rows_by : {A V : Type 0} → (A → V) → List (ℕ × A) → List (ℕ × V)
rows_by part [] = []
rows_by part (row ∷ rows) = (row.0, part row.1) ∷ rows_by part rows

abbrev pub by_part : {A V : Type 0} → (A → V) → A → List (ℕ × A) → ByContext V
by_part part main named = record { main = part main; named = rows_by part named }

abbrev pub settings_in : GuestContext → Settings
settings_in context = context.settings

abbrev pub sources_in : GuestContext → Sources
sources_in context = context.sources

abbrev pub contexts_of : GuestContext → List (ℕ × GuestContext) → Contexts
contexts_of main named = record { settings = by_part settings_in main named; sources = by_part sources_in main named }

abbrev pub contexts_code : Coded Settings → Coded Sources → Coded Contexts
contexts_code settings sources = code_by (ByContext Settings × ByContext Sources) (coded× (by_context_code settings) (by_context_code sources)) (λ c. (c.settings, c.sources)) (λ p. record { settings = p.0; sources = p.1 }) (λ _. refl)
