-- What a session is: the host, and whether a step was refused for memory.
use Rattle.std.specs.Prelude.{◌≡◌, Bool, Option, ◌⊎◌, refl}
use Rattle.std.specs.Coded.{Coded, code_by, coded×, coded_bool}
use Rattle.wasi_base.specs.Source.{Told}
use Rattle.wasi_stdin.specs.Shared.{given_now}
use Rattle.wasi_script.specs.declared.lines.Line.{Line}
use Rattle.wasi_host.specs.Host.{Host, IsStep, reply_to}

pub record Sitting : Type 0 where
  pub host : Host
  pub refused : Bool

-- a step that found no memory made nothing, or all but its reply
abbrev pub Stopped : Option Told → Option Told → Host → Host → Line → Type 0
Stopped before after old new step = ((new ≡ old) × (after ≡ before)) ⊎ IsStep before after old new step (reply_to step old (given_now new.shared))

abbrev pub sitting_code : Coded Host → Coded Sitting
sitting_code host = code_by (Host × Bool) (coded× host coded_bool) (λ s. (s.host, s.refused)) (λ p. record { host = p.0; refused = p.1 }) (λ _. refl)
