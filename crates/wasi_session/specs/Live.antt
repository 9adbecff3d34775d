-- Lines that come one at a time: what each is, and which steps a session takes of them.
use Rattle.std.specs.Prelude.{◌≡◌, ℕ, ◌+◌, List, [], ◌∷◌, Option, Some, None}
use Rattle.wasi_base.specs.Source.{Given}
use Rattle.wasi_script.specs.declared.lines.Line.{Line}
use Rattle.wasi_script.specs.declared.forms.Reading.{Reading}
use Rattle.wasi_script.specs.declared.forms.Reading.TheVariants.{Note, Step, Invalid}
use Rattle.wasi_script.specs.Grammar.{Parsed, Steps, Bad, with_step, reading_after, lines_of, parsed}
use Rattle.wasi_host.specs.Host.{Host, new_host, names_of, host_after}

-- the step of a line, or none where it makes none; nothing where the line is not valid
abbrev pub step_if_any : Reading → Option (Option Line)
step_if_any Note = Some None
step_if_any (Step step) = Some (Some step)
step_if_any Invalid = None

-- A line, and then the lines after it. Its step is done before the next line is read; a delivery there gives what
-- `given` says of the line's number.
abbrev pub live_line : Reading → (ℕ → Given) → Host → ℕ → (Host → ℕ → Parsed) → Parsed
live_line Note given host number rest = rest host (number + 1)
live_line (Step step) given host number rest = with_step step (rest (host_after step host (given number)) (number + 1))
live_line Invalid given host number rest = Bad number

-- lines that are read one at a time, each by what the host holds then, from the line of this number on
abbrev pub taken_live : (ℕ → Given) → List (List ℕ) → Host → ℕ → Parsed
taken_live given [] host number = Steps []
taken_live given (text ∷ texts) host number = live_line (reading_after (names_of host) text) given host number (taken_live given texts)

-- whatever the deliveries give, the lines of a script are taken as the whole script takes them
abbrev pub LinesAreTakenInTheirPlace : Type 0
LinesAreTakenInTheirPlace = (given : ℕ → Given) (bytes : List ℕ) → taken_live given (lines_of bytes) new_host 1 ≡ parsed bytes
