-- A producer of an input's bytes, poll by poll.
use Rattle.std.specs.Prelude.{ℕ, List, [], ◌∷◌, Option, Some, None, Result, Ok, Err, Bool, true, false}
use Rattle.wasi_base.specs.declared.polled.Polled.{Polled}
use Rattle.wasi_base.specs.declared.polled.Polled.TheVariants as polled
use Rattle.wasi_producers.specs.Codes.{cli_code}
use Rattle.wasi_producers.specs.declared.input.InputStreamProducer.{InputStreamProducer}
use Rattle.wasi_producers.specs.declared.input.InputStreamProducer.TheVariants.{Open, Ended}
use Rattle.wasi_producers.specs.declared.results.CliErrorCode.{CliErrorCode}
use Rattle.wasi_producers.specs.declared.results.Produced.{Produced}
use Rattle.wasi_producers.specs.declared.results.StreamResult.{StreamResult}
use Rattle.wasi_producers.specs.declared.results.StreamResult.TheVariants.{Completed, Dropped, Cancelled, Pending}

-- how many bytes a poll reads at most
abbrev pub room_for : Option ℕ → ℕ
room_for None = 8192
room_for (Some room) = room

abbrev pub produced : StreamResult → List ℕ → Produced
produced result bytes = record { result = result; bytes = bytes }

-- A POLL, by what the input gave: its answer, and the producer after it
abbrev pub open_polled : Polled (List ℕ) → Bool → Produced × InputStreamProducer
open_polled polled.Pending false = (produced Pending [], Open)
open_polled polled.Pending true = (produced Cancelled [], Open)
open_polled (polled.Ready []) finish = (produced Dropped [], Ended (Ok tt))
open_polled (polled.Ready (b ∷ bytes)) finish = (produced Completed (b ∷ bytes), Open)
open_polled (polled.Failed kind) finish = (produced Dropped [], Ended (Err (cli_code kind)))

abbrev pub input_polled : InputStreamProducer → Polled (List ℕ) → Bool → Produced × InputStreamProducer
input_polled Open got finish = open_polled got finish
input_polled (Ended sent) got finish = (produced Dropped [], Ended sent)

-- a poll with room for nothing reads nothing
abbrev pub no_room : InputStreamProducer → Produced
no_room Open = produced Completed []
no_room (Ended sent) = produced Dropped []

-- a stream that is closed before it ended sends Ok
abbrev pub input_closed : InputStreamProducer → InputStreamProducer
input_closed Open = Ended (Ok tt)
input_closed (Ended sent) = Ended sent

abbrev pub input_ended : InputStreamProducer → Bool
input_ended Open = false
input_ended (Ended sent) = true

abbrev pub code_sent : Result (Unit {0}) CliErrorCode → Option CliErrorCode
code_sent (Ok done) = None
code_sent (Err code) = Some code

-- the code of the error that ended it, if one did
abbrev pub input_code : InputStreamProducer → Option CliErrorCode
input_code Open = None
input_code (Ended sent) = code_sent sent
