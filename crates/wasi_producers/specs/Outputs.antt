-- A consumer of bytes for an output, poll by poll. A poll is one write and then one flush.
use Rattle.std.specs.Prelude.{ℕ, zero, suc, Option, Some, None, Result, Ok, Err, Bool, true, false}
use Rattle.wasi_base.specs.declared.polled.Polled.{Polled}
use Rattle.wasi_base.specs.declared.polled.Polled.TheVariants as polled
use Rattle.wasi_producers.specs.Codes.{cli_code}
use Rattle.wasi_producers.specs.Inputs.{code_sent}
use Rattle.wasi_producers.specs.declared.output.OutputStreamConsumer.{OutputStreamConsumer}
use Rattle.wasi_producers.specs.declared.output.OutputStreamConsumer.TheVariants.{Open, Ended}
use Rattle.wasi_producers.specs.declared.output.Want.{Want}
use Rattle.wasi_producers.specs.declared.output.Want.TheVariants.{Flush, Nothing, Write}
use Rattle.wasi_producers.specs.declared.output.Wrote.{Wrote}
use Rattle.wasi_producers.specs.declared.output.Wrote.TheVariants.{Now, ThenFlush}
use Rattle.wasi_producers.specs.declared.results.CliErrorCode.{CliErrorCode}
use Rattle.wasi_producers.specs.declared.results.CliErrorCode.TheVariants as code
use Rattle.wasi_producers.specs.declared.results.Consumed.{Consumed}
use Rattle.wasi_producers.specs.declared.results.StreamResult.{StreamResult}
use Rattle.wasi_producers.specs.declared.results.StreamResult.TheVariants.{Completed, Dropped, Cancelled, Pending}

abbrev pub consumed : StreamResult → ℕ → Consumed
consumed result taken = record { result = result; taken = taken }

-- what a poll begins with: a flush that is pending comes first, and no piece is taken beside it
abbrev pub wanted : OutputStreamConsumer → ℕ → Want
wanted (Open true) length = Flush
wanted (Open false) zero = Nothing
wanted (Open false) (suc n) = Write
wanted (Ended sent) length = Nothing

-- a poll that wants nothing
abbrev pub no_bytes : OutputStreamConsumer → Consumed
no_bytes (Open flushing) = consumed Completed 0
no_bytes (Ended sent) = consumed Dropped 0

-- THE WRITE, by what the output answered. An output that takes none of a piece failed.
abbrev pub open_wrote : Bool → Polled ℕ → Bool → Wrote × OutputStreamConsumer
open_wrote flushing polled.Pending false = (Now (consumed Pending 0), Open flushing)
open_wrote flushing polled.Pending true = (Now (consumed Cancelled 0), Open flushing)
open_wrote flushing (polled.Ready zero) finish = (Now (consumed Dropped 0), Ended (Err code.Io))
open_wrote flushing (polled.Ready (suc n)) finish = (ThenFlush (suc n), Open flushing)
open_wrote flushing (polled.Failed kind) finish = (Now (consumed Dropped 0), Ended (Err (cli_code kind)))

abbrev pub output_wrote : OutputStreamConsumer → Polled ℕ → Bool → Wrote × OutputStreamConsumer
output_wrote (Open flushing) got finish = open_wrote flushing got finish
output_wrote (Ended sent) got finish = (Now (consumed Dropped 0), Ended sent)

-- THE FLUSH, by what the output answered, after a write that took so many bytes
abbrev pub open_flushed : Polled (Unit {0}) → ℕ → Bool → Consumed × OutputStreamConsumer
open_flushed polled.Pending taken false = (consumed Pending taken, Open true)
open_flushed polled.Pending taken true = (consumed Cancelled taken, Open false)
open_flushed (polled.Ready done) taken finish = (consumed Completed taken, Open false)
open_flushed (polled.Failed kind) taken finish = (consumed Dropped taken, Ended (Err (cli_code kind)))

abbrev pub output_flushed : OutputStreamConsumer → Polled (Unit {0}) → ℕ → Bool → Consumed × OutputStreamConsumer
output_flushed (Open flushing) got taken finish = open_flushed got taken finish
output_flushed (Ended sent) got taken finish = (consumed Dropped 0, Ended sent)

-- a stream that is closed before it ended sends Ok
abbrev pub output_closed : OutputStreamConsumer → OutputStreamConsumer
output_closed (Open flushing) = Ended (Ok tt)
output_closed (Ended sent) = Ended sent

abbrev pub output_ended : OutputStreamConsumer → Bool
output_ended (Open flushing) = false
output_ended (Ended sent) = true

-- the code of the error that ended it, if one did
abbrev pub output_code : OutputStreamConsumer → Option CliErrorCode
output_code (Open flushing) = None
output_code (Ended sent) = code_sent sent
