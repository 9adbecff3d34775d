-- What holds of every run of a producer or a consumer, whatever its input or output answers and whenever it is closed.
use Rattle.std.specs.Prelude.{◌≡◌, ℕ, List, [], ◌∷◌, ◌++◌, Result, Bool}
use Rattle.wasi_base.specs.declared.polled.Polled.{Polled}
use Rattle.wasi_base.specs.declared.polled.Polled.TheVariants as polled
use Rattle.wasi_producers.specs.Inputs.{input_polled, input_closed}
use Rattle.wasi_producers.specs.Outputs.{output_wrote, output_flushed, output_closed}
use Rattle.wasi_producers.specs.declared.input.InputStreamProducer.{InputStreamProducer}
use Rattle.wasi_producers.specs.declared.input.InputStreamProducer.TheVariants as input
use Rattle.wasi_producers.specs.declared.output.OutputStreamConsumer.{OutputStreamConsumer}
use Rattle.wasi_producers.specs.declared.output.OutputStreamConsumer.TheVariants as output
use Rattle.wasi_producers.specs.declared.results.CliErrorCode.{CliErrorCode}

-- what happens to a producer: a poll, with what its input gave, or a close
pub data InputEvent : Type 0 where
  Poll : Polled (List ℕ) → Bool → InputEvent
  Close : InputEvent

abbrev pub after_input : InputEvent → InputStreamProducer → InputStreamProducer
after_input (Poll got finish) p = (input_polled p got finish).1
after_input Close p = input_closed p

abbrev pub bytes_out : InputEvent → InputStreamProducer → List ℕ
bytes_out (Poll got finish) p = (input_polled p got finish).0.bytes
bytes_out Close p = []

-- all the bytes that it hands out, and what it is in the end
abbrev pub all_out : List InputEvent → InputStreamProducer → List ℕ
all_out [] p = []
all_out (e ∷ events) p = bytes_out e p ++ all_out events (after_input e p)

abbrev pub input_at_end : List InputEvent → InputStreamProducer → InputStreamProducer
input_at_end [] p = p
input_at_end (e ∷ events) p = input_at_end events (after_input e p)

-- the result that is sent stays, and nothing is handed out after it
abbrev pub ProducersEndOnce : Type 0
ProducersEndOnce = (sent : Result (Unit {0}) CliErrorCode) (events : List InputEvent) → (input_at_end events (input.Ended sent) ≡ input.Ended sent) × (all_out events (input.Ended sent) ≡ [])

-- what the input gave before its end, its failure or the close
abbrev pub read_before_end : List InputEvent → List ℕ
read_before_end [] = []
read_before_end (Poll polled.Pending finish ∷ events) = read_before_end events
read_before_end (Poll (polled.Ready []) finish ∷ events) = []
read_before_end (Poll (polled.Ready (b ∷ bytes)) finish ∷ events) = (b ∷ bytes) ++ read_before_end events
read_before_end (Poll (polled.Failed kind) finish ∷ events) = []
read_before_end (Close ∷ events) = []

-- no byte that was read is lost, and none is handed out twice
abbrev pub ProducersHandOut : Type 0
ProducersHandOut = (events : List InputEvent) → all_out events input.Open ≡ read_before_end events

-- what happens to a consumer: what its output answered a write or a flush, or a close
pub data OutputEvent : Type 0 where
  Wrote : Polled ℕ → Bool → OutputEvent
  Flushed : Polled (Unit {0}) → ℕ → Bool → OutputEvent
  Shut : OutputEvent

abbrev pub after_output : OutputEvent → OutputStreamConsumer → OutputStreamConsumer
after_output (Wrote got finish) c = (output_wrote c got finish).1
after_output (Flushed got taken finish) c = (output_flushed c got taken finish).1
after_output Shut c = output_closed c

abbrev pub output_at_end : List OutputEvent → OutputStreamConsumer → OutputStreamConsumer
output_at_end [] c = c
output_at_end (e ∷ events) c = output_at_end events (after_output e c)

-- the result that is sent stays
abbrev pub ConsumersEndOnce : Type 0
ConsumersEndOnce = (sent : Result (Unit {0}) CliErrorCode) (events : List OutputEvent) → output_at_end events (output.Ended sent) ≡ output.Ended sent
