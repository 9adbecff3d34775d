use Rattle.std.proofs.Common.{◌≡◌, ℕ, List, [], ◌∷◌, ◌++◌, Result, refl, ap, sym, ◌∙◌}
use Rattle.wasi_base.specs.declared.polled.Polled.TheVariants as polled
use Rattle.wasi_producers.specs.Promises.{InputEvent, Poll, Close, OutputEvent, Wrote, Flushed, Shut, all_out, input_at_end, output_at_end, read_before_end, ProducersEndOnce, ProducersHandOut, ConsumersEndOnce}
use Rattle.wasi_producers.specs.declared.input.InputStreamProducer.TheVariants as input
use Rattle.wasi_producers.specs.declared.output.OutputStreamConsumer.TheVariants as output
use Rattle.wasi_producers.specs.declared.results.CliErrorCode.{CliErrorCode}
use Rattle.std.specs.Prelude.{true, false, Ok, Err}
use Rattle.wasi_producers.specs.Codes.{cli_code}

pub ends_once : ProducersEndOnce
ends_once sent [] = (refl, refl)
ends_once sent (Poll got finish ∷ events) = ends_once sent events
ends_once sent (Close ∷ events) = ends_once sent events

pub hands_out : ProducersHandOut
hands_out [] = refl
hands_out (Poll polled.Pending true ∷ events) = hands_out events
hands_out (Poll polled.Pending false ∷ events) = hands_out events
hands_out (Poll (polled.Ready []) finish ∷ events) = (ends_once (Ok tt) events).1
hands_out (Poll (polled.Ready (b ∷ bytes)) finish ∷ events) = ap (λ out. (b ∷ bytes) ++ out) (hands_out events)
hands_out (Poll (polled.Failed kind) finish ∷ events) = (ends_once (Err (cli_code kind)) events).1
hands_out (Close ∷ events) = (ends_once (Ok tt) events).1

pub consumers_end : ConsumersEndOnce
consumers_end sent [] = refl
consumers_end sent (Wrote got finish ∷ events) = consumers_end sent events
consumers_end sent (Flushed got taken finish ∷ events) = consumers_end sent events
consumers_end sent (Shut ∷ events) = consumers_end sent events
