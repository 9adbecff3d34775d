-- Outputs that buffer: what they accepted goes out in order, and a fault of their sink is told once.
use Rattle.std.specs.Prelude.{◌≡◌, ◌⊎◌, ℕ, List, [], ◌∷◌, ◌++◌, take, Option, Some, None}
use Rattle.std.specs.Map.{lookup}
use Rattle.std.specs.Str.{bytes_eq}
use Rattle.wasi_base.specs.Source.{Told as Told'}
use Rattle.wasi_streams.specs.declared.writer_turn.Trouble.{Trouble}
use Rattle.wasi_streams.specs.declared.writer_turn.Trouble.TheVariants.{Nothing, Untold, Told}
use Rattle.wasi_streams.specs.Outputs.{Outlet}
use Rattle.wasi_streams.specs.Writer.{Writer}
use Rattle.wasi_script.specs.declared.lines.EntryCall.{EntryCall}
use Rattle.wasi_script.specs.declared.lines.EntryCall.TheVariants as on
use Rattle.wasi_script.specs.declared.lines.Line.{Line}
use Rattle.wasi_reply.specs.declared.reply.Told.TheVariants as told
use Rattle.wasi_reply.specs.declared.reply.Reply.{Reply}
use Rattle.wasi_reply.specs.declared.reply.Reply.TheVariants as reply
use Rattle.wasi_host.specs.declared.entry.StreamEntry.{StreamEntry}
use Rattle.wasi_host.specs.declared.entry.StreamEntry.TheVariants as at
use Rattle.wasi_host.specs.declared.stream.OutStream.{OutStream}
use Rattle.wasi_host.specs.declared.stream.OutStream.TheVariants as out_stream
use Rattle.wasi_host.specs.Calls.{Owner}
use Rattle.wasi_host.specs.Host.{Host, new_host, host_end, step_reply, step_host, step_told}
use Rattle.wasi_host.specs.Transcript.{outputs_of}
use Rattle.wasi_host.specs.Promises.{step_call_on}

-- the output of a name, where it is one that buffers
abbrev pub buffer_in : Option OutStream → Option (Writer Outlet)
buffer_in (Some (out_stream.Buffered it)) = Some it.stream
buffer_in other = None

abbrev pub buffer_at : List ℕ → Host → Option (Writer Outlet)
buffer_at name host = buffer_in (lookup (bytes_eq name) host.streams.outputs)

-- the bytes that a call's reply says were accepted, and all that a run accepted for the output of a name
abbrev pub accepted_of : EntryCall → StreamEntry → Reply → List ℕ
accepted_of (on.Write bytes) at.Plain (reply.Told told.Ok) = bytes
accepted_of (on.PollWrite bytes) (at.Polled handle) (reply.Told (told.Count count)) = take count bytes
accepted_of it entry answer = []

abbrev pub accepted_by : Option (EntryCall × StreamEntry) → Reply → List ℕ
accepted_by None answer = []
accepted_by (Some on) answer = accepted_of on.0 on.1 answer

abbrev pub accepted : List ℕ → List Line → Host → Told' → List ℕ
accepted name [] host told = []
accepted name (step ∷ steps) host told = accepted_by (step_call_on name step host) (step_reply step host told) ++ accepted name steps (step_host step host told) (step_told step host told)

-- Until its sink failed, what that took and what is buffered are what was accepted. Then the sink took a first part of it,
-- and nothing is buffered.
abbrev pub Failed : List ℕ → List ℕ → List ℕ → Type 0
Failed taken buffered accepted = (lost : List ℕ) × (accepted ≡ taken ++ lost) × (buffered ≡ [])

abbrev pub HasAccepted : Trouble → List ℕ → List ℕ → List ℕ → Type 0
HasAccepted Nothing taken buffered accepted = accepted ≡ taken ++ buffered
HasAccepted (Untold kind) taken buffered accepted = Failed taken buffered accepted
HasAccepted Told taken buffered accepted = Failed taken buffered accepted

abbrev pub OnBuffer : Option (Writer Outlet) → (Writer Outlet → Type 0) → Type 0
OnBuffer None P = Unit {0}
OnBuffer (Some writer) P = P writer

-- ---- faults
-- who has the turn of it
abbrev pub holder_in : Option OutStream → Option Owner
holder_in (Some (out_stream.Buffered it)) = it.turn.holder
holder_in other = None

abbrev pub holder_at : List ℕ → Host → Option Owner
holder_at name host = holder_in (lookup (bytes_eq name) host.streams.outputs)

-- a fault that no call told is told by the next plain one that asks, once; after that each is told that the output is
-- closed
abbrev pub TellsFault : Trouble → Reply → Trouble → Type 0
TellsFault Nothing answer after = after ≡ Nothing
TellsFault (Untold kind) answer after = (answer ≡ reply.Told (told.Failed kind)) × (after ≡ Told)
TellsFault Told answer after = (answer ≡ reply.Told told.Closed) × (after ≡ Told)

-- a poll tells it where it has the turn
abbrev pub MayTellFault : Trouble → Reply → Trouble → Type 0
MayTellFault Nothing answer after = after ≡ Nothing
MayTellFault (Untold kind) answer after = (after ≡ Untold kind) ⊎ ((answer ≡ reply.Told (told.Failed kind)) × (after ≡ Told))
MayTellFault Told answer after = after ≡ Told

-- no other step tells it; a turn of the task may meet one
abbrev pub KeepsFault : Trouble → Trouble → Type 0
KeepsFault Nothing after = Unit {0}
KeepsFault (Untold kind) after = after ≡ Untold kind
KeepsFault Told after = after ≡ Told

-- by the call: a plain one asks the output where nobody has the turn
abbrev pub FaultOf : EntryCall → StreamEntry → Option Owner → Trouble → Reply → Trouble → Type 0
FaultOf on.CheckWrite at.Plain None before answer after = TellsFault before answer after
FaultOf (on.Write bytes) at.Plain None before answer after = TellsFault before answer after
FaultOf on.Flush at.Plain None before answer after = TellsFault before answer after
FaultOf (on.PollWrite bytes) (at.Polled handle) holder before answer after = MayTellFault before answer after
FaultOf on.PollFlush (at.Polled handle) holder before answer after = MayTellFault before answer after
FaultOf it entry holder before answer after = KeepsFault before after

abbrev pub FaultBy : Option Owner → Option (EntryCall × StreamEntry) → Trouble → Reply → Trouble → Type 0
FaultBy holder None before answer after = KeepsFault before after
FaultBy holder (Some call) before answer after = FaultOf call.0 call.1 holder before answer after

-- an output that buffers stays one
abbrev pub FaultStep : Option Owner → Option (EntryCall × StreamEntry) → Reply → Option (Writer Outlet) → Option (Writer Outlet) → Type 0
FaultStep holder call answer None after = Unit {0}
FaultStep holder call answer (Some before) after = (writer : Writer Outlet) × (after ≡ Some writer) × FaultBy holder call before.trouble answer writer.trouble

abbrev pub FaultsAreTold : List ℕ → List Line → Host → Told' → Type 0
FaultsAreTold name [] host told = Unit {0}
FaultsAreTold name (step ∷ steps) host told = FaultStep (holder_at name host) (step_call_on name step host) (step_reply step host told) (buffer_at name host) (buffer_at name (step_host step host told)) × FaultsAreTold name steps (step_host step host told) (step_told step host told)

-- ---- a whole run, to the transcript's line
pub record BufferKeeps (name : List ℕ) (steps : List Line) (told : Told') : Type 0 where
  pub keeps : OnBuffer (buffer_at name (host_end steps new_host told)) (λ writer. HasAccepted writer.trouble writer.sink.taken writer.buffered (accepted name steps new_host told))
  pub faults : FaultsAreTold name steps new_host told
  pub printed : OnBuffer (buffer_at name (host_end steps new_host told)) (λ writer. lookup (bytes_eq name) (outputs_of (host_end steps new_host told).streams) ≡ Some writer.sink.taken)

abbrev pub BuffersKeep : Type 0
BuffersKeep = (name : List ℕ) (steps : List Line) (told : Told') → BufferKeeps name steps told
