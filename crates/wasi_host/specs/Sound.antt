-- What holds of every run, over all its steps.
use Rattle.std.specs.Prelude.{◌≡◌, ℕ, ◌+◌, ◌<◌, ◌≤◌, Bool, false, List, [], ◌∷◌, Option, Some, None}
use Rattle.std.specs.List.{AllByRecursion}
use Rattle.wasi_base.specs.Source.{Told}
use Rattle.wasi_stdin.specs.declared.mode.Mode.{Mode}
use Rattle.wasi_stdin.specs.declared.mode.Mode.TheVariants.{Held}
use Rattle.wasi_stdin.specs.Shared.{Shared, CapturedIn}
use Rattle.wasi_stdin.specs.Rules.{IsWait, StaysCaptured}
use Rattle.wasi_script.specs.declared.lines.EntryCall.{EntryCall}
use Rattle.wasi_script.specs.declared.lines.EntryCall.TheVariants as on
use Rattle.wasi_script.specs.declared.lines.Call.{Call}
use Rattle.wasi_script.specs.declared.lines.Call.TheVariants as call
use Rattle.wasi_script.specs.declared.lines.WorkerTurn.TheVariants as turn
use Rattle.wasi_script.specs.declared.lines.Line.{Line}
use Rattle.wasi_script.specs.declared.lines.Line.TheVariants as line
use Rattle.wasi_reply.specs.declared.reply.Told.TheVariants as told
use Rattle.wasi_reply.specs.declared.reply.Worked.TheVariants as worked
use Rattle.wasi_reply.specs.declared.reply.Reply.{Reply}
use Rattle.wasi_reply.specs.declared.reply.Reply.TheVariants as reply
use Rattle.wasi_host.specs.Run.{Standing, Reader, Polled, Pollable, Sharing, at_start, held_count, Rule, IsRun}

-- ---- the shared state
-- bytes are held exactly in the mode that says so
abbrev pub HoldsCount : Mode → ℕ → Type 0
HoldsCount Held count = 0 < count
HoldsCount other count = count ≡ 0

-- a wait that may stand in this mode, after so many deliveries
abbrev pub IsWaitIn : Mode → ℕ → Option ℕ → Type 0
IsWaitIn mode deliveries wait = IsWait (record { mode = mode; held = []; captured = None; deliveries = deliveries }) wait

abbrev pub WaitsIn : Mode → ℕ → Option Standing → Type 0
WaitsIn mode deliveries None = Unit {0}
WaitsIn mode deliveries (Some Reader) = Unit {0}
WaitsIn mode deliveries (Some (Polled wait)) = IsWaitIn mode deliveries wait
WaitsIn mode deliveries (Some (Pollable parent wait)) = IsWaitIn mode deliveries wait

-- a captured size is from 1 to 65536, and stands only while something is asked
pub record SoundIn (mode : Mode) (s : Sharing) : Type 0 where
  pub within : s.handed ≤ s.given
  pub holds : HoldsCount mode (held_count s)
  pub captures : CapturedIn mode s.captured
  pub waits : (guest number : ℕ) → WaitsIn mode s.deliveries (s.standing guest number)

abbrev pub IsSoundRun : Sharing → Type 0
IsSoundRun s = SoundIn s.mode s

-- it holds at the start, each step keeps it, and so it holds after each run
pub record RunsAreSound : Type 0 where
  pub starts : (told : Told) → IsSoundRun (at_start told)
  pub keeps : (input : List ℕ) (s : Sharing) (step : Line) (answer : Reply) (after : Sharing) → IsSoundRun s → Rule input s step answer after → IsSoundRun after
  pub ends : (input : List ℕ) (s : Sharing) (steps : List Line) (answers : List Reply) (bytes : List ℕ) (after : Sharing) → IsSoundRun s → IsRun input s steps answers bytes after → IsSoundRun after

-- ---- requests
abbrev pub IsNoDelivery : Line → Type 0
IsNoDelivery (line.Worker turn.Deliver) = ⊥
IsNoDelivery other = Unit {0}

-- what a run tells of the requests for the input
abbrev pub request_of : Sharing → Shared
request_of s = record { mode = s.mode; held = []; captured = s.captured; deliveries = s.deliveries }

-- the same size stays captured, and as much is asked for as before, or more, until its delivery
abbrev pub RunsKeepRequests : Type 0
RunsKeepRequests =
    (input : List ℕ) (s : Sharing) (size : ℕ) (steps : List Line) (answers : List Reply) (bytes : List ℕ) (after : Sharing) →
    IsSoundRun s → s.captured ≡ Some size → AllByRecursion IsNoDelivery steps → IsRun input s steps answers bytes after → StaysCaptured (request_of s) (request_of after)

-- ---- faults
abbrev pub faults_in : Reply → ℕ
faults_in (reply.Told (told.Failed kind)) = 1
faults_in other = 0

-- how many faults of the input a step tells: a read, a skip or a polled read of it may tell one
abbrev pub entry_faults : Option Standing → EntryCall → Reply → ℕ
entry_faults (Some Reader) (on.Read size) answer = faults_in answer
entry_faults (Some Reader) (on.Skip size) answer = faults_in answer
entry_faults (Some (Polled wait)) (on.PollRead room) answer = faults_in answer
entry_faults other it answer = 0

abbrev pub call_faults : Bool → Call → Sharing → ℕ → Reply → ℕ
call_faults false (call.On n it) s g answer = entry_faults (s.standing g n) it answer
call_faults ended other s g answer = 0

abbrev pub step_faults : Sharing → Line → Reply → ℕ
step_faults s (line.Call caller c) answer = call_faults (s.ended caller.guest) c s caller.guest answer
step_faults s other answer = 0

abbrev pub faults_told : (input : List ℕ) (s : Sharing) (steps : List Line) (answers : List Reply) (bytes : List ℕ) (after : Sharing) → IsRun input s steps answers bytes after → ℕ
faults_told input s (step ∷ steps) (answer ∷ answers) bytes after run = step_faults s step answer + faults_told input run.mid steps answers run.more after run.rest
faults_told input s steps answers bytes after run = 0

-- how many the worker delivers
abbrev pub fault_worked : Reply → ℕ
fault_worked (reply.Worked (worked.Fault kind)) = 1
fault_worked other = 0

abbrev pub delivered_fault : Line → Reply → ℕ
delivered_fault (line.Worker it) answer = fault_worked answer
delivered_fault other answer = 0

abbrev pub faults_delivered : List Line → List Reply → ℕ
faults_delivered (step ∷ steps) (answer ∷ answers) = delivered_fault step answer + faults_delivered steps answers
faults_delivered steps answers = 0

-- each is told at most once
abbrev pub RunsTellOnce : Type 0
RunsTellOnce =
    (told : Told) (steps : List Line) (answers : List Reply) (bytes : List ℕ) (after : Sharing) (run : IsRun told.left (at_start told) steps answers bytes after) →
    faults_told told.left (at_start told) steps answers bytes after run ≤ faults_delivered steps answers
