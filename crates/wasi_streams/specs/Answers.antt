-- What holds of a call's answer, whatever the stream.
use Rattle.std.specs.Prelude.{ℕ, ◌≤◌, List, length, Result, Ok, Err}
use Rattle.wasi_base.specs.Causes.{Rose}
use Rattle.wasi_base.specs.declared.polled.Polled.{Polled}
use Rattle.wasi_base.specs.declared.polled.Polled.TheVariants.{Pending, Ready, Failed}
use Rattle.wasi_base.specs.declared.stream_error.StreamError.{StreamError}
use Rattle.wasi_base.specs.declared.stream_error.StreamError.TheVariants.{Closed, LastOperationFailed, Trap, OutOfMemory}

-- a fact when out of memory ..
abbrev pub OnNoMemory : {A : Type 0} → Result A StreamError → Type 0 → Type 0
OnNoMemory (Ok a) P = Unit {0}
OnNoMemory (Err Closed) P = Unit {0}
OnNoMemory (Err (LastOperationFailed kind)) P = Unit {0}
OnNoMemory (Err (Trap text)) P = Unit {0}
OnNoMemory (Err OutOfMemory) P = P

-- .. and for each other answer
abbrev pub UnlessNoMemory : {A : Type 0} → Result A StreamError → Type 0 → Type 0
UnlessNoMemory (Ok a) P = P
UnlessNoMemory (Err Closed) P = P
UnlessNoMemory (Err (LastOperationFailed kind)) P = P
UnlessNoMemory (Err (Trap text)) P = P
UnlessNoMemory (Err OutOfMemory) P = Unit {0}

-- the call takes no memory
abbrev pub NeverNoMemory : {A : Type 0} → Result A StreamError → Type 0
NeverNoMemory answer = OnNoMemory answer ⊥

-- a fact for a fault that is told
abbrev pub OnFailed : {A : Type 0} → Result A StreamError → Type 0 → Type 0
OnFailed (Ok a) P = Unit {0}
OnFailed (Err Closed) P = Unit {0}
OnFailed (Err (LastOperationFailed kind)) P = P
OnFailed (Err (Trap text)) P = Unit {0}
OnFailed (Err OutOfMemory) P = Unit {0}

abbrev pub OnPolledFailed : {A : Type 0} → Polled A → Type 0 → Type 0
OnPolledFailed Pending P = Unit {0}
OnPolledFailed (Ready a) P = Unit {0}
OnPolledFailed (Failed kind) P = P

-- the count of a source's faults never falls, and a fault is told only where it rose
pub record TellsFault {A : Type 0} (before now : ℕ) (answer : Result A StreamError) : Type 0 where
  pub later : before ≤ now
  pub failed : OnFailed answer (Rose before now)

pub record PollsFault {A : Type 0} (before now : ℕ) (answer : Polled A) : Type 0 where
  pub later : before ≤ now
  pub failed : OnPolledFailed answer (Rose before now)

-- a skip is told the number of the bytes that a read would give
abbrev pub skipped : Result (List ℕ) StreamError → Result ℕ StreamError
skipped (Ok bytes) = Ok (length bytes)
skipped (Err error) = Err error
