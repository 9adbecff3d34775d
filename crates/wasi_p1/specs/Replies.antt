-- What a snapshot made of replies answers, and what it records.
use Rattle.std.specs.Prelude.{ℕ, ◌≡◌, nat_le, List, [], ◌∷◌, ◌++◌, drop, Result, Ok, Err, if◌then◌else◌, ◌⊎◌}
use Rattle.wasi_base.specs.declared.trappable.TrappableError.{TrappableError}
use Rattle.wasi_base.specs.declared.trappable.TrappableError.TheVariants as error
use Rattle.wasi_p1.specs.Answer.{Kind, Nothing, TwoSizes, Size, Number, OfDescriptor, OfFile, OfGiven, Reason, Value, Answer, kind_of}
use Rattle.wasi_p1.specs.Memory.{fits, with_bytes_at}
use Rattle.wasi_p1.specs.declared.call.Call.{Call}
use Rattle.wasi_p1.specs.declared.call.Call.TheVariants.{PollOneoff}
use Rattle.wasi_p1.specs.declared.reply.Reply.{Reply}
use Rattle.wasi_p1.specs.declared.reply.Reply.TheVariants as reply
use Rattle.wasi_p1_types.specs.declared.errno.Errno.{Errno}
use Rattle.wasi_p1_types.specs.declared.errno.Errno.TheVariants.{Nosys, Fault}

-- the replies that are left, and the calls so far
pub record Recorder : Type 0 where
  pub replies : List Reply
  pub calls : List Call

-- the reply whose turn it is: that there is no such call, where none is left
abbrev pub next_reply : List Reply → Reply
next_reply [] = reply.Errno Nosys
next_reply (next ∷ later) = next

abbrev pub recorded : Call → Recorder → Recorder
recorded call before = record { replies = drop 1 before.replies; calls = before.calls ++ call ∷ [] }

-- what a reply is where it isn't the call's answer
abbrev pub refusal : Reply → TrappableError Errno
refusal (reply.Errno errno) = error.Normal errno
refusal (reply.Trap text) = error.Trap text
refusal other = error.Normal Nosys

-- a reply as an answer of this kind
abbrev pub answer_of : (kind : Kind) → Reply → Result (Value kind) (TrappableError Errno)
answer_of Nothing reply.Done = Ok tt
answer_of TwoSizes (reply.Pair first second) = Ok (first, second)
answer_of Size (reply.Number number) = if nat_le number 4294967295 then Ok number else Err (error.Normal Nosys)
answer_of Number (reply.Number number) = Ok number
answer_of OfDescriptor (reply.Fdstat stat) = Ok stat
answer_of OfFile (reply.Filestat stat) = Ok stat
answer_of OfGiven (reply.Prestat prestat) = Ok prestat
answer_of Reason (reply.Trap text) = Ok text
answer_of kind other = Err (refusal other)

-- what a call answers to the reply whose turn it is
abbrev pub answer_to : (call : Call) → Reply → List ℕ → Result (Answer call) (TrappableError Errno)
answer_to (PollOneoff subs events nsubscriptions) (reply.Events bytes count) memory =
    if fits events bytes.items memory then Ok count else Err (error.Normal Fault)
answer_to call other memory = answer_of (kind_of call) other

-- and what it leaves in the guest's memory
abbrev pub memory_after : Call → Reply → List ℕ → List ℕ
memory_after (PollOneoff subs events nsubscriptions) (reply.Events bytes count) memory =
    with_bytes_at events bytes.items memory
memory_after call other memory = memory

-- a call is recorded and answered by the next reply, unless there is no memory to record it
abbrev pub IsReplied : (call : Call) → Recorder → List ℕ → Result (Answer call) (TrappableError Errno) → Recorder → List ℕ → Type 0
IsReplied call before memory answer after memory' =
    ((answer ≡ Err error.OutOfMemory) × (after ≡ before) × (memory' ≡ memory))
    ⊎ ((answer ≡ answer_to call (next_reply before.replies) memory) × (after ≡ recorded call before)
    × (memory' ≡ memory_after call (next_reply before.replies) memory))

-- the same for an answer of a kind whose calls leave the guest's memory alone
abbrev pub TakesReply : (kind : Kind) → Call → Recorder → Result (Value kind) (TrappableError Errno) → Recorder → Type 0
TakesReply kind call before answer after =
    ((answer ≡ Err error.OutOfMemory) × (after ≡ before))
    ⊎ ((answer ≡ answer_of kind (next_reply before.replies)) × (after ≡ recorded call before))
