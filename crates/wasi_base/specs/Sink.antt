-- What a sink tells, and what a write and a flush do to it.
use Rattle.std.specs.Prelude.{◌≡◌, ℕ, zero, suc, ◌+◌, ◌-◌, min, max, List, [], ◌∷◌, ◌++◌, Option, Some, None, Result, Ok, Err}
use Rattle.wasi_base.specs.declared.io_kind.IoKind.{IoKind}
use Rattle.wasi_base.specs.declared.io_kind.IoKind.TheVariants.{Other}
use Rattle.wasi_base.specs.declared.source.Plan.{Plan}
use Rattle.wasi_base.specs.declared.source.Plan.TheVariants as planned
use Rattle.wasi_base.specs.declared.sink.SinkPlan.{SinkPlan}
use Rattle.wasi_base.specs.declared.sink.WriteStop.{WriteStop}
use Rattle.wasi_base.specs.declared.sink.SinkPlan.TheVariants.{Take, Fail, FlushFail}

-- what a sink took, with these bytes more
abbrev pub with_more : Option (List ℕ) → List ℕ → Option (List ℕ)
with_more None bytes = None
with_more (Some taken) bytes = Some (taken ++ bytes)

-- the room and the plan that a sink has left
pub record Limits : Type 0 where
  pub room : ℕ
  pub plan : List SinkPlan

-- the item that a write meets: the first that is none for a flush
abbrev pub write_item : List SinkPlan → Option Plan
write_item [] = None
write_item (Take k ∷ plan) = Some (planned.Take k)
write_item (Fail kind ∷ plan) = Some (planned.Fail kind)
write_item (FlushFail kind ∷ plan) = write_item plan

-- the plan without that item
abbrev pub without_item : List SinkPlan → List SinkPlan
without_item [] = []
without_item (Take k ∷ plan) = plan
without_item (Fail kind ∷ plan) = plan
without_item (FlushFail kind ∷ plan) = FlushFail kind ∷ without_item plan

-- one write of n bytes, n above 0, by the item that it meets: its answer ..
abbrev pub written_by : Option Plan → ℕ → ℕ → Result ℕ IoKind
written_by (Some (planned.Fail kind)) room n = Err kind
written_by (Some (planned.Take k)) zero n = Err Other
written_by (Some (planned.Take k)) (suc room) n = Ok (min n (min (max k 1) (suc room)))
written_by None zero n = Err Other
written_by None (suc room) n = Ok (min n (suc room))

-- .. and what is left then: a planned fault and a planned write are done, a full room keeps its plan
abbrev pub limits_by : Option Plan → ℕ → List SinkPlan → ℕ → Limits
limits_by (Some (planned.Fail kind)) room plan n = record { room = room; plan = without_item plan }
limits_by (Some (planned.Take k)) zero plan n = record { room = zero; plan = plan }
limits_by (Some (planned.Take k)) (suc room) plan n = record { room = suc room - min n (min (max k 1) (suc room)); plan = without_item plan }
limits_by None zero plan n = record { room = zero; plan = plan }
limits_by None (suc room) plan n = record { room = suc room - min n (suc room); plan = plan }

abbrev pub written : Limits → ℕ → Result ℕ IoKind
written limits n = written_by (write_item limits.plan) limits.room n

abbrev pub after_write : Limits → ℕ → Limits
after_write limits n = limits_by (write_item limits.plan) limits.room limits.plan n

-- a flush fails exactly where the plan's first item says so, which is done then
abbrev pub flushed_by : List SinkPlan → Result (Unit {0}) IoKind
flushed_by [] = Ok tt
flushed_by (Take k ∷ plan) = Ok tt
flushed_by (Fail kind ∷ plan) = Ok tt
flushed_by (FlushFail kind ∷ plan) = Err kind

abbrev pub plan_after_flush : List SinkPlan → List SinkPlan
plan_after_flush [] = []
plan_after_flush (Take k ∷ plan) = Take k ∷ plan
plan_after_flush (Fail kind ∷ plan) = Fail kind ∷ plan
plan_after_flush (FlushFail kind ∷ plan) = plan

abbrev pub flushed : Limits → Result (Unit {0}) IoKind
flushed limits = flushed_by limits.plan

abbrev pub after_flush : Limits → Limits
after_flush limits = record { room = limits.room; plan = plan_after_flush limits.plan }

-- a write of n bytes took a sink's limits from `before` to `after` with this answer
pub record Writes (before : Option Limits) (n : ℕ) (answer : Result ℕ IoKind) (after : Option Limits) : Type 0 where
  pub told : (l : Limits) → before ≡ Some l → (answer ≡ written l n) × (after ≡ Some (after_write l n))

pub record Flushes (before : Option Limits) (answer : Result (Unit {0}) IoKind) (after : Option Limits) : Type 0 where
  pub told : (l : Limits) → before ≡ Some l → (answer ≡ flushed l) × (after ≡ Some (after_flush l))

-- how a chain of writes ended, and what is left then
pub record Ended : Type 0 where
  pub answer : Result (Unit {0}) WriteStop
  pub limits : Limits

-- the same, where bytes went out before
abbrev pub stop_after : ℕ → Result (Unit {0}) WriteStop → Result (Unit {0}) WriteStop
stop_after count (Ok done) = Ok done
stop_after count (Err stop) = Err (record { taken = count + stop.taken; kind = stop.kind })

-- a write answered, and the rest follows where it took some
abbrev pub followed : Result ℕ IoKind → Limits → (ℕ → Ended) → Ended
followed (Ok count) limits rest = record { answer = stop_after count (rest count).answer; limits = (rest count).limits }
followed (Err kind) limits rest = record { answer = Err (record { taken = 0; kind = kind }); limits = limits }

-- writes of n bytes until all are taken or one write fails: each takes one at least, so n writes do
abbrev pub writes_in : ℕ → Limits → ℕ → Ended
writes_in most limits zero = record { answer = Ok tt; limits = limits }
writes_in zero limits (suc n) = record { answer = Ok tt; limits = limits }
writes_in (suc most) limits (suc n) = followed (written limits (suc n)) (after_write limits (suc n)) (λ count. writes_in most (after_write limits (suc n)) (suc n - count))

-- all of n bytes written: the answer, with how many went out where a write failed, and what is left
abbrev pub written_all : Limits → ℕ → Result (Unit {0}) WriteStop
written_all limits n = (writes_in n limits n).answer

abbrev pub after_write_all : Limits → ℕ → Limits
after_write_all limits n = (writes_in n limits n).limits

pub record WritesAll (before : Option Limits) (n : ℕ) (answer : Result (Unit {0}) WriteStop) (after : Option Limits) : Type 0 where
  pub told : (l : Limits) → before ≡ Some l → (answer ≡ written_all l n) × (after ≡ Some (after_write_all l n))

-- how many of n bytes went out
abbrev pub count_out : ℕ → Result (Unit {0}) WriteStop → ℕ
count_out n (Ok done) = n
count_out n (Err stop) = stop.taken
