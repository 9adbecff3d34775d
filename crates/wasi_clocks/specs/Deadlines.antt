-- Deadlines on the monotonic clock.
use Rattle.std.specs.Prelude.{ℕ, ◌+◌, ◌^◌, ◌≤◌, ◌<◌, ◌↔◌, Bool, false, true, IsTrue, if◌then◌else◌, ◌==◌, nat_lt, nat_le}
use Rattle.wasi_clocks.specs.declared.deadlines.Deadline.{Deadline}
use Rattle.wasi_clocks.specs.declared.deadlines.Deadline.TheVariants.{Past, Instant, Never}

-- the deadline a duration from now; never where the sum is past the clock's last number
abbrev pub deadline_after : ℕ → ℕ → Deadline
deadline_after now duration =
    if duration == 0
    then Past false
    else (if nat_lt (now + duration) (2 ^ 64) then Instant (now + duration) else Never)

-- the deadline at a time
abbrev pub deadline_at : ℕ → ℕ → Deadline
deadline_at now when = if nat_lt now when then Instant when else Past false

-- what a poll at `now` answers
abbrev pub deadline_is_ready : Deadline → ℕ → Bool
deadline_is_ready (Past yielded) now = yielded
deadline_is_ready (Instant when) now = nat_le when now
deadline_is_ready Never now = false

-- the deadline after a poll
abbrev pub polled : Deadline → Deadline
polled (Past yielded) = Past true
polled (Instant when) = Instant when
polled Never = Never

-- from `now` on, as long as the clock counts: ready exactly once `start` has come
abbrev pub IsReadyFrom : (ℕ → Bool) → ℕ → ℕ → Type 0
IsReadyFrom ready now start =
    (later : ℕ) → now ≤ later → later < 2 ^ 64 → IsTrue (ready later) ↔ (start ≤ later)
