-- Waits on the monotonic clock.
use Rattle.std.specs.Prelude.{ℕ, ◌+◌, ◌^◌, Bool, false, true, if◌then◌else◌, ◌==◌, nat_lt, nat_le}
use Rattle.wasi_clocks.specs.declared.waits.Wait3.{Wait3}
use Rattle.wasi_clocks.specs.declared.waits.Wait3.TheVariants.{Done, Until, Never}

-- the wait until a time
abbrev pub wait_to : ℕ → ℕ → Wait3
wait_to now when = if nat_le when now then Done else Until when

-- the wait of a duration; never over where the sum is past the clock's last number
abbrev pub wait_after : ℕ → ℕ → Wait3
wait_after now duration =
    if duration == 0
    then Done
    else (if nat_lt (now + duration) (2 ^ 64) then Until (now + duration) else Never)

-- whether it is over at `now`
abbrev pub wait_is_ready : Wait3 → ℕ → Bool
wait_is_ready Done now = true
wait_is_ready (Until when) now = nat_le when now
wait_is_ready Never now = false
