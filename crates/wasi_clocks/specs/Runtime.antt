-- What the clocks over the runtime make of the system's.
use Rattle.std.specs.Prelude.{ℕ, ◌-◌, ◌^◌, min}

-- the nanoseconds from one time to another, as far as a clock counts; none where that is the earlier one
abbrev pub count_between : ℕ → ℕ → ℕ
count_between start now = min (now - start) (2 ^ 64 - 1)
