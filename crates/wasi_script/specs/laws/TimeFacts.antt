-- Which numbers make a time.
use Rattle.std.proofs.Common.{◌≡◌, ℕ, ◌<◌, Bool, true, false, Some, refl, sym, true≢false, lt-ltb, ltb-true}
use Rattle.std.specs.Prelude.{nat_lt}
use native.Mathlib.Bridge.{le_prop}
use Rattle.wasi_script.specs.Times.{time_by, wall_time}

pub time_is : (seconds nanoseconds : ℕ) (below : nanoseconds < 1000000000) → wall_time seconds nanoseconds ≡ Some (record { seconds = seconds; nanoseconds = nanoseconds; in_second = below })
time_is seconds nanoseconds below = by (nat_lt nanoseconds 1000000000) refl (lt-ltb nanoseconds 1000000000 below)
  where
    by : (is_below : Bool) (is : nat_lt nanoseconds 1000000000 ≡ is_below) → is_below ≡ true → time_by seconds nanoseconds is_below is ≡ Some (record { seconds = seconds; nanoseconds = nanoseconds; in_second = below })
    by true is e = λ i. Some (record { seconds = seconds; nanoseconds = nanoseconds; in_second = le_prop (ltb-true nanoseconds 1000000000 is) below i })
    by false is e = absurd (true≢false (sym e))
