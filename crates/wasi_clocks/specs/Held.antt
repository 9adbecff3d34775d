-- Clocks as a context holds them: one fact for each way.
use Rattle.std.specs.Prelude.{ℕ}
use Rattle.std.specs.declared.dyn_box.DynBox.{DynBox}
use Rattle.std.specs.declared.alloc.Global.{Global}
use Rattle.wasi_clocks.specs.declared.wall_times.WallTime.{WallTime}
use Rattle.wasi_clocks.specs.declared.context.HeldWallClock.{HeldWallClock}
use Rattle.wasi_clocks.specs.declared.context.HeldWallClock.TheVariants as wall
use Rattle.wasi_clocks.specs.declared.context.HeldMonotonicClock.{HeldMonotonicClock}
use Rattle.wasi_clocks.specs.declared.context.HeldMonotonicClock.TheVariants as mono

abbrev pub on_wall_clock : {X : Type 0} {V : X → Type 0} → HeldWallClock X V
    → (WallTime → WallTime → Type 0) → (DynBox X Global V → Type 0) → Type 0
on_wall_clock (wall.Plain now resolution) plain caller = plain now resolution
on_wall_clock (wall.Caller clock) plain caller = caller clock

abbrev pub on_monotonic_clock : {X : Type 0} {V : X → Type 0} → HeldMonotonicClock X V
    → (ℕ → ℕ → Type 0) → (DynBox X Global V → Type 0) → Type 0
on_monotonic_clock (mono.Plain now resolution) plain caller = plain now resolution
on_monotonic_clock (mono.Caller clock) plain caller = caller clock
