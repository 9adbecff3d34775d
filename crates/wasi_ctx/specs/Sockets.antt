-- Which addresses may be used: one fact for each way in which that is said.
use Rattle.wasi_ctx.specs.declared.caller_check.CallerCheck.{CallerCheck}
use Rattle.wasi_ctx.specs.declared.sockets.SocketAddrCheck.{SocketAddrCheck}
use Rattle.wasi_ctx.specs.declared.sockets.SocketAddrCheck.TheVariants as check

abbrev pub on_check : {X : Type 0} {V : X → Type 0} {g : _} → SocketAddrCheck X V g
    → Type 0 → Type 0 → (CallerCheck X V g → Type 0) → Type 0
on_check check.Deny deny allow caller = deny
on_check check.Allow deny allow caller = allow
on_check (check.Caller held) deny allow caller = caller held

-- the caller's test is held, and this holds of it
abbrev pub IsHeld : {X : Type 0} {V : X → Type 0} {g : _} → SocketAddrCheck X V g → (CallerCheck X V g → Type 0) → Type 0
IsHeld check fact = on_check check ⊥ ⊥ fact
