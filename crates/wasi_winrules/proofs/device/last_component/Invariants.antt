use Rattle.std.proofs.Common.{◌≡◌, ◌≤◌, length}
use Rattle.wasi_winrules.specs.Devices.{last_component}
use Rattle.wasi_winrules.proofs.device.last_component.Given as goal

-- the path's last component is the rest's
abbrev pub invariant-loop-place : goal.invariant-loop-place
invariant-loop-place l = record { within : length l.rest ≤ length l.fn.path; same : last_component l.fn.path ≡ last_component l.rest }

abbrev pub decreases-loop-place : goal.decreases-loop-place
decreases-loop-place l = length l.rest
