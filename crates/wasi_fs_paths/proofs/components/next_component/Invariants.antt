use Rattle.std.proofs.Common.{◌≡◌, ◌≤◌, length}
use denote.Text.{Utf8}
use denote.Shadow.{shadow}
use Rattle.wasi_fs_paths.specs.Components.{components}
use Rattle.wasi_fs_paths.proofs.components.next_component.Given as goal

abbrev pub invariant-parts : goal.invariant-parts
invariant-parts l = record { text : shadow (Utf8 l.rest); same : components l.path ≡ components l.rest; less : length l.rest ≤ length l.path }

abbrev pub decreases-parts : goal.decreases-parts
decreases-parts l = length l.rest
