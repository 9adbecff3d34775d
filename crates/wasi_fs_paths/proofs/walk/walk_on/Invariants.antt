use Rattle.std.proofs.Common.{◌≡◌, ◌+◌, ◌≤◌, ◌∷◌, length}
use denote.Text.{Utf8}
use denote.Shadow.{shadow}
use Rattle.wasi_fs_paths.specs.Components.{components}
use Rattle.wasi_fs_paths.specs.laws.Stands.{stand_walk}
use Rattle.wasi_fs_paths.proofs.walk.walk_on.Given as goal

abbrev pub invariant-steps : goal.invariant-steps
invariant-steps l = record {
  name_text : shadow (Utf8 l.name);
  rest_text : shadow (Utf8 l.rest);
  same : stand_walk l.nodes 0 l.start (components l.path) ≡ stand_walk l.nodes l.stand.depth l.stand.here (l.name ∷ components l.rest);
  less : l.stand.depth + length l.rest ≤ length l.path;
}

abbrev pub decreases-steps : goal.decreases-steps
decreases-steps l = length l.rest
