use Rattle.std.proofs.Common.{◌≡◌, ◌-◌, length}
use Rattle.wasi_fs_nodes.specs.Climbs.{climbs_to, climbs}
use Rattle.wasi_fs_nodes.proofs.nodes.Nodes.is_below.Given as goal

abbrev pub invariant-loop : goal.invariant-loop
invariant-loop l = climbs_to (length l.self - l.counter) l.self l.top l.here ≡ climbs l.self l.top l.dir
