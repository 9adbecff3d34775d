use Rattle.std.proofs.Common.{sym, subst}
use Rattle.wasi_fs_nodes.specs.Outcome.{Leaves}
use Rattle.wasi_fs_paths.specs.Places.{place_of}
use Rattle.wasi_fs_paths.specs.declared.place.Place.{Place}
use Rattle.wasi_fs.specs.Calls.{linked_at}
use Rattle.wasi_fs.proofs.changes.links.link_at_place.Goals as goal

pub returns-in-Named : goal.returns-in-Named
returns-in-Named c =
    let P : Place → Type 0 = λ place. Leaves c.args.nodes.now c.link.new.self c.link.result (linked_at c.args.nodes.now c.args.node (place_of place)) in
    subst P (sym c.in-Named.is) c.link.ensures
