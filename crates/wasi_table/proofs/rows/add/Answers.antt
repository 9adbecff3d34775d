use Rattle.wasi_table.proofs.Recounts.{fresh_small, added, new_row}
use Rattle.std.proofs.Common.{refl}
use Rattle.wasi_table.proofs.rows.add.Goals as goal

pub adopt-requires-clause-small : goal.adopt-requires-clause-small
adopt-requires-clause-small g c =
    fresh_small c.args.rows.now.entries c.insert.new.self.entries c.args.number (new_row c.args.entry c.args.parent)
    c.in_ok-insert.ensures.updates.0 refl c.requires.counts c.requires.small

pub returns-clause-ok : goal.returns-clause-ok
returns-clause-ok g c =
    added c.args.rows.now.entries c.insert.new.self.entries c.adopt.new.rows.entries c.args.number c.args.entry c.args.parent
    c.requires c.in_ok-insert.ensures.was_ordered c.in_ok-insert.ensures.entries c.in_ok-insert.ensures.ordered c.in_ok-insert.ensures.updates.0 c.adopt.ensures
