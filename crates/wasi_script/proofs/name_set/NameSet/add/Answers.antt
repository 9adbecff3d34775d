use Rattle.wasi_script.specs.laws.Rows.{row_added, absent_is}
use Rattle.wasi_script.proofs.name_set.NameSet.add.Goals as goal

pub returns-clause-ok : goal.returns-clause-ok
returns-clause-ok c =
    row_added c.self.inside.names.entries c.insert.new.self.entries c.args.self.now c.in_ok-name.name c.args.name.now c.args.flags c.self.view_is c.in_ok-name.ensures.items (absent_is c.args.name.now c.args.self.now c.requires) c.in_ok-insert.ensures.entries
