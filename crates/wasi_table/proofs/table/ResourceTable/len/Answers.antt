use Rattle.std.proofs.Common.{◌<◌, ◌^◌, arith, sym, ◌∙◌}
use Rattle.std.proofs.Math.Facts.{Fits-of_lt}
use Rattle.wasi_table.proofs.TableFacts.{count_is}
use Rattle.wasi_table.proofs.RowFacts.{len-rows}
use Rattle.wasi_table.proofs.table.ResourceTable.len.Goals as goal

pub overflow_cast-result : goal.overflow_cast-result
overflow_cast-result g c =
    let count = len-rows c.self.inside.rows.entries c.self.invariant.ordered in
    let room = c.self.invariant.sound.room in
    let bound = c.self.invariant.sound.bound in
    let less : c.len.result < 2 ^ 32 = omega (arith, c.len.ensures.len, count, room, bound) in
    Fits-of_lt less

pub returns-clause-count : goal.returns-clause-count
returns-clause-count g c =
    let a = c.self.inside in
    c.len.ensures.len ∙ sym (count_is _ a.rows.entries a.freed.items a.next a.capacity c.self.view_is c.self.invariant.ordered)
