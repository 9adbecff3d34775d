use Rattle.std.proofs.Common.{◌<◌, Some, None, length, vec_capacity, sym, ap, ◌∙◌, arith}
use Rattle.wasi_table.specs.Table.{entry_in}
use Rattle.wasi_table.proofs.TableFacts.{held_is}
use Rattle.wasi_table.proofs.Recounts.{parent_counted}
use Rattle.wasi_table.proofs.Steps.{taken_out, has_place, removed_view, removed_kept}
use Rattle.wasi_table.proofs.table.ResourceTable.remove.Goals as goal

pub returns-in_err-row-clause-entry : goal.returns-in_err-row-clause-entry
returns-in_err-row-clause-entry g c =
    let a = c.self.inside in
    c.from_residual.ensures
    ∙ ap entry_in (sym (held_is _ a.rows.entries a.freed.items a.next a.capacity c.self.view_is c.self.invariant.ordered c.args.number None c.in_err-row.ensures.value))

pub release-requires-clause-counted : goal.release-requires-clause-counted
release-requires-clause-counted g c =
    let a = c.self.inside in
    let e = c.in_ok-row.ensures in
    parent_counted a.rows.entries c.remove.new.self.entries c.args.number c.in_ok-row.row
    (taken_out _ a.rows.entries a.freed.items a.next a.capacity _ c.self.view_is c.self.invariant c.remove.new.self.entries c.args.number c.in_ok-row.row e.value c.requires e.entries e.updates.0)

pub push_reserved-requires : goal.push_reserved-requires
push_reserved-requires g c =
    let a = c.self.inside in
    let place : length a.freed.items < vec_capacity a.freed = has_place _ a.rows.entries a.freed.items a.next a.capacity _ c.self.view_is c.self.invariant c.args.number c.in_ok-row.row c.in_ok-row.ensures.value in
    omega (arith, place, a.freed.ok.0)

pub invariant_of-self-2 : goal.invariant_of-self-2
invariant_of-self-2 g c =
    let a = c.self.inside in
    let e = c.in_ok-row.ensures in
    let out = taken_out _ a.rows.entries a.freed.items a.next a.capacity _ c.self.view_is c.self.invariant c.remove.new.self.entries c.args.number c.in_ok-row.row e.value c.requires e.entries e.updates.0 in
    removed_kept _ a.rows.entries a.freed.items a.next a.capacity _ c.self.view_is c.self.invariant c.remove.new.self.entries c.release.new.rows.entries c.args.number c.in_ok-row.row out e.ordered
    c.release.ensures c.push_reserved.new.self.items c.push_reserved.ensures.items _ c.push_reserved.ensures.capacity

pub returns-clause-entry : goal.returns-clause-entry
returns-clause-entry g c =
    let a = c.self.inside in
    ap entry_in (sym (held_is _ a.rows.entries a.freed.items a.next a.capacity c.self.view_is c.self.invariant.ordered c.args.number (Some c.in_ok-row.row) c.in_ok-row.ensures.value))

pub returns-clause-after : goal.returns-clause-after
returns-clause-after g c =
    let a = c.self.inside in
    let e = c.in_ok-row.ensures in
    let out = taken_out _ a.rows.entries a.freed.items a.next a.capacity _ c.self.view_is c.self.invariant c.remove.new.self.entries c.args.number c.in_ok-row.row e.value c.requires e.entries e.updates.0 in
    removed_view _ a.rows.entries a.freed.items a.next a.capacity _ c.self.view_is c.self.invariant c.remove.new.self.entries c.release.new.rows.entries c.args.number c.in_ok-row.row out e.ordered
    c.release.ensures c.push_reserved.new.self.items c.push_reserved.ensures.items
