use Rattle.std.proofs.Common.{Option, ℕ, ◌+◌, refl, sym, ap, subst, is_some}
use Rattle.wasi_table.specs.Rows.{IsRecount}
use Rattle.wasi_table.proofs.Recounts.{recount-none, recount-written}
use Rattle.wasi_table.proofs.rows.adopt.Goals as goal

pub returns-in_default : goal.returns-in_default
returns-in_default g c =
    let rows = c.args.rows.now.entries in
    let P : Option ℕ → Type 0 = λ o. IsRecount (λ count. count + 1) o rows rows in
    subst P (sym c.in_default.is) (recount-none (λ count. count + 1) rows c.requires.ordered)

pub returns : goal.returns
returns g c =
    let rows = c.args.rows.now.entries in
    let old = c.in-Some-get_mut.row.now in
    let new = record old { children = old.children + 1 } in
    let after = (c.get_mut.follows.lender new).entries in
    let holds = c.get_mut.follows.holds new in
    let found = sym c.in-Some-get_mut.ensures.value in
    let P : Option ℕ → Type 0 = λ o. IsRecount (λ count. count + 1) o rows after in
    subst P (sym c.in-Some.is)
    (recount-written (λ count. count + 1) rows c.requires.ordered after c.in-Some.parent old new found refl refl holds.0 holds.4 (holds.3 (ap is_some found)).0)
