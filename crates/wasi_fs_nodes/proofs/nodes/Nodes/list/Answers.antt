use Rattle.std.proofs.Common.{◌≡◌, ◌∙◌, ◌<◌, ℕ, zero, suc, List, [], ◌∷◌, length, get_or, IfOk, ap, subst, arith, rules}
use Rattle.wasi_fs_nodes.specs.Counts.{nodes_in}
use Rattle.wasi_fs_nodes.specs.Nodes.{names_at, names_in}
use Rattle.wasi_fs_nodes.specs.Stats.{pairs_of}
use Rattle.wasi_fs_nodes.specs.declared.rows.Row.{Row}
use Rattle.wasi_fs_nodes.proofs.nodes.Nodes.list.Goals as goal

row_names : (rows : List Row) (n : ℕ) (row : Row) → n < length rows → row ≡ get_or rows n row → names_in row.node.body ≡ names_at (nodes_in rows) n
row_names [] n row within is = absurd (omega (arith, within))
row_names (x ∷ rows) zero row within is = ap (λ (row : Row). names_in row.node.body) is
row_names (x ∷ rows) (suc n) row within is = row_names rows n row (omega (arith, within)) is

pub returns-in-Some-clause-entries : goal.returns-in-Some-clause-entries
returns-in-Some-clause-entries c =
    let within : c.args.dir < length c.self.inside.rows.items = search rules in
    let is : c.in-Some.row.now ≡ get_or c.self.inside.rows.items c.args.dir c.in-Some.row.now = search rules in
    let names : names_in c.in-Some.row.now.node.body ≡ names_at c.args.self.now c.args.dir = row_names c.self.inside.rows.items c.args.dir c.in-Some.row.now within is ∙ ap (λ nodes. names_at nodes c.args.dir) c.self.view_is in
    subst (λ names. IfOk c.list.result (λ entries. pairs_of entries.items ≡ names)) names c.list.ensures.entries
