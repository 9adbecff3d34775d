-- Rows after a change at one place: the nodes and the counts of links that they hold.
use Rattle.std.proofs.Common.{◌≡◌, ℕ, zero, suc, ◌+◌, ◌-◌, ◌<◌, List, [], ◌∷◌, length, set, get_or, cond, eqb, Option, refl, ap, sym, ◌∙◌, arith}
use Rattle.std.proofs.lemmas.Bool.Decides.{nat_tests}
use Rattle.wasi_clocks.specs.declared.datetimes.Datetime.{Datetime}
use Rattle.wasi_fs_nodes.specs.Nodes.{bytes_in, bytes_at, times_with}
use Rattle.wasi_fs_nodes.specs.Bodies.{with_body, with_times}
use Rattle.wasi_fs_nodes.specs.Counts.{nodes_in, links_list}
use Rattle.wasi_fs_nodes.specs.declared.node.Node.{Node}
use Rattle.wasi_fs_nodes.specs.declared.node.Body.{Body}
use Rattle.wasi_fs_nodes.specs.declared.node.Times.{Times}
use Rattle.wasi_fs_nodes.specs.declared.rows.Row.{Row}

pub rows_changed : (f : Body → Body) (rows : List Row) (i : ℕ) (r : Row) (b : Body) → r ≡ get_or rows i r → b ≡ f r.node.body
    → nodes_in (set rows i (record r { node = record r.node { body = b } })) ≡ with_body f (nodes_in rows) i
rows_changed f [] i r b h e = refl
rows_changed f (x ∷ rows) zero r b h e = ap (λ (y : Node). y ∷ nodes_in rows) (rw e (ap (λ (y : Row). let n : Node = record y.node { body = f y.node.body } in n) h))
rows_changed f (x ∷ rows) (suc i) r b h e = ap (λ ys. x.node ∷ ys) (rows_changed f rows i r b h e)

pub bytes_read : (rows : List Row) (i : ℕ) (r : Row) → i < length rows → r ≡ get_or rows i r → bytes_at (nodes_in rows) i ≡ bytes_in r.node.body
bytes_read [] i r below h = absurd (omega arith)
bytes_read (x ∷ rows) zero r below h = ap (λ (y : Row). bytes_in y.node.body) (sym h)
bytes_read (x ∷ rows) (suc i) r below h = bytes_read rows i r (omega arith) h

pub times_changed : (a m : Option Datetime) (rows : List Row) (i : ℕ) (r : Row) (t : Times) → r ≡ get_or rows i r → t ≡ times_with a m r.node.times
    → nodes_in (set rows i (record r { node = record r.node { times = t } })) ≡ with_times (nodes_in rows) i a m
times_changed a m [] i r t h e = refl
times_changed a m (x ∷ rows) zero r t h e = ap (λ (y : Node). y ∷ nodes_in rows) (rw e (ap (λ (y : Row). let n : Node = record y.node { times = times_with a m y.node.times } in n) h))
times_changed a m (x ∷ rows) (suc i) r t h e = ap (λ ys. x.node ∷ ys) (times_changed a m rows i r t h e)

pub links_kept : (rows : List Row) (i : ℕ) (r s : Row) → r ≡ get_or rows i r → s.links ≡ r.links → links_list (set rows i s) ≡ links_list rows
links_kept [] i r s h e = refl
links_kept (x ∷ rows) zero r s h e = ap (λ n. n ∷ links_list rows) (e ∙ ap (λ (y : Row). y.links) h)
links_kept (x ∷ rows) (suc i) r s h e = ap (λ ys. x.links ∷ ys) (links_kept rows i r s h e)

pub nodes_kept : (rows : List Row) (i : ℕ) (r s : Row) → r ≡ get_or rows i r → s.node ≡ r.node → nodes_in (set rows i s) ≡ nodes_in rows
nodes_kept [] i r s h e = refl
nodes_kept (x ∷ rows) zero r s h e = ap (λ n. n ∷ nodes_in rows) (e ∙ ap (λ (y : Row). y.node) h)
nodes_kept (x ∷ rows) (suc i) r s h e = ap (λ ys. x.node ∷ ys) (nodes_kept rows i r s h e)

pub links_raised : (rows : List Row) (i : ℕ) (r s : Row) → r ≡ get_or rows i r → s.links ≡ r.links + 1 → links_list (set rows i s) ≡ set (links_list rows) i (get_or (links_list rows) i 0 + 1)
links_raised [] i r s h e = refl
links_raised (x ∷ rows) zero r s h e = ap (λ n. n ∷ links_list rows) (e ∙ ap (λ (y : Row). y.links + 1) h)
links_raised (x ∷ rows) (suc i) r s h e = ap (λ ys. x.links ∷ ys) (links_raised rows i r s h e)

pub links_lowered : (rows : List Row) (i : ℕ) (r s : Row) → r ≡ get_or rows i r → s.links ≡ r.links - 1 → links_list (set rows i s) ≡ set (links_list rows) i (get_or (links_list rows) i 0 - 1)
links_lowered [] i r s h e = refl
links_lowered (x ∷ rows) zero r s h e = ap (λ n. n ∷ links_list rows) (e ∙ ap (λ (y : Row). y.links - 1) h)
links_lowered (x ∷ rows) (suc i) r s h e = ap (λ ys. x.links ∷ ys) (links_lowered rows i r s h e)

-- what is read after one more, or one less, at a place, or after a one more at the end

pub read_more : (xs : List ℕ) (i n : ℕ) → i < length xs → get_or (set xs i (get_or xs i 0 + 1)) n 0 ≡ get_or xs n 0 + cond (eqb i n) 1 0
read_more [] i n h = absurd (omega arith)
read_more (x ∷ xs) zero zero h = refl
read_more (x ∷ xs) zero (suc n) h = grind (arith, nat_tests)
read_more (x ∷ xs) (suc i) zero h = grind (arith, nat_tests)
read_more (x ∷ xs) (suc i) (suc n) h = rw (read_more xs i n (omega arith)) (grind (arith, nat_tests))

pub read_less : (xs : List ℕ) (i n : ℕ) → 0 < get_or xs i 0 → get_or (set xs i (get_or xs i 0 - 1)) n 0 + cond (eqb i n) 1 0 ≡ get_or xs n 0
read_less [] i n h = absurd (omega arith)
read_less (x ∷ xs) zero zero h = grind (arith, nat_tests)
read_less (x ∷ xs) zero (suc n) h = grind (arith, nat_tests)
read_less (x ∷ xs) (suc i) zero h = grind (arith, nat_tests)
read_less (x ∷ xs) (suc i) (suc n) h = let e = read_less xs i n h in grind (arith, nat_tests)
