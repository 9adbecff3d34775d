-- A listing of the names in a directory.
use Rattle.std.proofs.Common.{◌≡◌, ℕ, List, [], ◌∷◌, ◌++◌, ap, ◌∙◌}
use Rattle.wasi_fs_nodes.specs.Stats.{pairs_of}
use Rattle.wasi_fs_nodes.specs.declared.stats.Entry.{Entry}

pub one_more : (es : List Entry) (e : Entry) (name : List ℕ) (node : ℕ) (rest : List (List ℕ × ℕ)) → e.name ≡ name → e.node ≡ node
    → pairs_of (es ++ e ∷ []) ++ rest ≡ pairs_of es ++ (name, node) ∷ rest
one_more [] e name node rest h k = ap (λ n. (n, e.node) ∷ rest) h ∙ ap (λ n. (name, n) ∷ rest) k
one_more (x ∷ es) e name node rest h k = ap (λ t. (x.name, x.node) ∷ t) (one_more es e name node rest h k)
