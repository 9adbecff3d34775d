use Rattle.std.specs.Prelude.{string_bytes}
use Rattle.std.specs.Map.{keys_of}
use Rattle.std.proofs.Common.{ℕ, List, ◌≡◌, ◌++◌, refl, rules, ap, sym, subst, append-nil, ◌∙◌}
use Rattle.wasi_fs_nodes.specs.Names.{IsAscending, entries_of_map}
use Rattle.wasi_fs_nodes.specs.Stats.{pairs_of}
use Rattle.wasi_fs_nodes.proofs.EntryFacts.{ascending_bytes}
use Rattle.wasi_fs_nodes.proofs.ListFacts.{one_more}
use Rattle.wasi_fs_nodes.proofs.names.Names.list.Goals as goal

pub loop-name-preserved : goal.loop-name-preserved
loop-name-preserved c =
    ap (λ es. pairs_of es ++ entries_of_map c.next.new.self) c.in_ok-push.ensures.items
    ∙ one_more c.loop-name.entries.items _ (string_bytes c.in-Some.name.now) c.in-Some.node.now (entries_of_map c.next.new.self) (search rules) refl
    ∙ ap (λ it. pairs_of c.loop-name.entries.items ++ entries_of_map it) (sym c.in-Some.ensures.steps)
    ∙ c.loop-name.invariant

pub returns-clause-ascending : goal.returns-clause-ascending
returns-clause-ascending c =
    let entries = ascending_bytes c.self.inside.map.entries c.iter-name-items.ensures.ordered in
    let all : pairs_of c.loop-name.entries.items ≡ c.args.self.now = sym (append-nil (pairs_of c.loop-name.entries.items)) ∙ ap (λ it. pairs_of c.loop-name.entries.items ++ entries_of_map it) (sym c.in-None.ensures.steps.0) ∙ c.loop-name.invariant in
    let P : List (List ℕ × ℕ) → Type 0 = λ names. IsAscending (keys_of names) in
    subst P (c.self.view_is ∙ sym all) entries
