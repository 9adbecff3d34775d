use Rattle.std.proofs.Common.{sym, ap, ◌∙◌, length}
use Rattle.std.proofs.lemmas.List.{nil_from_length}
use Rattle.wasi_fs_nodes.proofs.EntryFacts.{length_bytes}
use Rattle.wasi_fs_nodes.proofs.names.Names.is_empty.Goals as goal

pub returns : goal.returns
returns c = (
  (λ h. nil_from_length _ (ap length (sym c.self.view_is) ∙ length_bytes c.self.inside.map.entries ∙ c.is_empty.ensures.0 h)),
  (λ e. c.is_empty.ensures.1 (sym (length_bytes c.self.inside.map.entries) ∙ ap length (c.self.view_is ∙ e))),
)
