use Rattle.std.proofs.Common.{◌∙◌, ap, sym, false}
use Rattle.std.specs.Prelude.{unwrap_or}
use Rattle.std.specs.Option.{option_map}
use Rattle.wasi_script.specs.Declarations.{task_at}
use Rattle.wasi_script.specs.laws.Rows.{rows_lookup}
use Rattle.wasi_script.proofs.name_set.NameSet.has_task.Goals as goal

pub returns-in-Some : goal.returns-in-Some
returns-in-Some c =
    ap (λ found. unwrap_or (option_map (λ flags. flags.has_task) found) false) (c.in-Some.ensures.value ∙ sym (rows_lookup c.args.name.now c.self.inside.names.entries))
    ∙ ap (λ streams. task_at streams c.args.name.now) c.self.view_is

pub returns-in-None : goal.returns-in-None
returns-in-None c =
    ap (λ found. unwrap_or (option_map (λ flags. flags.has_task) found) false) (c.in-None.ensures.value ∙ sym (rows_lookup c.args.name.now c.self.inside.names.entries))
    ∙ ap (λ streams. task_at streams c.args.name.now) c.self.view_is
