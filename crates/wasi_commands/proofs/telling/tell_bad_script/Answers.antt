use Rattle.std.proofs.Common.{◌≡◌, ◌++◌, ◌∷◌, [], ◌∙◌}
use Rattle.std.specs.Prelude.{codes}
use Rattle.std.specs.Fmt.{decimal}
use Rattle.wasi_commands.proofs.TellFacts.{tells_first, tells_then}
use Rattle.wasi_commands.proofs.telling.tell_bad_script.Goals as goal

pub returns-then-not-tell : goal.returns-then-not-tell
returns-then-not-tell g c = tells_first (codes "bad script: line ") (decimal c.args.number ++ 10 ∷ []) _ _ _ _ (c.tell.ensures.part c.if-not-tell.true)

pub returns-then-not-tell-2 : goal.returns-then-not-tell-2
returns-then-not-tell-2 g c =
    let digits : c.as_bytes-digits.result.now ≡ decimal c.args.number = c.as_bytes-digits.ensures.value ∙ c.format.ensures.text in
    tells_then (codes "bad script: line ") (decimal c.args.number ++ 10 ∷ []) _ _ _ _ _ _ c.tell.ensures.later (c.tell.ensures.whole c.if-not-tell.false)
    (tells_first (decimal c.args.number) (10 ∷ []) _ _ _ _ (rw digits at (c.tell-2.ensures.part c.if-not-tell-2.true)))

pub returns : goal.returns
returns g c =
    let digits : c.as_bytes-digits.result.now ≡ decimal c.args.number = c.as_bytes-digits.ensures.value ∙ c.format.ensures.text in
    tells_then (codes "bad script: line ") (decimal c.args.number ++ 10 ∷ []) _ _ _ _ _ _ c.tell.ensures.later (c.tell.ensures.whole c.if-not-tell.false)
    (tells_then (decimal c.args.number) (10 ∷ []) _ _ _ _ _ _ c.tell-2.ensures.later (rw digits at (c.tell-2.ensures.whole c.if-not-tell-2.false)) c.tell-3.ensures.tells)
