use Rattle.std.proofs.Common.{◌≡◌, ◌∙◌, ap, sym, subst, Some, None, string_bytes, true≢false}
use Rattle.std.specs.Str.{IsUtf8}
use Rattle.std.proofs.lemmas.Bool.{cond-true, cond-false, false_from_ne_true}
use Rattle.std.proofs.lemmas.Str.{IsUtf8-string_bytes, IsUtf8-from_is_utf8, is_utf8-from_IsUtf8}
use Rattle.wasi_base.proofs.text.Text.from_utf8.Goals as goal

pub returns-in-Ok : goal.returns-in-Ok
returns-in-Ok c =
    let same : string_bytes c.in-Ok.kept ≡ c.args.bytes.items = ap (λ bytes. bytes.items) c.in-Ok.ensures.ok in
    let utf8 : IsUtf8 c.args.bytes.items = subst IsUtf8 same (IsUtf8-string_bytes c.in-Ok.kept) in
    ap Some same ∙ sym (cond-true _ _ None (is_utf8-from_IsUtf8 _ utf8))

pub returns : goal.returns
returns c = sym (cond-false _ _ None (false_from_ne_true _ (λ is. true≢false (sym (c.in-Err.ensures.succeeds (IsUtf8-from_is_utf8 _ is))))))
