use Rattle.std.proofs.Common.{◌≡◌, ◌≤◌, ◌+◌, ◌-◌, ◌*◌, ◌++◌, ◌∷◌, [], ℕ, length, take, slice_index_or, ap, arith, sym, ◌∙◌}
use Rattle.std.proofs.lemmas.Grind.{common_steps}
use Rattle.std.proofs.Math.Nat.{mul-suc}
use Rattle.wasi_pipeline.specs.Kinds.{become_all, becomes, last_after, made_bytes, most_made}
use Rattle.wasi_pipeline.proofs.MadeFacts.{last_both, made_one}
use Rattle.wasi_pipeline.proofs.MovingFacts.{one_fits}
use Rattle.wasi_pipeline.proofs.kind.StageKind.make.Goals as goal

pub loop-byte-preserved : goal.loop-byte-preserved
loop-byte-preserved c =
    let kind = c.args.self in
    let bytes = c.args.bytes.now in
    let i = c.loop-byte.byte-index in
    let byte : ℕ = slice_index_or bytes i 0 in
    let first = take i bytes in
    let so_far = c.loop-byte.invariant in
    let next : take (i + 1) bytes ≡ first ++ byte ∷ [] = grind (arith, common_steps) in
    let is : made_bytes c.made_of-made.result ≡ becomes kind (last_after c.args.last.now first) byte = c.made_of-made.ensures ∙ ap (λ last. becomes kind last byte) so_far.last in
    let put : take (c.loop-byte.count + c.len-count.result) c.put_at.new.room ≡ take c.loop-byte.count c.loop-byte.room ++ made_bytes c.made_of-made.result = rw c.len-count.ensures c.put_at.ensures in
    let fits : c.len-count.result ≤ most_made kind = rw (c.len-count.ensures, c.made_of-made.ensures) (one_fits kind c.loop-byte.last byte) in
    let more : most_made kind * (length bytes - i) ≡ most_made kind * (length bytes - (i + 1)) + most_made kind = ap (λ n. most_made kind * n) (omega arith) ∙ mul-suc (most_made kind) (length bytes - (i + 1)) in
    record {
      made = put ∙ (λ j. so_far.made j ++ is j) ∙ sym (made_one kind c.args.last.now first byte) ∙ ap (become_all kind c.args.last.now) (sym next);
      last = last_both c.args.last.now first (byte ∷ []) ∙ ap (last_after c.args.last.now) (sym next);
      room = omega (arith, more, fits, so_far.room, c.put_at.auto.room);
    }
