use Rattle.std.proofs.Common.{◌≡◌, ◌++◌, drop, length, take}
use Rattle.std.specs.Prelude.{map}
use Rattle.wasi_reply.specs.Field.{pair_text, items_text}
use Rattle.wasi_reply.specs.Texts.{text_pairs}
use Rattle.wasi_reply.proofs.PushedItems.{to_come}
use Rattle.wasi_reply.proofs.text.push_pairs.Given as goal

-- the text so far, with the pairs to come, is the whole text
abbrev pub invariant-loop-pair : goal.invariant-loop-pair
invariant-loop-pair l = record {
  so_far : l.text.items ++ to_come l.before (map pair_text (text_pairs (drop l.pair-index l.pairs))) ≡ l.fn.text.items ++ (l.word ++ items_text (map pair_text (text_pairs l.pairs)));
  front : take (length l.fn.text.items) l.text.items ≡ l.fn.text.items;
}
