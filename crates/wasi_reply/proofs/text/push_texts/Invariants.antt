use Rattle.std.proofs.Common.{◌≡◌, ◌++◌, drop, length, take}
use Rattle.std.specs.Prelude.{map}
use Rattle.wasi_reply.specs.Field.{hex_of, items_text}
use Rattle.wasi_reply.specs.Texts.{texts}
use Rattle.wasi_reply.proofs.PushedItems.{to_come}
use Rattle.wasi_reply.proofs.text.push_texts.Given as goal

-- the text so far, with the items to come, is the whole text
abbrev pub invariant-loop-item : goal.invariant-loop-item
invariant-loop-item l = record {
  so_far : l.text.items ++ to_come l.before (map hex_of (texts (drop l.item-index l.list))) ≡ l.fn.text.items ++ (l.word ++ items_text (map hex_of (texts l.list)));
  front : take (length l.fn.text.items) l.text.items ≡ l.fn.text.items;
}
