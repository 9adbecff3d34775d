use Rattle.std.proofs.Common.{◌≡◌, ◌≤◌, length, vec_capacity}
use Rattle.wasi_producers.specs.Iterators.{ItemsCome}
use Rattle.wasi_producers.proofs.iterator.take_items.Given as goal

abbrev pub invariant-loop : goal.invariant-loop
invariant-loop g l = record {
  come : ItemsCome g.I.Iterator.next_gives l.fn.source l.items.items l.source;
  count : length l.items.items ≡ l.counter;
  may : g.I.Iterator.can_next l.source;
  room : l.most ≤ vec_capacity l.items;
}
