use Rattle.std.proofs.Common.{arith}
use Rattle.wasi_producers.proofs.ItemFacts.{come_more, more_items}
use Rattle.wasi_producers.proofs.iterator.take_items.Goals as goal

pub loop-preserved : goal.loop-preserved
loop-preserved g c =
    let more = c.in_default.ensures.goes_on in
    record {
      come = come_more g.I.Iterator.next_gives c.args.source.now c.loop.items.items c.take_item.new.items.items c.loop.source c.take_item.new.source c.loop.invariant.come more;
      count = more_items g.I.Iterator.next_gives c.loop.items.items c.take_item.new.items.items c.loop.source c.take_item.new.source c.loop.counter more c.loop.invariant.count;
      may = c.in_default.ensures.can;
      room = omega (arith, c.in_default.ensures.room, c.loop.invariant.room);
    }
