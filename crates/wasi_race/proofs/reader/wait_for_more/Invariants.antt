use Rattle.wasi_race.specs.History.{IsReader}
use Rattle.wasi_race.proofs.reader.wait_for_more.Given as goal

abbrev pub invariant-loop : goal.invariant-loop
invariant-loop g l = record {
  next : (goal.iterator-loop g).can_next l.iterator';
  finite : (goal.iterator-loop g).is_finite l.iterator';
  reader : IsReader l.fn.size l.pass;
}
