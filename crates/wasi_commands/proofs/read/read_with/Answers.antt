use Rattle.std.proofs.Common.{◌≡◌, ◌∙◌, arith, length, length-take, take, ◌++◌, ◌<◌, Ok}
use Rattle.std.proofs.lemmas.Grind.{common_steps}
use Rattle.wasi_commands.proofs.ReadFacts.{read_more, read_all, read_fault, room_some, read_within}
use Rattle.wasi_commands.proofs.read.read_with.Goals as goal

pub returns-in-Ok-eq0-clause-all : goal.returns-in-Ok-eq0-clause-all
returns-in-Ok-eq0-clause-all g c = λ s e.
    let zero : c.read.result ≡ Ok 0 = cc in
    let len : length c.whole.room ≡ 65536 = c.whole.auto.room ∙ c.requires in
    let some = room_some c.min-most.result c.len-in-whole.result c.whole.room c.min-most.ensures len (omega arith) in
    read_all (g.S.Source.told c.whole.script) (g.S.Source.told c.read.new.self) _ c.read.new.buf c.whole.bytes.items s (rw zero at (c.read.ensures.gives some)) (c.whole.invariant.told s e) (omega arith)

pub returns-in-Err-clause-part : goal.returns-in-Err-clause-part
returns-in-Err-clause-part g c = λ s e.
    let len : length c.whole.room ≡ 65536 = c.whole.auto.room ∙ c.requires in
    let some = room_some c.min-most.result c.len-in-whole.result c.whole.room c.min-most.ensures len (omega arith) in
    record {
      bytes = c.whole.bytes.items;
      taken = read_fault (g.S.Source.told c.whole.script) (g.S.Source.told c.read.new.self) _ c.in-Err.field-0 c.whole.bytes.items s (rw c.in-Err.is at (c.read.ensures.gives some)) (c.whole.invariant.told s e);
      within = omega arith;
    }

pub returns-clause-part : goal.returns-clause-part
returns-clause-part g c = λ s e. record { bytes = c.whole.bytes.items; taken = c.whole.invariant.told s e; past = omega (arith, c.whole.invariant.within) }

pub whole-preserved : goal.whole-preserved
whole-preserved g c =
    let len : length c.whole.room ≡ 65536 = c.whole.auto.room ∙ c.requires in
    let some = room_some c.min-most.result c.len-in-whole.result c.whole.room c.min-most.ensures len (omega arith) in
    let more : c.extend_from_slice.new.self.items ≡ c.whole.bytes.items ++ take c.in-Ok.count c.read.new.buf = grind (arith, common_steps) in
    let pos : 0 < c.in-Ok.count = grind arith in
    record {
      told = λ s e. read_more (g.S.Source.told c.whole.script) (g.S.Source.told c.read.new.self) _ c.in-Ok.count c.read.new.buf c.whole.bytes.items c.extend_from_slice.new.self.items s pos (rw c.in-Ok.is at (c.read.ensures.gives some)) (c.whole.invariant.told s e) more;
      later = omega (arith, c.read.ensures.cause.later, c.whole.invariant.later);
      within = read_within c.whole.bytes.items c.extend_from_slice.new.self.items c.read.new.buf c.min-most.result c.in-Ok.count more c.in-Ok.ensures.bound (omega (arith, c.read.auto.buf, length-take c.min-most.result c.whole.room)) (omega (arith, c.min-most.ensures, c.len-in-whole.ensures)) (omega arith);
    }
