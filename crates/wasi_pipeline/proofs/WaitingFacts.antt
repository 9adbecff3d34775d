-- A turn that takes no byte lacks bytes or room.
use Rattle.std.proofs.Common.{◌≡◌, ℕ, zero, suc, ◌<◌, ◌≤◌, ◌⊎◌, inl, inr, Bool, true, false, not, cond, List, [], ◌∷◌, length, Option, Some, ◌-◌, refl, arith}
use Rattle.std.proofs.lemmas.Bool.Decides.{nat_tests}
use Rattle.std.specs.Prelude.{nat_eq, nat_le, ◌&&◌}
use Rattle.wasi_reply.specs.declared.reply.Reply.TheVariants as reply
use Rattle.wasi_pipeline.specs.Chain.{Turned, after_moving, closed, counted, is_done, pumped, room_of, with_output}
use Rattle.wasi_pipeline.specs.Kinds.{Moved, becomes, moving, stays, with_byte}
use Rattle.wasi_pipeline.specs.Waiting.{LacksBytes, LacksRoom}
use Rattle.wasi_pipeline.specs.declared.kind.StageKind.{StageKind}
use Rattle.wasi_pipeline.specs.declared.stage.Channel.{Channel}
use Rattle.wasi_pipeline.specs.declared.stage.Stage.{Stage}

-- the first byte of these is more than there is room for
record FirstLacksRoom (kind : StageKind) (last : Option ℕ) (room : ℕ) (held : List ℕ) : Type 0 where
  byte : ℕ
  rest : List ℕ
  next : held ≡ byte ∷ rest
  more : room < length (becomes kind last byte)

none_moved : (kind : StageKind) (last : Option ℕ) (most room : ℕ) (held : List ℕ) → 1 ≤ most → (moving kind last most room held).count ≡ 0 → (held ≡ []) ⊎ FirstLacksRoom kind last room held
none_moved kind last most room [] asked none = inl refl
none_moved kind last zero room (byte ∷ bytes) asked none = absurd (omega (arith, asked))
none_moved kind last (suc most) room (byte ∷ bytes) asked none = by_test (nat_le (length first) room) refl none
  where
    first : List ℕ
    first = becomes kind last byte

    by_test : (fits : Bool) → nat_le (length first) room ≡ fits → (cond fits (with_byte first (moving kind (Some byte) most (room - length first) bytes)) (stays last (byte ∷ bytes))).count ≡ 0 → (byte ∷ bytes ≡ []) ⊎ FirstLacksRoom kind last room (byte ∷ bytes)
    by_test true fits none = absurd (omega (arith, none))
    by_test false fits none = inr (record { byte = byte; rest = bytes; next = refl; more = grind (arith, nat_tests, fits) })

open_yet : (writable : Bool) (held : List ℕ) → held ≡ [] → (nat_eq (length held) 0 && not writable) ≡ false → writable ≡ true
open_yet true held empty more = refl
open_yet false held empty more = absurd (let no : true ≡ false = rw empty at more in cc)

pub takes_nothing : (most : ℕ) (input : Channel) (stage : Stage) → 1 ≤ most → (pumped most input stage).reply ≡ counted 0 → LacksBytes input ⊎ LacksRoom input stage
takes_nothing most input stage asked is = at_stop stage.stopped is
  where
    moved : Moved
    moved = moving stage.kind stage.last most (room_of stage.output.link) input.link.held

    ended : Turned
    ended = record { reply = reply.Ended; input = input; stage = stage }

    shut : Turned
    shut = record { reply = closed; input = input; stage = stage }

    over : Turned
    over = record { reply = closed; input = input; stage = with_output stage (record stage.output { writer_open = false }) }

    on_moved : is_done input ≡ false → moved.count ≡ 0 → LacksBytes input ⊎ LacksRoom input stage
    on_moved more none = of (none_moved stage.kind stage.last most (room_of stage.output.link) input.link.held asked none)
      where
        of : (input.link.held ≡ []) ⊎ FirstLacksRoom stage.kind stage.last (room_of stage.output.link) input.link.held → LacksBytes input ⊎ LacksRoom input stage
        of (inl empty) = inl (record { empty = empty; writable = open_yet input.writer_open input.link.held empty more })
        of (inr lacks) = inr (record { byte = lacks.byte; rest = lacks.rest; next = lacks.next; room = lacks.more })

    at_input : (done : Bool) → is_done input ≡ done → (cond done over (after_moving input stage moved)).reply ≡ counted 0 → LacksBytes input ⊎ LacksRoom input stage
    at_input true more is = absurd (cc)
    at_input false more is = on_moved more (let none : moved.count ≡ 0 = cc in none)

    at_reader : (left : Bool) → (cond left shut (cond (is_done input) over (after_moving input stage moved))).reply ≡ counted 0 → LacksBytes input ⊎ LacksRoom input stage
    at_reader true is = absurd (cc)
    at_reader false is = at_input (is_done input) refl is

    at_stop : (stopped : Bool) → (cond stopped ended (cond (not stage.output.reader_open) shut (cond (is_done input) over (after_moving input stage moved)))).reply ≡ counted 0 → LacksBytes input ⊎ LacksRoom input stage
    at_stop true is = absurd (cc)
    at_stop false is = at_reader (not stage.output.reader_open) is
