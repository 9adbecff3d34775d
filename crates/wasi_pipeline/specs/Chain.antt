-- What the steps of a pipeline reply, and what they do to its links and stages.
use Rattle.std.specs.Prelude.{ℕ, zero, suc, ◌-◌, Bool, true, false, not, cond, ◌&&◌, nat_eq, List, [], ◌∷◌, ◌++◌, length, take, drop}
use Rattle.wasi_reply.specs.declared.reply.Told.TheVariants as told
use Rattle.wasi_reply.specs.declared.reply.Reply.{Reply}
use Rattle.wasi_reply.specs.declared.reply.Reply.TheVariants as reply
use Rattle.wasi_pipeline.specs.Link.{LinkState}
use Rattle.wasi_pipeline.specs.Kinds.{Moved, moving}
use Rattle.wasi_pipeline.specs.declared.stage.Channel.{Channel}
use Rattle.wasi_pipeline.specs.declared.stage.Stage.{Stage}
use Rattle.wasi_pipeline.specs.declared.stage.Turn.{Turn}
use Rattle.wasi_pipeline.specs.declared.stage.Turn.TheVariants.{Pump, Stop}

-- the replies
abbrev pub done : Reply
done = reply.Told told.Ok

abbrev pub closed : Reply
closed = reply.Told told.Closed

abbrev pub counted : ℕ → Reply
counted count = reply.Told (told.Count count)

abbrev pub shown : List ℕ → Reply
shown bytes = reply.Told (told.Bytes bytes)

-- a link with nothing in it and both ends open
abbrev pub new_channel : ℕ → Channel
new_channel bound = record { link = record { bound = bound; held = [] }; writer_open = true; reader_open = true }

abbrev pub room_of : LinkState → ℕ
room_of link = link.bound - length link.held

-- nothing is left in it, and nothing more comes
abbrev pub is_done : Channel → Bool
is_done channel = nat_eq (length channel.link.held) 0 && not channel.writer_open

abbrev pub holding : Channel → List ℕ → Channel
holding channel bytes = record channel { link = record { bound = channel.link.bound; held = bytes } }

-- what a stage, the link that it reads and the reply are after its turn
pub record Turned : Type 0 where
  pub reply : Reply
  pub input : Channel
  pub stage : Stage

abbrev pub with_output : Stage → Channel → Stage
with_output stage channel = record stage { output = channel }

abbrev pub after_moving : Channel → Stage → Moved → Turned
after_moving input stage moved = record {
  reply = counted moved.count;
  input = holding input moved.left;
  stage = record stage { last = moved.last; output = holding stage.output (stage.output.link.held ++ moved.made) };
}

abbrev pub pumped : ℕ → Channel → Stage → Turned
pumped most input stage =
    cond stage.stopped (record { reply = reply.Ended; input = input; stage = stage })
    (cond (not stage.output.reader_open) (record { reply = closed; input = input; stage = stage })
    (cond (is_done input) (record { reply = closed; input = input; stage = with_output stage (record stage.output { writer_open = false }) })
    (after_moving input stage (moving stage.kind stage.last most (room_of stage.output.link) input.link.held))))

abbrev pub stopped : Channel → Stage → Turned
stopped input stage =
    cond stage.stopped (record { reply = reply.Ended; input = input; stage = stage })
    (record { reply = done; input = record input { reader_open = false }; stage = record stage { stopped = true; output = record stage.output { writer_open = false } } })

abbrev pub turned : Turn → Channel → Stage → Turned
turned (Pump most) input stage = pumped most input stage
turned Stop input stage = stopped input stage

-- the reply, link 0 and the stages after a step; each stage has the link that it writes
pub record Chain : Type 0 where
  pub reply : Reply
  pub input : Channel
  pub stages : List Stage

abbrev pub below : Channel → Stage → Chain → Chain
below input stage rest = record { reply = rest.reply; input = input; stages = with_output stage rest.input ∷ rest.stages }

-- a turn of the stage at a place, counted from 0
abbrev pub turned_at : ℕ → Turn → Channel → List Stage → Chain
turned_at at turn input [] = record { reply = reply.Ended; input = input; stages = [] }
turned_at zero turn input (stage ∷ stages) = record { reply = (turned turn input stage).reply; input = (turned turn input stage).input; stages = (turned turn input stage).stage ∷ stages }
turned_at (suc at) turn input (stage ∷ stages) = below input stage (turned_at at turn stage.output stages)

-- the first bytes of a link are handed out, at most so many
abbrev pub drain_reply : ℕ → Channel → Reply
drain_reply most channel = cond (is_done channel) closed (shown (take most channel.link.held))

abbrev pub after_drain : ℕ → Channel → Channel
after_drain most channel = holding channel (drop most channel.link.held)

-- the same of the last link
abbrev pub drained : ℕ → Channel → List Stage → Chain
drained most input [] = record { reply = drain_reply most input; input = after_drain most input; stages = [] }
drained most input (stage ∷ stages) = below input stage (drained most stage.output stages)
