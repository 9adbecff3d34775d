-- A delivery of the input into link 0.
use Rattle.std.specs.Prelude.{◌≡◌, ℕ, zero, suc, ◌<◌, min, false, cond, ◌&&◌, [], ◌++◌, length, Option, None}
use Rattle.wasi_base.specs.Source.{Told, Given, Gives}
use Rattle.wasi_base.specs.Source as given
use Rattle.wasi_reply.specs.declared.reply.Told.TheVariants as told
use Rattle.wasi_reply.specs.declared.reply.Reply.{Reply}
use Rattle.wasi_reply.specs.declared.reply.Reply.TheVariants as reply
use Rattle.wasi_stdin.specs.Shared.{Shared}
use Rattle.wasi_stdin.specs.declared.mode.Mode.TheVariants.{Idle}
use Rattle.wasi_pipeline.specs.Chain.{closed, counted, holding, room_of}
use Rattle.wasi_pipeline.specs.declared.stage.Channel.{Channel}

-- nobody asked, and nothing is held or captured
abbrev pub resting : ℕ → Shared
resting deliveries = record { mode = Idle; held = []; captured = None; deliveries = deliveries }

-- how many bytes a feed asks the input for; for 0 it asks for none
abbrev pub size_fed : ℕ → Channel → ℕ
size_fed most channel = cond (channel.reader_open && channel.writer_open) (min most (room_of channel.link)) 0

-- what the read gives goes into the link; the end and a fault close its writer
pub record Fed : Type 0 where
  pub reply : Reply
  pub channel : Channel

abbrev pub fed_by : Given → Channel → Fed
fed_by (given.Bytes bytes) channel = record { reply = counted (length bytes); channel = holding channel (channel.link.held ++ bytes) }
fed_by given.End channel = record { reply = closed; channel = record channel { writer_open = false } }
fed_by (given.Fault kind) channel = record { reply = reply.Told (told.Failed kind); channel = record channel { writer_open = false } }

abbrev pub unfed : Channel → Fed
unfed channel = cond (channel.reader_open && channel.writer_open) (record { reply = counted 0; channel = channel }) (record { reply = closed; channel = channel })

-- a feed of a size, where a read of that size gives this
abbrev pub fed : ℕ → Given → Channel → Fed
fed zero g channel = unfed channel
fed (suc size) g channel = fed_by g channel

-- a feed took a source from `before` to `after`
pub record IsFed (before after : Option Told) (most : ℕ) (old new : Channel) (answer : Reply) : Type 0 where
  pub given : Given
  pub is : record { reply = answer; channel = new } ≡ fed (size_fed most old) given old
  pub read : 0 < size_fed most old → Gives before (size_fed most old) given after
  pub unread : size_fed most old ≡ 0 → after ≡ before

-- a fact on the input, if a reply tells its fault
abbrev pub OnFailed : Reply → Type 0 → Type 0
OnFailed (reply.Told (told.Failed kind)) P = P
OnFailed _ P = Unit {0}
