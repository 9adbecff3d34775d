-- What a delivery into link 0 comes to.
use Rattle.std.proofs.Common.{◌≡◌, ℕ, zero, suc, ◌<◌, ◌++◌, min, true, List, length, Option, refl, arith, ◌∙◌}
use Rattle.wasi_base.specs.declared.io_kind.IoKind.{IoKind}
use Rattle.wasi_base.specs.Source.{Told, Given, Gives}
use Rattle.wasi_base.specs.Source as given
use Rattle.wasi_reply.specs.declared.reply.Reply.{Reply}
use Rattle.wasi_stdin.specs.Shared.{given_at, outcome_of}
use Rattle.wasi_stdin.specs.declared.mode.Mode.{Mode}
use Rattle.wasi_stdin.specs.declared.mode.Mode.TheVariants.{Idle, Asked, Held, Failed, Closed}
use Rattle.wasi_stdin.specs.declared.answer.Outcome.TheVariants as outcome
use Rattle.wasi_pipeline.specs.Link.{LinkState}
use Rattle.wasi_pipeline.specs.Chain.{counted, room_of}
use Rattle.wasi_pipeline.specs.Feeding.{Fed, IsFed, fed, fed_by, size_fed}
use Rattle.wasi_pipeline.specs.declared.stage.Channel.{Channel}

pub gave_in : (mode : Mode) (held : List ℕ) (count : ℕ) → outcome.Gave count ≡ outcome_of (given_at mode held) → (given_at mode held ≡ given.Bytes held) × (count ≡ length held)
gave_in Idle held count is = absurd (cc)
gave_in (Asked n) held count is = absurd (cc)
gave_in Held held count is = (refl, cc)
gave_in (Failed kind) held count is = absurd (cc)
gave_in Closed held count is = absurd (cc)

pub fault_in : (mode : Mode) (held : List ℕ) (kind : IoKind) → outcome.Fault kind ≡ outcome_of (given_at mode held) → given_at mode held ≡ given.Fault kind
fault_in Idle held kind is = absurd (cc)
fault_in (Asked n) held kind is = absurd (cc)
fault_in Held held kind is = absurd (cc)
fault_in (Failed it) held kind is = cc
fault_in Closed held kind is = absurd (cc)

pub size_is : (most : ℕ) (channel : Channel) → channel.reader_open ≡ true → channel.writer_open ≡ true → size_fed most channel ≡ min most (room_of channel.link)
size_is most channel reader writer = rw (reader, writer) refl

pub gave_is : (old : Channel) (link : LinkState) (count : ℕ) (held : List ℕ) → link ≡ record { bound = old.link.bound; held = old.link.held ++ held } → count ≡ length held → ◌≡◌ {A = Fed} (record { reply = counted count; channel = record { link = link; writer_open = old.writer_open; reader_open = old.reader_open } }) (fed_by (given.Bytes held) old)
gave_is old link count held link_is count_is = rw (link_is, count_is) refl

fed_some : (size n : ℕ) (g : Given) (old : Channel) → size ≡ suc n → fed_by g old ≡ fed size g old
fed_some size n g old is = rw is refl

pub is_fed : (before after : Option Told) (most : ℕ) (old new : Channel) (answer : Reply) (size : ℕ) (g : Given) → size_fed most old ≡ size → 0 < size → Gives before size g after → ◌≡◌ {A = Fed} (record { reply = answer; channel = new }) (fed_by g old) → IsFed before after most old new answer
is_fed before after most old new answer zero g size_is some gives is = absurd (omega arith)
is_fed before after most old new answer (suc n) g size_is some gives is = record {
  given = g;
  is = is ∙ fed_some (size_fed most old) n g old size_is;
  read = λ _. rw size_is gives;
  unread = λ none. absurd (omega (arith, none, size_is));
}
