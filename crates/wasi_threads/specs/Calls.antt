-- What a call does to the locked state and to its pass.
use Rattle.std.specs.Prelude.{Bool, zero, suc, ◌≡◌, ℕ, List, [], ◌∷◌, ◌++◌, length, Option, None, MatchBool}
use Rattle.wasi_stdin.specs.Shared.{Reading, Bytes, Ended, Fault, bytes_read, Skipped, Count, Past, SkipFault, Polling, Polled, Pending, PollFault, bytes_polled}
use Rattle.wasi_threads.specs.declared.entry.Event.{Event}
use Rattle.wasi_threads.specs.declared.entry.Event.TheVariants as event
use Rattle.wasi_threads.specs.declared.entry.Kept.{Kept}
use Rattle.wasi_threads.specs.declared.entry.Kept.TheVariants as kept
use Rattle.wasi_threads.specs.declared.reply.ReadReply.{ReadReply}
use Rattle.wasi_threads.specs.declared.reply.ReadReply.TheVariants as reply
use Rattle.wasi_threads.specs.declared.reply.PolledReply.{PolledReply}
use Rattle.wasi_threads.specs.declared.reply.PolledReply.TheVariants as polled
use Rattle.wasi_threads.specs.History.{Locked, entry_for, after_event, last_number, last_bytes, kept_reading, kept_polling}
use Rattle.wasi_threads.specs.Passes.{Passing, has_stop}

abbrev pub reading_in : ReadReply → Reading
reading_in (reply.Bytes bytes) = Bytes bytes
reading_in reply.Closed = Ended
reading_in (reply.Failed kind) = Fault kind

abbrev pub polling_in : PolledReply → Polling
polling_in (polled.Bytes bytes) = Polled bytes
polling_in polled.Pending = Pending
polling_in (polled.Failed kind) = PollFault kind

-- one event of a pass: the history grows by its entry, and so does the pass
pub record Makes (old new : Locked) (before after : Passing) (event : Event) (given : List ℕ) : Type 0 where
  pub history : new.history ≡ old.history ++ entry_for (length old.history) before.number event given old.now ∷ []
  pub now : new.now ≡ after_event event before.number given old.now
  pub entries : after.entries ≡ before.entries ++ entry_for (length old.history) before.number event given old.now ∷ []
  pub number : after.number ≡ before.number

-- a pass gains one entry
pub record Gains (before after : Passing) (event : Event) (answer : Kept) (bytes : List ℕ) (wait : Option ℕ) : Type 0 where
  pub entries : after.entries ≡ before.entries ++ record { number = last_number after.entries; pass = before.number; event = event; answer = answer; bytes = bytes; wait = wait } ∷ []
  pub number : after.number ≡ before.number

pub record SamePass (before after : Passing) : Type 0 where
  pub entries : after.entries ≡ before.entries
  pub number : after.number ≡ before.number

-- a new pass has its join alone
pub record IsJoined (pass : Passing) : Type 0 where
  pub entries : pass.entries ≡ record { number = last_number pass.entries; pass = pass.number; event = event.Join; answer = kept.None; bytes = []; wait = None } ∷ []

-- what a read adds to its pass: nothing where its size is 0
abbrev pub AddsRead : Passing → Passing → ℕ → Reading → Type 0
AddsRead before after zero reading = (reading ≡ Bytes []) × (after ≡ before)
AddsRead before after (suc n) reading = Gains before after (event.Read (suc n)) (kept_reading reading) (bytes_read reading) None

abbrev pub kept_skipped : Skipped → Kept
kept_skipped (Count n) = kept.Count n
kept_skipped Past = kept.Closed
kept_skipped (SkipFault kind) = kept.Failed kind

abbrev pub count_skipped : Skipped → ℕ
count_skipped (Count n) = n
count_skipped Past = 0
count_skipped (SkipFault kind) = 0

-- a skip keeps the bytes that it skips, as many as it answers
abbrev pub AddsSkip : Passing → Passing → ℕ → Skipped → Type 0
AddsSkip before after zero skipped = (skipped ≡ Count 0) × (after ≡ before)
AddsSkip before after (suc n) skipped = Gains before after (event.Skip (suc n)) (kept_skipped skipped) (last_bytes after.entries) None × (length (last_bytes after.entries) ≡ count_skipped skipped)

abbrev pub AddsReady : Passing → Passing → Bool → Type 0
AddsReady before after answer = Gains before after event.Ready (kept.Flag answer) [] None

abbrev pub AddsBlock : Passing → Passing → Option ℕ → Bool → Option ℕ → Type 0
AddsBlock before after since answer left = Gains before after (event.Block since) (kept.Flag answer) [] left

abbrev pub AddsPoll : Passing → Passing → Option ℕ → ℕ → Polling → Option ℕ → Type 0
AddsPoll before after since room polling left = Gains before after (event.PollRead since room) (kept_polling polling) (bytes_polled polling) left

abbrev pub AddsWaitOver : Passing → Passing → Option ℕ → Bool → Type 0
AddsWaitOver before after since answer = Gains before after (event.WaitOver since) (kept.Flag answer) [] None

-- a pass stops once
abbrev pub AddsStop : Passing → Passing → Type 0
AddsStop before after = MatchBool (has_stop before.entries) (after ≡ before) (Gains before after event.Stop kept.None [] None)
