-- What the history of a race shows.
use Rattle.std.specs.Prelude.{◌≡◌, ℕ, ◌<◌, Bool, true, false, ◌||◌, cond, nat_eq, List, [], ◌∷◌, ◌++◌, length, Option, Some, None}
use Rattle.wasi_stdin.specs.declared.answer.Outcome.{Outcome}
use Rattle.wasi_stdin.specs.declared.answer.Outcome.TheVariants as outcome
use Rattle.wasi_threads.specs.declared.entry.Entry.{Entry}
use Rattle.wasi_threads.specs.declared.entry.Event.{Event}
use Rattle.wasi_threads.specs.declared.entry.Event.TheVariants.{Join, Read, Skip, Ready, Block, PollRead, WaitOver, Capture, Deliver, Stop, SawStop}
use Rattle.wasi_threads.specs.Passes.{Passing, has_sight}
use Rattle.wasi_threads.specs.Rounds.{has_last}
use Rattle.wasi_race.specs.declared.outcome.Last.{Last}
use Rattle.wasi_race.specs.declared.outcome.Last.TheVariants as last
use Rattle.wasi_race.specs.declared.outcome.Reader.{Reader}
use Rattle.wasi_race.specs.declared.outcome.Reader.TheVariants.{First, Second}

-- the bytes that one read gave a reader
pub record Printed : Type 0 where
  pub reader : Reader
  pub bytes : List ℕ

-- a pass is that of the first reader where it has its number
abbrev pub reader_of : ℕ → ℕ → Reader
reader_of first pass = cond (nat_eq pass first) First Second

-- a read that gave bytes
abbrev pub piece_of : Reader → List ℕ → List Printed
piece_of reader [] = []
piece_of reader (b ∷ bytes) = record { reader = reader; bytes = b ∷ bytes } ∷ []

abbrev pub piece_by : Event → Reader → List ℕ → List Printed
piece_by (Read size) reader bytes = piece_of reader bytes
piece_by Join reader bytes = []
piece_by (Skip size) reader bytes = []
piece_by Ready reader bytes = []
piece_by (Block wait) reader bytes = []
piece_by (PollRead wait room) reader bytes = []
piece_by (WaitOver wait) reader bytes = []
piece_by Capture reader bytes = []
piece_by (Deliver outcome) reader bytes = []
piece_by Stop reader bytes = []
piece_by SawStop reader bytes = []

-- the reads that gave bytes, in order
abbrev pub pieces_in : ℕ → List Entry → List Printed
pieces_in first [] = []
pieces_in first (e ∷ es) = piece_by e.event (reader_of first e.pass) e.bytes ++ pieces_in first es

-- the end or the fault that the last delivery was
abbrev pub last_given : Outcome → Option Last
last_given (outcome.Gave n) = None
last_given outcome.End = Some last.End
last_given (outcome.Fault kind) = Some (last.Fault kind)

abbrev pub newer : Event → Option Last → Option Last
newer (Deliver outcome) before = last_given outcome
newer Join before = before
newer (Read size) before = before
newer (Skip size) before = before
newer Ready before = before
newer (Block wait) before = before
newer (PollRead wait room) before = before
newer (WaitOver wait) before = before
newer Capture before = before
newer Stop before = before
newer SawStop before = before

abbrev pub last_by : Option Last → List Entry → Option Last
last_by before [] = before
last_by before (e ∷ es) = last_by (newer e.event before) es

abbrev pub last_in : List Entry → Option Last
last_in history = last_by None history

-- a reader joins, and then reads this many bytes at a time, blocks and waits
abbrev pub is_readers : ℕ → Event → Bool
is_readers size (Read n) = nat_eq n size
is_readers size Join = true
is_readers size (Block wait) = true
is_readers size (WaitOver wait) = true
is_readers size (Skip n) = false
is_readers size Ready = false
is_readers size (PollRead wait room) = false
is_readers size Capture = false
is_readers size (Deliver outcome) = false
is_readers size Stop = false
is_readers size SawStop = false

abbrev pub AreReaders : ℕ → List Entry → Type 0
AreReaders size [] = Unit {0}
AreReaders size (e ∷ es) = (is_readers size e.event ≡ true) × AreReaders size es

-- a worker saw a stop, or delivered an end or a fault
abbrev pub is_done : List Entry → Bool
is_done entries = has_last entries || has_sight entries

pub record IsReader (size : ℕ) (pass : Passing) : Type 0 where
  pub some : 0 < length pass.entries
  pub events : AreReaders size pass.entries
