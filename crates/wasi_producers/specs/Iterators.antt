-- A producer of an iterator's items, poll by poll. The iterator shows which calls of `next` it answers, and how.
use Rattle.std.specs.Prelude.{◌≡◌, ◌<◌, ℕ, min, length, List, [], ◌∷◌, ◌++◌, Option, Some, None, Result, Ok, Err}
use Rattle.wasi_producers.specs.declared.iterator.FallibleIteratorProducer.{FallibleIteratorProducer}
use Rattle.wasi_producers.specs.declared.iterator.FallibleIteratorProducer.TheVariants.{Open, Ended}
use Rattle.wasi_producers.specs.declared.results.StreamResult.{StreamResult}
use Rattle.wasi_producers.specs.declared.results.StreamResult.TheVariants.{Completed, Dropped, Cancelled, Pending}

-- how many items a poll hands out at most
abbrev pub most_items : Option ℕ → ℕ
most_items None = 32
most_items (Some room) = min room 65536

-- calls of `next` led from s to t, and these items came, with no error among them
abbrev pub ItemsCome : {S T E : Type 0} → (S → Option (Result T E) → S → Type 0) → S → List T → S → Type 0
ItemsCome next s [] t = s ≡ t
ItemsCome next s (item ∷ items) t = (j : _) × next s (Some (Ok item)) j × ItemsCome next j items t

-- one more item came
abbrev pub ItemComes : {S T E : Type 0} → (S → Option (Result T E) → S → Type 0) → S → List T → List T → S → Type 0
ItemComes next s before after t = (item : _) × next s (Some (Ok item)) t × (after ≡ before ++ item ∷ [])

-- what `next` answered where the stream ends so: its end, or its error
abbrev pub last_answer : {T E : Type 0} → Result (Unit {0}) E → Option (Result T E)
last_answer (Ok done) = None
last_answer (Err error) = Some (Err error)

-- these items came, and then the end or the error
abbrev pub ItemsEnd : {S T E : Type 0} → (S → Option (Result T E) → S → Type 0) → S → List T → Result (Unit {0}) E → Type 0
ItemsEnd next s items sent = (t : _) × ItemsCome next s items t × (u : _) × next t (last_answer sent) u

-- A POLL of an open producer hands out as many items as it may, or those before the end or the error
abbrev pub OpenPolled : {S T E : Type 0} → (S → Option (Result T E) → S → Type 0) → S → ℕ → StreamResult → List T → FallibleIteratorProducer S E → Type 0
OpenPolled next s most Completed items (Open t) = ItemsCome next s items t × (length items ≡ most)
OpenPolled next s most Dropped items (Ended sent) = ItemsEnd next s items sent × (length items < most)
OpenPolled next s most Completed items (Ended sent) = ⊥
OpenPolled next s most Dropped items (Open t) = ⊥
OpenPolled next s most Cancelled items after = ⊥
OpenPolled next s most Pending items after = ⊥

abbrev pub ItemsPolled : {S T E : Type 0} → (S → Option (Result T E) → S → Type 0) → FallibleIteratorProducer S E → ℕ → StreamResult → List T → FallibleIteratorProducer S E → Type 0
ItemsPolled next (Open s) most result items after = OpenPolled next s most result items after
ItemsPolled next (Ended sent) most result items after = (result ≡ Dropped) × (items ≡ []) × (after ≡ Ended sent)

-- an open producer's iterator may be asked for its next item
abbrev pub MayPoll : {S E : Type 0} → (S → Type 0) → FallibleIteratorProducer S E → Type 0
MayPoll can (Open s) = can s
MayPoll can (Ended sent) = Unit {0}

-- a stream that is closed before it ended sends Ok
abbrev pub items_closed : {S E : Type 0} → FallibleIteratorProducer S E → FallibleIteratorProducer S E
items_closed (Open s) = Ended (Ok tt)
items_closed (Ended sent) = Ended sent

-- the result that was sent, if one was
abbrev pub result_sent : {S E : Type 0} → FallibleIteratorProducer S E → Option (Result (Unit {0}) E)
result_sent (Open s) = None
result_sent (Ended sent) = Some sent
