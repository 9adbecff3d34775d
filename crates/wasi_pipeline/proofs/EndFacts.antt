-- A link's writer is closed only where nothing more can come, and so the end that a reader is told of is the input's.
use Rattle.std.proofs.Common.{◌≡◌, ℕ, zero, suc, ◌+◌, ◌-◌, ◌<◌, ◌≤◌, ◌⊎◌, ◌++◌, min, max, inl, inr, Bool, true, false, not, cond, List, [], ◌∷◌, length, take, drop, Option, Some, None, refl, ap, arith, ◌∙◌, sym, subst, append-nil}
use Rattle.std.proofs.lemmas.Bool.Decides.{nat_tests}
use Rattle.std.specs.Prelude.{nat_eq, ◌&&◌}
use Rattle.std.specs.List.{flat_map}
use Rattle.wasi_base.specs.declared.source.Plan.{Plan}
use Rattle.wasi_base.specs.declared.source.Plan.TheVariants.{Take, Fail}
use Rattle.wasi_base.specs.Source.{Told, Given, given_by, told_by, gives, told_after}
use Rattle.wasi_base.specs.Source as given
use Rattle.wasi_reply.specs.declared.reply.Reply.{Reply}
use Rattle.wasi_reply.specs.declared.reply.Reply.TheVariants as reply
use Rattle.wasi_pipeline.specs.Chain.{Chain, Turned, after_drain, after_moving, closed, counted, drain_reply, drained, holding, is_done, new_channel, pumped, room_of, shown, turned, turned_at, with_output}
use Rattle.wasi_pipeline.specs.Completion.{Completes, FaultNone, HasEnded, IsEnd, KeepsOn, StopNone, StopsNone, ValidRunsComplete, made_by_all}
use Rattle.wasi_pipeline.specs.Conservation.{Carries, CarriesIn, Passes, bytes_shown}
use Rattle.wasi_pipeline.specs.Feeding.{Fed, OnFailed, fed, fed_by, size_fed, unfed}
use Rattle.wasi_pipeline.specs.Grammar.{AllStand, declared_after, may_stand, nothing_declared}
use Rattle.wasi_pipeline.specs.Kinds.{made, moving}
use Rattle.wasi_pipeline.specs.Run.{given_for, pipe_end, replies, step_told, stepped_with, told_end, told_for}
use Rattle.wasi_pipeline.specs.Steps.{Pipe, Stepped, new_pipe, new_stage, size_on, stepped_by}
use Rattle.wasi_pipeline.specs.declared.kind.StageKind.{StageKind}
use Rattle.wasi_pipeline.specs.declared.stage.Channel.{Channel}
use Rattle.wasi_pipeline.specs.declared.stage.Stage.{Stage}
use Rattle.wasi_pipeline.specs.declared.stage.Turn.{Turn}
use Rattle.wasi_pipeline.specs.declared.stage.Turn.TheVariants.{Pump, Stop}
use Rattle.wasi_pipeline.specs.declared.line.Line.{Line}
use Rattle.wasi_pipeline.specs.declared.line.Line.TheVariants as line
use Rattle.wasi_pipeline.specs.declared.declarations.Declared.{Declared}
use Rattle.wasi_pipeline.proofs.StepFacts.{not_begun, run_conserves}

-- a link's writer is closed only where this holds, and each later link's only where the one before it is done
abbrev pub Closes : Type 0 → Channel → List Stage → Type 0
Closes P channel [] = channel.writer_open ≡ false → P
Closes P channel (stage ∷ stages) = (channel.writer_open ≡ false → P) × Closes (is_done channel ≡ true) stage.output stages

weaken : {P Q : Type 0} (channel : Channel) (stages : List Stage) → (P → Q) → Closes P channel stages → Closes Q channel stages
weaken channel [] f closes = λ is. f (closes is)
weaken channel (stage ∷ stages) f closes = (λ is. f (closes.0 is), closes.1)

top : {P : Type 0} (channel : Channel) (stages : List Stage) → Closes P channel stages → channel.writer_open ≡ false → P
top channel [] closes = closes
top channel (stage ∷ stages) closes = closes.0

-- another link in the place of the first
replaced : (P : Type 0) {Q : Type 0} (old new : Channel) (stages : List Stage) → (new.writer_open ≡ false → Q) → (is_done old ≡ true → is_done new ≡ true) → Closes P old stages → Closes Q new stages
replaced P old new [] first done closes = first
replaced P old new (stage ∷ stages) first done closes = (first, weaken stage.output stages done closes.1)

abbrev last_done : Channel → List Stage → Bool
last_done channel [] = is_done channel
last_done channel (stage ∷ stages) = last_done stage.output stages

done_parts : (channel : Channel) → is_done channel ≡ true → (channel.link.held ≡ []) × (channel.writer_open ≡ false)
done_parts channel is = (nothing channel.link.held channel.writer_open is, unwritten (nat_eq (length channel.link.held) 0) channel.writer_open is)
  where
    unwritten : (none written : Bool) → (none && not written) ≡ true → written ≡ false
    unwritten true false is = refl
    unwritten true true is = absurd (cc)
    unwritten false written is = absurd (cc)

    first_true : (a b : Bool) → (a && b) ≡ true → a ≡ true
    first_true true b is = refl
    first_true false b is = absurd (cc)

    nothing : (held : List ℕ) (written : Bool) → (nat_eq (length held) 0 && not written) ≡ true → held ≡ []
    nothing [] written is = refl
    nothing (byte ∷ held) written is =
        let none = first_true (nat_eq (length (byte ∷ held)) 0) (not written) is in
        let zero_is : length (byte ∷ held) ≡ 0 = grind (arith, nat_tests, none) in
        absurd (omega (arith, zero_is))

done_of : (channel : Channel) → channel.link.held ≡ [] → channel.writer_open ≡ false → is_done channel ≡ true
done_of channel none unwritten = rw (none, unwritten) refl

-- where the last link is done, all before it are, and the input is at its end
arrives : (P : Type 0) (channel : Channel) (stages : List Stage) → Closes P channel stages → last_done channel stages ≡ true → is_done channel ≡ true
arrives P channel [] closes last = last
arrives P channel (stage ∷ stages) closes last =
    let next = arrives (is_done channel ≡ true) stage.output stages closes.1 last in
    top stage.output stages closes.1 (done_parts stage.output next).1

-- then what came out of the last link is what all kinds make of what went into the first
all_made : (P : Type 0) (put : List ℕ) (channel : Channel) (stages : List Stage) (out : List ℕ) → Closes P channel stages → last_done channel stages ≡ true → Carries put channel stages out → out ≡ made_by_all stages put
all_made P put channel [] out closes last carries =
    sym (carries.whole ∙ ap (λ held. out ++ held) (done_parts channel last).0 ∙ append-nil out)
all_made P put channel (stage ∷ stages) out closes last carries =
    let done = arrives P channel (stage ∷ stages) closes last in
    let all : carries.0 ≡ put = sym (carries.1.whole ∙ ap (λ held. carries.0 ++ held) (done_parts channel done).0 ∙ append-nil carries.0) in
    all_made (is_done channel ≡ true) (made stage.kind carries.0) stage.output stages out closes.1 last carries.3 ∙ ap (λ bytes. made_by_all stages (made stage.kind bytes)) all

apart : (a : Bool) → a ≡ false → a ≡ true → ⊥
apart true lacks has = absurd (cc)
apart false lacks has = absurd (cc)

-- ---- turns
last_unwritten : (channel : Channel) (stages : List Stage) → last_done channel stages ≡ true → last_done (record channel { writer_open = false }) stages ≡ true
last_unwritten channel [] last = done_of (record channel { writer_open = false }) (done_parts channel last).0 refl
last_unwritten channel (stage ∷ stages) last = last

-- links that close as they should still do, and where the last one was done it still is
record GoesOn (P : Type 0) (old : Channel) (before : List Stage) (new : Channel) (after : List Stage) : Type 0 where
  closes : Closes P new after
  stays : last_done old before ≡ true → last_done new after ≡ true

pump_goes_on : {P : Type 0} (most : ℕ) (input : Channel) (stage : Stage) (stages : List Stage) → Closes P input (stage ∷ stages) → GoesOn P input (stage ∷ stages) (pumped most input stage).input ((pumped most input stage).stage ∷ stages)
pump_goes_on {P} most input stage stages closes = when_stopped stage.stopped
  where
    moved : Turned
    moved = after_moving input stage (moving stage.kind stage.last most (room_of stage.output.link) input.link.held)

    ended : Turned
    ended = record { reply = closed; input = input; stage = with_output stage (record stage.output { writer_open = false }) }

    goes_on : Turned → Type 0
    goes_on it = GoesOn P input (stage ∷ stages) it.input (it.stage ∷ stages)

    when_done : (test : Bool) → is_done input ≡ test → goes_on (cond test ended moved)
    when_done true is = record {
      closes = (closes.0, replaced (is_done input ≡ true) stage.output (record stage.output { writer_open = false }) stages (λ _. is) (λ done. done_of (record stage.output { writer_open = false }) (done_parts stage.output done).0 refl) closes.1);
      stays = λ last. last_unwritten stage.output stages last;
    }
    when_done false is = record {
      closes = (closes.0, replaced (is_done input ≡ true) stage.output moved.stage.output stages (λ unwritten. absurd (apart (is_done input) is (top stage.output stages closes.1 unwritten))) (λ done. absurd (apart (is_done input) is (top stage.output stages closes.1 (done_parts stage.output done).1))) closes.1);
      stays = λ last. absurd (apart (is_done input) is (arrives P input (stage ∷ stages) closes last));
    }

    when_closed : (test : Bool) → goes_on (cond test (record { reply = closed; input = input; stage = stage }) (cond (is_done input) ended moved))
    when_closed true = record { closes = closes; stays = λ last. last }
    when_closed false = when_done (is_done input) refl

    when_stopped : (test : Bool) → goes_on (cond test (record { reply = reply.Ended; input = input; stage = stage }) (cond (not stage.output.reader_open) (record { reply = closed; input = input; stage = stage }) (cond (is_done input) ended moved)))
    when_stopped true = record { closes = closes; stays = λ last. last }
    when_stopped false = when_closed (not stage.output.reader_open)

turn_goes_on : (P : Type 0) (at : ℕ) (turn : Turn) (input : Channel) (stages : List Stage) → KeepsOn turn → Closes P input stages → GoesOn P input stages (turned_at at turn input stages).input (turned_at at turn input stages).stages
turn_goes_on P at turn input [] on closes = record { closes = closes; stays = λ last. last }
turn_goes_on P zero (Pump most) input (stage ∷ stages) on closes = pump_goes_on most input stage stages closes
turn_goes_on P zero Stop input (stage ∷ stages) on closes = absurd on
turn_goes_on P (suc at) turn input (stage ∷ stages) on closes =
    let rest = turn_goes_on (is_done input ≡ true) at turn stage.output stages on closes.1 in
    record { closes = (closes.0, rest.closes); stays = rest.stays }

-- ---- drains
nothing_dropped : (most : ℕ) (held : List ℕ) → held ≡ [] → drop most held ≡ []
nothing_dropped zero [] none = refl
nothing_dropped (suc most) [] none = refl
nothing_dropped most (byte ∷ held) none = absurd (cc)

drain_goes_on : (P : Type 0) (most : ℕ) (input : Channel) (stages : List Stage) → Closes P input stages → GoesOn P input stages (drained most input stages).input (drained most input stages).stages
drain_goes_on P most input [] closes = record {
  closes = closes;
  stays = λ last. let parts = done_parts input last in done_of (after_drain most input) (nothing_dropped most input.link.held parts.0) parts.1;
}
drain_goes_on P most input (stage ∷ stages) closes =
    let rest = drain_goes_on (is_done input ≡ true) most stage.output stages closes.1 in
    record { closes = (closes.0, rest.closes); stays = rest.stays }

end_told : (most : ℕ) (input : Channel) (stages : List Stage) → (drained most input stages).reply ≡ closed → last_done input stages ≡ true
end_told most input [] is = by_test (is_done input) is
  where
    by_test : (test : Bool) → cond test closed (shown (take most input.link.held)) ≡ closed → test ≡ true
    by_test true is = refl
    by_test false is = absurd (cc)
end_told most input (stage ∷ stages) is = end_told most stage.output stages is

-- ---- feeds
nothing_left : (plan : List Plan) (left : List ℕ) (r : ℕ) → given_by plan left r ≡ given.End → (told_by plan left r).left ≡ []
nothing_left (Fail kind ∷ plan) left r e = absurd (cc)
nothing_left (Take k ∷ plan) [] r e = refl
nothing_left (Take k ∷ plan) (b ∷ left) r e = absurd (cc)
nothing_left [] [] r e = refl
nothing_left [] (b ∷ left) r e = absurd (cc)

size_open : (n most : ℕ) (channel : Channel) → size_fed most channel ≡ suc n → channel.writer_open ≡ true
size_open n most channel is = by_tests channel.reader_open channel.writer_open is
  where
    by_tests : (reader writer : Bool) → cond (reader && writer) (min most (room_of channel.link)) 0 ≡ suc n → writer ≡ true
    by_tests true true is = refl
    by_tests true false is = absurd (omega (arith, is))
    by_tests false writer is = absurd (omega (arith, is))

fed_closes : (size most : ℕ) (told : Told) (channel : Channel) (stages : List Stage) → size_fed most channel ≡ size → OnFailed (fed size (given_for size told) channel).reply ⊥ → Closes (told.left ≡ []) channel stages → GoesOn ((told_for size told).left ≡ []) channel stages (fed size (given_for size told) channel).channel stages
fed_closes zero most told channel stages is none closes = by_test (channel.reader_open && channel.writer_open)
  where
    goes_on : Fed → Type 0
    goes_on it = GoesOn (told.left ≡ []) channel stages it.channel stages

    by_test : (test : Bool) → goes_on (cond test (record { reply = counted 0; channel = channel }) (record { reply = closed; channel = channel }))
    by_test true = record { closes = closes; stays = λ last. last }
    by_test false = record { closes = closes; stays = λ last. last }
fed_closes (suc n) most told channel stages is none closes = by_given (gives told (suc n)) refl none
  where
    written : channel.writer_open ≡ true
    written = size_open n most channel is

    stays : (new : Channel) → last_done channel stages ≡ true → last_done new stages ≡ true
    stays new last = absurd (apart channel.writer_open (done_parts channel (arrives (told.left ≡ []) channel stages closes last)).1 written)

    by_given : (g : Given) → gives told (suc n) ≡ g → OnFailed (fed_by g channel).reply ⊥ → GoesOn ((told_after told (suc n)).left ≡ []) channel stages (fed_by g channel).channel stages
    by_given (given.Bytes bytes) gave none = record {
      closes = replaced (told.left ≡ []) channel (holding channel (channel.link.held ++ bytes)) stages (λ unwritten. absurd (apart channel.writer_open unwritten written)) (λ done. absurd (apart channel.writer_open (done_parts channel done).1 written)) closes;
      stays = stays (holding channel (channel.link.held ++ bytes));
    }
    by_given given.End gave none = record {
      closes = replaced (told.left ≡ []) channel (record channel { writer_open = false }) stages (λ _. nothing_left told.plan told.left (suc n) gave) (λ done. absurd (apart channel.writer_open (done_parts channel done).1 written)) closes;
      stays = stays (record channel { writer_open = false });
    }
    by_given (given.Fault kind) gave none = absurd none

-- ---- steps
stage_closes : (P : Type 0) (kind : StageKind) (bound : ℕ) (channel : Channel) (stages : List Stage) → Closes P channel stages → Closes P channel (stages ++ new_stage kind bound ∷ [])
stage_closes P kind bound channel [] closes = (closes, λ is. absurd (cc))
stage_closes P kind bound channel (stage ∷ stages) closes = (closes.0, stage_closes (is_done channel ≡ true) kind bound stage.output stages closes.1)

abbrev ClosesIn : Bool → Told → Option Channel → List Stage → Type 0
ClosesIn linked told None stages = (stages ≡ []) × (linked ≡ false)
ClosesIn linked told (Some channel) stages = Closes (told.left ≡ []) channel stages

unlinked : (linked rest : Bool) → linked ≡ false → (linked && rest) ≡ true → ⊥
unlinked true rest lacks has = absurd (cc)
unlinked false rest lacks has = absurd (cc)

abbrev LastIn : Option Channel → List Stage → Type 0
LastIn None stages = ⊥
LastIn (Some channel) stages = last_done channel stages ≡ true

record StepGoesOn (step : Line) (so_far : Declared) (input : Option Channel) (stages : List Stage) (it : Stepped) (told : Told) : Type 0 where
  closes : ClosesIn (declared_after so_far step).linked told it.pipe.input it.pipe.stages
  stays : so_far.begun ≡ true → LastIn input stages → LastIn it.pipe.input it.pipe.stages
  ends : IsEnd step it.reply → LastIn it.pipe.input it.pipe.stages

step_goes_on : (step : Line) (input : Option Channel) (stages : List Stage) (told : Told) (so_far : Declared) → may_stand so_far step ≡ true → StopsNone step → OnFailed (stepped_by step (given_for (size_on step input) told) input stages).reply ⊥ → ClosesIn so_far.linked told input stages → StepGoesOn step so_far input stages (stepped_by step (given_for (size_on step input) told) input stages) (told_for (size_on step input) told)
step_goes_on (line.Link bound) None stages told so_far stands on none closes = record { closes = rw closes.0 (λ is. absurd (cc)); stays = λ begun last. absurd last; ends = λ end. absurd end }
step_goes_on (line.Link bound) (Some channel) stages told so_far stands on none closes = record { closes = closes; stays = λ begun last. last; ends = λ end. absurd end }
step_goes_on (line.Stage kind bound) None stages told so_far stands on none closes = absurd (unlinked so_far.linked _ closes.1 stands)
step_goes_on (line.Stage kind bound) (Some channel) stages told so_far stands on none closes = record {
  closes = stage_closes (told.left ≡ []) kind bound channel stages closes;
  stays = λ begun last. absurd (apart so_far.begun (not_begun so_far.linked so_far.begun _ stands) begun);
  ends = λ end. absurd end;
}
step_goes_on (line.Feed most) None stages told so_far stands on none closes = absurd (apart so_far.linked closes.1 stands)
step_goes_on (line.Feed most) (Some channel) stages told so_far stands on none closes =
    let it = fed_closes (size_fed most channel) most told channel stages refl none closes in
    record { closes = it.closes; stays = λ begun last. it.stays last; ends = λ end. absurd end }
step_goes_on (line.Turn stage turn) None stages told so_far stands on none closes = absurd (unlinked so_far.linked _ closes.1 stands)
step_goes_on (line.Turn stage turn) (Some channel) stages told so_far stands on none closes =
    let it = turn_goes_on (told.left ≡ []) (stage - 1) turn channel stages on closes in
    record { closes = it.closes; stays = λ begun last. it.stays last; ends = λ end. absurd end }
step_goes_on (line.Drain most) None stages told so_far stands on none closes = absurd (apart so_far.linked closes.1 stands)
step_goes_on (line.Drain most) (Some channel) stages told so_far stands on none closes =
    let it = drain_goes_on (told.left ≡ []) most channel stages closes in
    record { closes = it.closes; stays = λ begun last. it.stays last; ends = λ end. it.stays (end_told most channel stages end) }

begins : (step : Line) (answer : Reply) (so_far : Declared) → IsEnd step answer → (declared_after so_far step).begun ≡ true
begins (line.Link bound) answer so_far end = absurd end
begins (line.Stage kind bound) answer so_far end = absurd end
begins (line.Feed most) answer so_far end = absurd end
begins (line.Turn stage turn) answer so_far end = absurd end
begins (line.Drain most) answer so_far end = refl

begun_still : (step : Line) (so_far : Declared) → so_far.begun ≡ true → (declared_after so_far step).begun ≡ true
begun_still (line.Link bound) so_far begun = begun
begun_still (line.Stage kind bound) so_far begun = begun
begun_still (line.Feed most) so_far begun = refl
begun_still (line.Turn stage turn) so_far begun = refl
begun_still (line.Drain most) so_far begun = refl

-- ---- a run
run_ends : (steps : List Line) (pipe : Pipe) (told : Told) (so_far : Declared) → AllStand so_far steps → StopNone steps → FaultNone (replies steps pipe told) → ClosesIn so_far.linked told pipe.input pipe.stages → HasEnded steps pipe told ⊎ ((so_far.begun ≡ true) × LastIn pipe.input pipe.stages) → (linked : Bool) × ClosesIn linked (told_end steps pipe told) (pipe_end steps pipe told).input (pipe_end steps pipe told).stages × LastIn (pipe_end steps pipe told).input (pipe_end steps pipe told).stages
run_ends [] pipe told so_far stand stop fault closes (inl ended) = absurd ended
run_ends [] pipe told so_far stand stop fault closes (inr last) = (so_far.linked, closes, last.1)
run_ends (step ∷ steps) pipe told so_far stand stop fault closes (inl (inl end)) =
    let one = step_goes_on step pipe.input pipe.stages told so_far stand.0 stop.0 fault.0 closes in
    run_ends steps (stepped_with step pipe told).pipe (step_told step pipe told) (declared_after so_far step) stand.1 stop.1 fault.1 one.closes (inr (begins step (stepped_with step pipe told).reply so_far end, one.ends end))
run_ends (step ∷ steps) pipe told so_far stand stop fault closes (inl (inr ended)) =
    let one = step_goes_on step pipe.input pipe.stages told so_far stand.0 stop.0 fault.0 closes in
    run_ends steps (stepped_with step pipe told).pipe (step_told step pipe told) (declared_after so_far step) stand.1 stop.1 fault.1 one.closes (inl ended)
run_ends (step ∷ steps) pipe told so_far stand stop fault closes (inr last) =
    let one = step_goes_on step pipe.input pipe.stages told so_far stand.0 stop.0 fault.0 closes in
    run_ends steps (stepped_with step pipe told).pipe (step_told step pipe told) (declared_after so_far step) stand.1 stop.1 fault.1 one.closes (inr (begun_still step so_far last.0, one.stays last.0 last.1))

all_came : (linked : Bool) (input : Option Channel) (stages : List Stage) (put out left : List ℕ) (told : Told) → ClosesIn linked told input stages → LastIn input stages → CarriesIn put input stages out → left ≡ put ++ told.left → out ≡ made_by_all stages left
all_came linked None stages put out left told closes last carries left_is = absurd last
all_came linked (Some channel) stages put out left told closes last carries left_is =
    let none = top channel stages closes (done_parts channel (arrives (told.left ≡ []) channel stages closes last)).1 in
    let all : put ≡ left = sym (left_is ∙ ap (λ rest. put ++ rest) none ∙ append-nil put) in
    all_made (told.left ≡ []) put channel stages out closes last carries ∙ ap (made_by_all stages) all

pub valid_runs_complete : ValidRunsComplete
valid_runs_complete steps input stand stop fault ended =
    let end = run_ends steps new_pipe input nothing_declared stand stop fault (refl, refl) (inl ended) in
    let conserves = run_conserves steps input stand in
    all_came end.0 (pipe_end steps new_pipe input).input (pipe_end steps new_pipe input).stages conserves.put (flat_map bytes_shown (replies steps new_pipe input)) input.left (told_end steps new_pipe input) end.1 end.2 conserves.carried conserves.given
