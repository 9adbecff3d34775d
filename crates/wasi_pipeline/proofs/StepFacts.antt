-- A step of a valid script keeps what the pipeline carries.
use Rattle.std.proofs.Common.{◌≡◌, ℕ, zero, suc, ◌+◌, ◌-◌, ◌≤◌, ◌++◌, min, max, Bool, true, false, not, cond, List, [], ◌∷◌, length, take, Option, Some, None, refl, ap, arith, ◌∙◌, sym, subst, append_assoc, append-nil, length-take, take-append-drop}
use Rattle.std.specs.Prelude.{◌&&◌}
use Rattle.std.specs.List.{flat_map}
use Rattle.hex.specs.Hex.{encode_with}
use Rattle.wasi_base.specs.declared.source.Plan.{Plan}
use Rattle.wasi_base.specs.declared.source.Plan.TheVariants.{Take, Fail}
use Rattle.wasi_base.specs.Source.{Told, Given, given_by, told_by, gives, told_after, bytes_given}
use Rattle.wasi_base.specs.Source as given
use Rattle.wasi_base.specs.laws.Reads.{given_left}
use Rattle.wasi_pipeline.specs.Chain.{Turned, after_moving, closed, counted, done, is_done, new_channel, room_of, turned, turned_at, with_output}
use Rattle.wasi_reply.specs.declared.reply.Reply.TheVariants as reply
use Rattle.wasi_pipeline.specs.Conservation.{Conserves, Carries, CarriesIn, ValidRunsConserve, bytes_shown}
use Rattle.wasi_pipeline.specs.Feeding.{Fed, fed, fed_by, size_fed, unfed}
use Rattle.wasi_pipeline.specs.Grammar.{AllStand, declared_after, may_stand, nothing_declared}
use Rattle.wasi_pipeline.specs.Kinds.{made, moving}
use Rattle.wasi_pipeline.specs.Run.{given_for, pipe_end, replies, step_told, stepped_with, told_end, told_for}
use Rattle.wasi_pipeline.specs.Steps.{Pipe, new_pipe, new_stage, size_on, stepped_by}
use Rattle.wasi_pipeline.specs.declared.kind.StageKind.{StageKind}
use Rattle.wasi_pipeline.specs.declared.kind.StageKind.TheVariants.{Copy, Upper, Hex, Squeeze}
use Rattle.wasi_pipeline.specs.declared.stage.Channel.{Channel}
use Rattle.wasi_pipeline.specs.declared.stage.Stage.{Stage}
use Rattle.wasi_pipeline.specs.declared.stage.Turn.{Turn}
use Rattle.wasi_pipeline.specs.declared.stage.Turn.TheVariants.{Pump, Stop}
use Rattle.wasi_pipeline.specs.declared.line.Line.{Line}
use Rattle.wasi_pipeline.specs.declared.line.Line.TheVariants as line
use Rattle.wasi_pipeline.specs.declared.declarations.Declared.{Declared}
use Rattle.wasi_pipeline.proofs.CarryFacts.{drain_kept, ends_apart, put_more, turn_at_kept}

-- ---- reads
given_short : (plan : List Plan) (left : List ℕ) (r : ℕ) → length (bytes_given (given_by plan left r)) ≤ r
given_short (Fail kind ∷ plan) left r = omega arith
given_short (Take k ∷ plan) [] r = omega arith
given_short (Take k ∷ plan) (b ∷ left) r = omega (arith, length-take (min r (max k 1)) (b ∷ left))
given_short [] [] r = omega arith
given_short [] (b ∷ left) r = omega (arith, length-take r (b ∷ left))

-- what a step that reads so many bytes was given is what went out of the input
left_for : (size : ℕ) (told : Told) → told.left ≡ bytes_given (given_for size told) ++ (told_for size told).left
left_for zero told = refl
left_for (suc n) told = given_left told.plan told.left (suc n)

-- ---- a pipeline with what its links carry
pub record Keeps (put : List ℕ) (pipe : Pipe) (out : List ℕ) (so_far : Declared) : Type 0 where
  pub carries : CarriesIn put pipe.input pipe.stages out
  -- nothing moves before the stages are declared
  pub still : so_far.begun ≡ false → (put ≡ []) × (out ≡ [])

none_more : (put : List ℕ) (pipe : Pipe) (out : List ℕ) (so_far : Declared) → Keeps put pipe out so_far → Keeps (put ++ []) pipe (out ++ []) so_far
none_more put pipe out so_far keeps = rw (append-nil put, append-nil out) keeps

-- ---- a new stage, while nothing was put
nothing_left : (taken held : List ℕ) → [] ≡ taken ++ held → taken ≡ []
nothing_left [] held is = refl
nothing_left (byte ∷ taken) held is = absurd (cc)

made_nothing : (kind : StageKind) → made kind [] ≡ []
unfolding encode_with
made_nothing Copy = refl
made_nothing Upper = refl
made_nothing Hex = refl
made_nothing Squeeze = refl

stage_added : (kind : StageKind) (bound : ℕ) (channel : Channel) (stages : List Stage) → Carries [] channel stages [] → Carries [] channel (stages ++ new_stage kind bound ∷ []) []
stage_added kind bound channel [] carries = ([], carries, refl, subst (λ put. Carries put (new_channel bound) [] []) (sym (made_nothing kind)) (record { whole = refl; within = omega arith }))
stage_added kind bound channel (stage ∷ stages) carries =
    let none = nothing_left carries.0 channel.link.held carries.1.whole in
    let rest : Carries [] stage.output stages [] = subst (λ put. Carries put stage.output stages []) (ap (made stage.kind) none ∙ made_nothing stage.kind) carries.3 in
    (carries.0, carries.1, carries.2, subst (λ put. Carries put stage.output (stages ++ new_stage kind bound ∷ []) []) (sym (ap (made stage.kind) none ∙ made_nothing stage.kind)) (stage_added kind bound stage.output stages rest))

-- ---- what a turn replies shows no bytes
turn_shows : (turn : Turn) (input : Channel) (stage : Stage) → bytes_shown (turned turn input stage).reply ≡ []
turn_shows (Pump most) input stage = when_stopped stage.stopped
  where
    shows : Turned → Type 0
    shows it = bytes_shown it.reply ≡ []

    moved : Turned
    moved = after_moving input stage (moving stage.kind stage.last most (room_of stage.output.link) input.link.held)

    ended : Turned
    ended = record { reply = closed; input = input; stage = with_output stage (record stage.output { writer_open = false }) }

    when_done : (test : Bool) → shows (cond test ended moved)
    when_done true = refl
    when_done false = refl

    when_closed : (test : Bool) → shows (cond test (record { reply = closed; input = input; stage = stage }) (cond (is_done input) ended moved))
    when_closed true = refl
    when_closed false = when_done (is_done input)

    when_stopped : (test : Bool) → shows (cond test (record { reply = reply.Ended; input = input; stage = stage }) (cond (not stage.output.reader_open) (record { reply = closed; input = input; stage = stage }) (cond (is_done input) ended moved)))
    when_stopped true = refl
    when_stopped false = when_closed (not stage.output.reader_open)
turn_shows Stop input stage = when_stopped stage.stopped
  where
    shows : Turned → Type 0
    shows it = bytes_shown it.reply ≡ []

    when_stopped : (test : Bool) → shows (cond test (record { reply = reply.Ended; input = input; stage = stage }) (record { reply = done; input = record input { reader_open = false }; stage = record stage { stopped = true; output = record stage.output { writer_open = false } } }))
    when_stopped true = refl
    when_stopped false = refl

turn_at_shows : (at : ℕ) (turn : Turn) (input : Channel) (stages : List Stage) → bytes_shown (turned_at at turn input stages).reply ≡ []
turn_at_shows at turn input [] = refl
turn_at_shows zero turn input (stage ∷ stages) = turn_shows turn input stage
turn_at_shows (suc at) turn input (stage ∷ stages) = turn_at_shows at turn stage.output stages

-- ---- a feed
size_within : (most : ℕ) (channel : Channel) → size_fed most channel ≤ room_of channel.link
size_within most channel = by_test (channel.reader_open && channel.writer_open)
  where
    by_test : (test : Bool) → cond test (min most (room_of channel.link)) 0 ≤ room_of channel.link
    by_test true = omega arith
    by_test false = omega arith

unfed_kept : (put : List ℕ) (channel : Channel) (stages : List Stage) (out : List ℕ) → Carries put channel stages out → Carries (put ++ []) (unfed channel).channel stages (out ++ bytes_shown (unfed channel).reply)
unfed_kept put channel stages out carries = by_test (channel.reader_open && channel.writer_open)
  where
    same : Carries (put ++ []) channel stages (out ++ [])
    same = rw (append-nil put, append-nil out) carries

    kept : Fed → Type 0
    kept it = Carries (put ++ []) it.channel stages (out ++ bytes_shown it.reply)

    by_test : (test : Bool) → kept (cond test (record { reply = counted 0; channel = channel }) (record { reply = closed; channel = channel }))
    by_test true = same
    by_test false = same

given_kept : (g : Given) (put : List ℕ) (channel : Channel) (stages : List Stage) (out : List ℕ) → length (bytes_given g) ≤ room_of channel.link → Carries put channel stages out → Carries (put ++ bytes_given g) (fed_by g channel).channel stages (out ++ bytes_shown (fed_by g channel).reply)
given_kept (given.Bytes bytes) put channel stages out fits carries = rw (append-nil out) (put_more put bytes channel stages out fits carries)
given_kept given.End put channel stages out fits carries = rw (append-nil put, append-nil out) (ends_apart put channel (record channel { writer_open = false }) stages out refl carries)
given_kept (given.Fault kind) put channel stages out fits carries = rw (append-nil put, append-nil out) (ends_apart put channel (record channel { writer_open = false }) stages out refl carries)

fed_kept : (size : ℕ) (told : Told) (put : List ℕ) (channel : Channel) (stages : List Stage) (out : List ℕ) → size ≤ room_of channel.link → Carries put channel stages out → Carries (put ++ bytes_given (given_for size told)) (fed size (given_for size told) channel).channel stages (out ++ bytes_shown (fed size (given_for size told) channel).reply)
fed_kept zero told put channel stages out within carries = unfed_kept put channel stages out carries
fed_kept (suc n) told put channel stages out within carries =
    given_kept (gives told (suc n)) put channel stages out (let short = given_short told.plan told.left (suc n) in omega (arith, short, within)) carries

-- ---- a step
pub not_begun : (linked begun room : Bool) → (linked && (not begun && room)) ≡ true → begun ≡ false
not_begun true false room is = refl
not_begun true true room is = absurd (cc)
not_begun false begun room is = absurd (cc)

abbrev KeptStep : Line → Option Channel → List Stage → Told → List ℕ → List ℕ → Declared → Type 0
KeptStep step input stages told put out so_far = Keeps (put ++ bytes_given (given_for (size_on step input) told)) (stepped_by step (given_for (size_on step input) told) input stages).pipe (out ++ bytes_shown (stepped_by step (given_for (size_on step input) told) input stages).reply) (declared_after so_far step)

kept_step : (step : Line) (input : Option Channel) (stages : List Stage) (told : Told) (put out : List ℕ) (so_far : Declared) → may_stand so_far step ≡ true → Keeps put (record { input = input; stages = stages }) out so_far → KeptStep step input stages told put out so_far
kept_step (line.Link bound) None stages told put out so_far stands keeps =
    none_more put (record { input = Some (new_channel bound); stages = stages }) out (record so_far { linked = true }) (record {
      carries = rw (keeps.carries.0, keeps.carries.1, keeps.carries.2) (record { whole = refl; within = omega arith });
      still = keeps.still;
    })
kept_step (line.Link bound) (Some channel) stages told put out so_far stands keeps =
    none_more put (record { input = Some channel; stages = stages }) out (record so_far { linked = true }) (record { carries = keeps.carries; still = keeps.still })
kept_step (line.Stage kind bound) None stages told put out so_far stands keeps =
    none_more put (record { input = None; stages = stages }) out (record so_far { stages = so_far.stages + 1 }) (record { carries = keeps.carries; still = keeps.still })
kept_step (line.Stage kind bound) (Some channel) stages told put out so_far stands keeps =
    let still = keeps.still (not_begun so_far.linked so_far.begun _ stands) in
    none_more put (record { input = Some channel; stages = stages ++ new_stage kind bound ∷ [] }) out (record so_far { stages = so_far.stages + 1 }) (record {
      carries = rw (still.0, still.1) (stage_added kind bound channel stages (rw (still.0, still.1) at keeps.carries));
      still = keeps.still;
    })
kept_step (line.Feed most) None stages told put out so_far stands keeps =
    none_more put (record { input = None; stages = stages }) out (record so_far { begun = true }) (record { carries = keeps.carries; still = λ is. absurd (cc) })
kept_step (line.Feed most) (Some channel) stages told put out so_far stands keeps = record {
  carries = fed_kept (size_fed most channel) told put channel stages out (size_within most channel) keeps.carries;
  still = λ is. absurd (cc);
}
kept_step (line.Turn stage turn) None stages told put out so_far stands keeps =
    none_more put (record { input = None; stages = stages }) out (record so_far { begun = true }) (record { carries = keeps.carries; still = λ is. absurd (cc) })
kept_step (line.Turn stage turn) (Some channel) stages told put out so_far stands keeps = record {
  carries = rw (append-nil put, turn_at_shows (stage - 1) turn channel stages, append-nil out) (turn_at_kept (stage - 1) turn put channel stages out keeps.carries);
  still = λ is. absurd (cc);
}
kept_step (line.Drain most) None stages told put out so_far stands keeps =
    none_more put (record { input = None; stages = stages }) out (record so_far { begun = true }) (record { carries = keeps.carries; still = λ is. absurd (cc) })
kept_step (line.Drain most) (Some channel) stages told put out so_far stands keeps = record {
  carries = rw (append-nil put) (drain_kept most put channel stages out keeps.carries);
  still = λ is. absurd (cc);
}

-- ---- a run
record Ends (put out : List ℕ) (steps : List Line) (pipe : Pipe) (told : Told) : Type 0 where
  more : List ℕ
  left : told.left ≡ more ++ (told_end steps pipe told).left
  carries : CarriesIn (put ++ more) (pipe_end steps pipe told).input (pipe_end steps pipe told).stages (out ++ flat_map bytes_shown (replies steps pipe told))

kept_run : (steps : List Line) (pipe : Pipe) (told : Told) (put out : List ℕ) (so_far : Declared) → AllStand so_far steps → Keeps put pipe out so_far → Ends put out steps pipe told
kept_run [] pipe told put out so_far stand keeps = record { more = []; left = refl; carries = rw (append-nil put, append-nil out) keeps.carries }
kept_run (step ∷ steps) pipe told put out so_far stand keeps =
    let g = given_for (size_on step pipe.input) told in
    let it = stepped_with step pipe told in
    let next = step_told step pipe told in
    let rest = kept_run steps it.pipe next (put ++ bytes_given g) (out ++ bytes_shown it.reply) (declared_after so_far step) stand.1 (kept_step step pipe.input pipe.stages told put out so_far stand.0 keeps) in
    record {
      more = bytes_given g ++ rest.more;
      left = left_for (size_on step pipe.input) told ∙ ap (λ left. bytes_given g ++ left) rest.left ∙ sym (append_assoc (bytes_given g) rest.more (told_end steps it.pipe next).left);
      carries = rw (sym (append_assoc put (bytes_given g) rest.more), sym (append_assoc out (bytes_shown it.reply) (flat_map bytes_shown (replies steps it.pipe next)))) rest.carries;
    }

first_stand : (count : ℕ) (steps : List Line) (so_far : Declared) → AllStand so_far steps → AllStand so_far (take count steps)
first_stand zero steps so_far stand = tt
first_stand (suc count) [] so_far stand = tt
first_stand (suc count) (step ∷ steps) so_far stand = (stand.0, first_stand count steps (declared_after so_far step) stand.1)

pub run_conserves : (steps : List Line) (input : Told) → AllStand nothing_declared steps → Conserves steps input
run_conserves steps input stand =
    let end = kept_run steps new_pipe input [] [] nothing_declared stand (record { carries = (refl, refl, refl); still = λ _. (refl, refl) }) in
    record { put = end.more; given = end.left; carried = end.carries }

pub valid_runs_conserve : ValidRunsConserve
valid_runs_conserve steps input stand count = run_conserves (take count steps) input (first_stand count steps nothing_declared stand)
