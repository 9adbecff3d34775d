-- A run so far: what its first steps told and left.
use Rattle.std.specs.Prelude.{take, zero, suc, Result, Ok, Err, OnOk}
use Rattle.std.proofs.lemmas.List.{take_all}
use Rattle.std.proofs.Common.{refl, ◌≡◌, ℕ, ◌+◌, ◌<◌, ◌≤◌, List, [], ◌∷◌, ◌++◌, length, get_or, drop, Option, Some, None, ap, add-one, arith, ◌∙◌, sym, subst, append-nil, append_assoc}
use Rattle.std.proofs.Math.Seq.{drop-cons}
use Rattle.std.proofs.lemmas.Grind.{common_steps}
use Rattle.wasi_base.specs.Source.{Told, Given, Gives}
use Rattle.wasi_reply.specs.declared.reply.Reply.{Reply}
use Rattle.wasi_reply.specs.Reply.{text_of_all, reply_line}
use Rattle.wasi_pipeline.specs.Bounds.{HaveBounds}
use Rattle.wasi_pipeline.specs.Feeding.{fed, size_fed}
use Rattle.wasi_pipeline.specs.Steps.{HasBound, IsStep, Pipe, Stepped, new_pipe, of_fed, size_on, size_read, stepped, stepped_by}
use Rattle.wasi_base.specs.Sink.{with_more}
use Rattle.wasi_commands.specs.laws.Ended.{after_first, within_next, short_of_next, with_more-nothing, with_more-more}
use Rattle.wasi_pipeline.specs.Run.{CutShort, EndEarly, given_for, pipe_end, replies, step_told, stepped_with, told_end, told_for, transcript, told_after_run}
use Rattle.wasi_pipeline.specs.declared.stage.Channel.{Channel}
use Rattle.wasi_pipeline.specs.declared.stage.Stage.{Stage}
use Rattle.wasi_pipeline.specs.declared.line.Line.{Line}
use Rattle.wasi_pipeline.specs.declared.line.Line.TheVariants as line

-- over a source that tells, a step is a function of what it tells
pub record IsToldStep (u : Told) (after : Option Told) (old new : Pipe) (step : Line) (answer : Reply) : Type 0 where
  pub reply_is : answer ≡ (stepped_with step old u).reply
  pub pipe_is : new ≡ (stepped_with step old u).pipe
  pub told_is : after ≡ Some (step_told step old u)

-- a step that reads nothing is the same whatever a read gives
unread_by : (step : Line) (g h : Given) (input : Option Channel) (stages : List Stage) → size_on step input ≡ 0 → stepped_by step g input stages ≡ stepped_by step h input stages
unread_by (line.Link bound) g h None stages none = refl
unread_by (line.Link bound) g h (Some channel) stages none = refl
unread_by (line.Stage kind bound) g h None stages none = refl
unread_by (line.Stage kind bound) g h (Some channel) stages none = refl
unread_by (line.Feed most) g h None stages none = refl
unread_by (line.Feed most) g h (Some channel) stages none = same (size_fed most channel) none
  where
    same : (size : ℕ) → size ≡ 0 → of_fed (fed size g channel) stages ≡ of_fed (fed size h channel) stages
    same zero none = refl
    same (suc n) none = absurd (omega (arith, none))
unread_by (line.Turn stage turn) g h None stages none = refl
unread_by (line.Turn stage turn) g h (Some channel) stages none = refl
unread_by (line.Drain most) g h None stages none = refl
unread_by (line.Drain most) g h (Some channel) stages none = refl

-- what a read of a size gave, by what is told
abbrev Read : (size : ℕ) → Told → Option Told → Given → (Given → Stepped) → Type 0
Read size u after g result = (result g ≡ result (given_for size u)) × (after ≡ Some (told_for size u))

read_of : (size : ℕ) (before after : Option Told) (g : Given) (u : Told) (result : Given → Stepped) → ((h : Given) → size ≡ 0 → result g ≡ result h) → (0 < size → Gives before size g after) → (size ≡ 0 → after ≡ before) → before ≡ Some u → Read size u after g result
read_of zero before after g u result same read unread e = (same (given_for 0 u) refl, unread refl ∙ e)
read_of (suc n) before after g u result same read unread e = let gave = (read (omega arith)).told u e in (ap result gave.0, gave.1)

pub told_step : (before after : Option Told) (old new : Pipe) (step : Line) (answer : Reply) (u : Told) → IsStep before after old new step answer → before ≡ Some u → IsToldStep u after old new step answer
told_step before after old new step answer u is e =
    let read = read_of (size_read step old) before after is.given u (λ g. stepped step g old) (λ h none. unread_by step is.given h old.input old.stages none) is.read is.unread e in
    let same = is.is ∙ read.0 in
    record {
      reply_is = ap (λ (it : Stepped). it.reply) same;
      pipe_is = ap (λ (it : Stepped). it.pipe) same;
      told_is = read.1;
    }

abbrev Follows : List Line → List Line → Line → Pipe → Told → Type 0
Follows more before step pipe told = (told_end more pipe told ≡ step_told step (pipe_end before pipe told) (told_end before pipe told)) × (pipe_end more pipe told ≡ (stepped_with step (pipe_end before pipe told) (told_end before pipe told)).pipe)

one_follows : (steps : List Line) (i : ℕ) (step : Line) (pipe : Pipe) (told : Told) → i < length steps → get_or steps i step ≡ step → Follows (take (suc i) steps) (take i steps) step pipe told
one_follows [] i step pipe told lt at = absurd (omega (arith, lt))
one_follows (first ∷ steps) zero step pipe told lt at = rw (sym at) (refl, refl)
one_follows (first ∷ steps) (suc i) step pipe told lt at = one_follows steps i step (stepped_with first pipe told).pipe (step_told first pipe told) (omega (arith, lt)) at

-- what is told now, and the pipeline, after these steps
pub record After (now : Option Told) (pipe : Pipe) (steps : List Line) (start : Pipe) (told : Told) : Type 0 where
  pub now_is : now ≡ Some (told_end steps start told)
  pub pipe_is : pipe ≡ pipe_end steps start told

pub one_after : (before after : Option Told) (old new : Pipe) (steps : List Line) (i : ℕ) (step : Line) (answer : Reply) (start : Pipe) (told : Told) → i < length steps → get_or steps i step ≡ step → After before old (take i steps) start told → IsStep before after old new step answer → After after new (take (i + 1) steps) start told
one_after before after old new steps i step answer start told lt at so_far is =
    let now = told_end (take i steps) start told in
    let made = told_step before after old new step answer now is so_far.now_is in
    let follows : Follows (take (i + 1) steps) (take i steps) step start told = subst (λ n. Follows (take n steps) (take i steps) step start told) (let e : suc i ≡ i + 1 = omega arith in e) (one_follows steps i step start told lt at) in
    record {
      now_is = made.told_is ∙ ap Some (ap (λ pipe. step_told step pipe now) so_far.pipe_is ∙ sym follows.0);
      pipe_is = made.pipe_is ∙ (ap (λ pipe. (stepped_with step pipe now).pipe) so_far.pipe_is ∙ sym follows.1);
    }

-- .. and the text of their replies
text_follows : (steps : List Line) (i : ℕ) (step : Line) (pipe : Pipe) (told : Told) → i < length steps → get_or steps i step ≡ step → text_of_all (replies (take (suc i) steps) pipe told) ≡ text_of_all (replies (take i steps) pipe told) ++ reply_line (stepped_with step (pipe_end (take i steps) pipe told) (told_end (take i steps) pipe told)).reply
text_follows [] i step pipe told lt at = absurd (omega (arith, lt))
text_follows (first ∷ steps) zero step pipe told lt at = rw (sym at) (append-nil (reply_line (stepped_with first pipe told).reply))
text_follows (first ∷ steps) (suc i) step pipe told lt at =
    let line = reply_line (stepped_with first pipe told).reply in
    let next = (stepped_with first pipe told).pipe in
    let left = step_told first pipe told in
    ap (λ text. line ++ text) (text_follows steps i step next left (omega (arith, lt)) at) ∙ sym (append_assoc line (text_of_all (replies (take i steps) next left)) (reply_line (stepped_with step (pipe_end (take i steps) next left) (told_end (take i steps) next left)).reply))

pub line_after : (before after : Option Told) (old new : Pipe) (steps : List Line) (i : ℕ) (step : Line) (answer : Reply) (told : Told) → i < length steps → get_or steps i step ≡ step → After before old (take i steps) new_pipe told → IsStep before after old new step answer → transcript (take (i + 1) steps) told ≡ transcript (take i steps) told ++ reply_line answer
line_after before after old new steps i step answer told lt at so_far is =
    let now = told_end (take i steps) new_pipe told in
    let made = told_step before after old new step answer now is so_far.now_is in
    let same : answer ≡ (stepped_with step (pipe_end (take i steps) new_pipe told) now).reply = made.reply_is ∙ ap (λ pipe. (stepped_with step pipe now).reply) so_far.pipe_is in
    rw (same) (subst (λ n. transcript (take n steps) told ≡ transcript (take i steps) told ++ reply_line (stepped_with step (pipe_end (take i steps) new_pipe told) now).reply) (let e : suc i ≡ i + 1 = omega arith in e) (text_follows steps i step new_pipe told lt at))

-- a step found no memory, and did nothing
pub stopped_before : (now : Option Told) (pipe : Pipe) (steps : List Line) (i : ℕ) (told : Told) (at_first taken : Option (List ℕ)) → i < length steps → After now pipe (take i steps) new_pipe told → taken ≡ with_more at_first (transcript (take i steps) told) → EndEarly steps told at_first taken now
stopped_before now pipe steps i told at_first taken lt so_far took = after_first steps (λ first. transcript first told) [] (λ first. told_after_run first told) at_first taken now i (omega (arith, lt)) so_far.now_is took

-- .. or was, and has no reply
pub stopped_after : (before now : Option Told) (old new : Pipe) (steps : List Line) (i : ℕ) (step : Line) (answer : Reply) (told : Told) (at_first taken : Option (List ℕ)) → i < length steps → get_or steps i step ≡ step → After before old (take i steps) new_pipe told → IsStep before now old new step answer → taken ≡ with_more at_first (transcript (take i steps) told) → EndEarly steps told at_first taken now
stopped_after before now old new steps i step answer told at_first taken lt at so_far is took =
    let one = one_after before now old new steps i step answer new_pipe told lt at so_far is in
    within_next steps (λ first. transcript first told) [] (λ first. told_after_run first told) at_first taken now i 0 (reply_line answer) lt (line_after before now old new steps i step answer told lt at so_far is) one.now_is (took ∙ with_more-nothing (with_more at_first (transcript (take i steps) told)))

-- of a step's reply a part was written
pub cut_at : (told_before told_now : Option Told) (old new : Pipe) (steps : List Line) (i n : ℕ) (step : Line) (answer : Reply) (text : List ℕ) (told : Told) (at_first before taken : Option (List ℕ)) → i < length steps → get_or steps i step ≡ step → After told_before old (take i steps) new_pipe told → IsStep told_before told_now old new step answer → before ≡ with_more at_first (transcript (take i steps) told) → text ≡ reply_line answer → n < length text → taken ≡ with_more before (take n text) → CutShort steps told at_first taken told_now
cut_at told_before told_now old new steps i n step answer text told at_first before taken lt at so_far is took text_is short more =
    let one = one_after told_before told_now old new steps i step answer new_pipe told lt at so_far is in
    short_of_next steps (λ first. transcript first told) [] (λ first. told_after_run first told) at_first taken told_now i n (reply_line answer) (subst (λ text. n < length text) text_is short) lt (line_after told_before told_now old new steps i step answer told lt at so_far is) one.now_is (more ∙ (λ i. with_more (took i) (take n (text_is i))))

-- .. or all of it
pub written_at : (told_before told_now : Option Told) (old new : Pipe) (steps : List Line) (i : ℕ) (step : Line) (answer : Reply) (text : List ℕ) (told : Told) (at_first before taken : Option (List ℕ)) → i < length steps → get_or steps i step ≡ step → After told_before old (take i steps) new_pipe told → IsStep told_before told_now old new step answer → before ≡ with_more at_first (transcript (take i steps) told) → text ≡ reply_line answer → taken ≡ with_more before text → taken ≡ with_more at_first (transcript (take (i + 1) steps) told)
written_at told_before told_now old new steps i step answer text told at_first before taken lt at so_far is took text_is more =
    more ∙ (λ i. with_more (took i) (text_is i)) ∙ with_more-more at_first (transcript (take i steps) told) (reply_line answer) ∙ ap (with_more at_first) (sym (line_after told_before told_now old new steps i step answer told lt at so_far is))

-- all steps were done
abbrev pub IsEnd : Option Told → Option (List ℕ) → Option (List ℕ) → List Line → Told → Type 0
IsEnd now at_first taken steps told = (taken ≡ with_more at_first (transcript steps told)) × (now ≡ Some (told_after_run steps told))

pub at_end : (now : Option Told) (pipe : Pipe) (steps : List Line) (i : ℕ) (told : Told) (at_first taken : Option (List ℕ)) → length steps ≤ i → After now pipe (take i steps) new_pipe told → taken ≡ with_more at_first (transcript (take i steps) told) → IsEnd now at_first taken steps told
at_end now pipe steps i told at_first taken past so_far took = subst (λ first. IsEnd now at_first taken first told) (take_all i steps past) (took, so_far.now_is)

pub on_done : {A E : Type 0} (result : Result A E) (P Q : Type 0) → (P → Q) → OnOk result P → OnOk result Q
on_done (Ok done) P Q then is = then is
on_done (Err error) P Q then is = tt

-- the bound of a step among others
pub bound_at : (steps : List Line) (i : ℕ) (step : Line) → i < length steps → get_or steps i step ≡ step → HaveBounds steps → HasBound step
bound_at [] i step lt at bounds = absurd (omega (arith, lt))
bound_at (first ∷ steps) zero step lt at bounds = subst HasBound at bounds.0
bound_at (first ∷ steps) (suc i) step lt at bounds = bound_at steps i step (omega (arith, lt)) at bounds.1

-- within the list its elements count alone
pub at_place : (steps : List Line) (i : ℕ) (a b : Line) → i < length steps → get_or steps i a ≡ get_or steps i b
at_place [] i a b lt = absurd (omega (arith, lt))
at_place (first ∷ steps) zero a b lt = refl
at_place (first ∷ steps) (suc i) a b lt = at_place steps i a b (omega (arith, lt))
