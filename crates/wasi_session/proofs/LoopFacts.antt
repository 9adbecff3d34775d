-- A run so far: what its first steps told and left.
use Rattle.std.specs.Prelude.{take, zero, suc, Result, Ok, Err, OnOk}
use Rattle.std.proofs.lemmas.List.{take_all}
use Rattle.std.proofs.Common.{refl, min, inl, inr, ◌≡◌, ℕ, ◌+◌, ◌<◌, ◌≤◌, List, [], ◌∷◌, ◌++◌, length, get_or, drop, Option, Some, ap, arith, ◌∙◌, sym, subst, append-nil, append_assoc}
use Rattle.std.proofs.lemmas.Grind.{common_steps}
use Rattle.wasi_base.specs.Source.{Told}
use Rattle.wasi_script.specs.declared.lines.Line.{Line}
use Rattle.wasi_reply.specs.declared.reply.Reply.{Reply}
use Rattle.wasi_reply.specs.Reply.{text_of_all, reply_line}
use Rattle.wasi_stdin.specs.Shared.{given_now}
use Rattle.wasi_session.specs.Sitting.{Stopped}
use Rattle.wasi_session.specs.Reading.{EndEarly, CutShort, replies_to, closing_lines}
use Rattle.wasi_host.specs.Host.{Host, new_host, reply_to, IsStep, step_reply, step_host, step_told, replies, host_end, told_end}
use Rattle.wasi_reply.specs.Outputs.{output_lines}
use Rattle.wasi_host.specs.Transcript.{outputs_of, transcript, told_after_run}
use Rattle.wasi_host.specs.laws.Steps.{told_step}
use Rattle.wasi_base.specs.Sink.{with_more}
use Rattle.wasi_commands.specs.laws.Ended.{after_first, within_next, short_of_next, within_closing, short_of_closing, with_more-nothing, with_more-more}

abbrev Follows : List Line → List Line → Line → Host → Told → Type 0
Follows more before step host told = (told_end more host told ≡ step_told step (host_end before host told) (told_end before host told)) × (host_end more host told ≡ step_host step (host_end before host told) (told_end before host told))

one_follows : (steps : List Line) (i : ℕ) (step : Line) (host : Host) (told : Told) → i < length steps → get_or steps i step ≡ step → Follows (take (suc i) steps) (take i steps) step host told
one_follows [] i step host told lt at = absurd (omega (arith, lt))
one_follows (first ∷ steps) zero step host told lt at = rw (sym at) (refl, refl)
one_follows (first ∷ steps) (suc i) step host told lt at = one_follows steps i step (step_host first host told) (step_told first host told) (omega (arith, lt)) at

-- what is told now, and the host, after these steps
pub record After (now : Option Told) (host : Host) (steps : List Line) (start : Host) (told : Told) : Type 0 where
  pub now_is : now ≡ Some (told_end steps start told)
  pub host_is : host ≡ host_end steps start told

pub one_after : (before after : Option Told) (old new : Host) (steps : List Line) (i : ℕ) (step : Line) (answer : Reply) (start : Host) (told : Told) → i < length steps → get_or steps i step ≡ step → After before old (take i steps) start told → IsStep before after old new step answer → After after new (take (i + 1) steps) start told
one_after before after old new steps i step answer start told lt at so_far is =
    let now = told_end (take i steps) start told in
    let made = told_step before after old new step answer now is so_far.now_is in
    let follows : Follows (take (i + 1) steps) (take i steps) step start told = subst (λ n. Follows (take n steps) (take i steps) step start told) (let e : suc i ≡ i + 1 = omega arith in e) (one_follows steps i step start told lt at) in
    record {
      now_is = made.told_is ∙ ap Some (ap (λ host. step_told step host now) so_far.host_is ∙ sym follows.0);
      host_is = made.host_is ∙ (ap (λ host. step_host step host now) so_far.host_is ∙ sym follows.1);
    }

-- .. and the text of their replies
text_follows : (steps : List Line) (i : ℕ) (step : Line) (host : Host) (told : Told) → i < length steps → get_or steps i step ≡ step → text_of_all (replies (take (suc i) steps) host told) ≡ text_of_all (replies (take i steps) host told) ++ reply_line (step_reply step (host_end (take i steps) host told) (told_end (take i steps) host told))
text_follows [] i step host told lt at = absurd (omega (arith, lt))
text_follows (first ∷ steps) zero step host told lt at = rw (sym at) (append-nil (reply_line (step_reply first host told)))
text_follows (first ∷ steps) (suc i) step host told lt at =
    let line = reply_line (step_reply first host told) in
    let next = step_host first host told in
    let left = step_told first host told in
    ap (λ text. line ++ text) (text_follows steps i step next left (omega (arith, lt)) at) ∙ sym (append_assoc line (text_of_all (replies (take i steps) next left)) (reply_line (step_reply step (host_end (take i steps) next left) (told_end (take i steps) next left))))

pub line_after : (before after : Option Told) (old new : Host) (steps : List Line) (i : ℕ) (step : Line) (answer : Reply) (told : Told) → i < length steps → get_or steps i step ≡ step → After before old (take i steps) new_host told → IsStep before after old new step answer → replies_to told (take (i + 1) steps) ≡ replies_to told (take i steps) ++ reply_line answer
line_after before after old new steps i step answer told lt at so_far is =
    let now = told_end (take i steps) new_host told in
    let made = told_step before after old new step answer now is so_far.now_is in
    let same : answer ≡ step_reply step (host_end (take i steps) new_host told) now = made.reply_is ∙ ap (λ host. step_reply step host now) so_far.host_is in
    rw (same) (subst (λ n. replies_to told (take n steps) ≡ replies_to told (take i steps) ++ reply_line (step_reply step (host_end (take i steps) new_host told) now)) (let e : suc i ≡ i + 1 = omega arith in e) (text_follows steps i step new_host told lt at))

-- all steps were done
pub after_all : (now : Option Told) (host : Host) (steps : List Line) (i : ℕ) (told : Told) → length steps ≤ i → After now host (take i steps) new_host told → After now host steps new_host told
after_all now host steps i told past so_far = subst (λ first. After now host first new_host told) (take_all i steps past) so_far

pub all_replies : (text : List ℕ) (steps : List Line) (i : ℕ) (told : Told) → length steps ≤ i → text ≡ replies_to told (take i steps) → text ≡ replies_to told steps
all_replies text steps i told past is = is ∙ ap (replies_to told) (take_all i steps past)

-- .. and what closes the run was written in part, or not at all
pub closed_early : (now : Option Told) (host : Host) (steps : List Line) (i : ℕ) (told : Told) (at_first taken : Option (List ℕ)) → length steps ≤ i → After now host (take i steps) new_host told → taken ≡ with_more at_first (replies_to told (take i steps)) → EndEarly steps told at_first taken now
closed_early now host steps i told at_first taken past so_far took =
    let end = after_all now host steps i told past so_far in
    within_closing steps (replies_to told) (closing_lines steps told) (λ first. told_after_run first told) at_first taken now 0 end.now_is (took ∙ ap (λ first. with_more at_first (replies_to told first)) (take_all i steps past) ∙ with_more-nothing (with_more at_first (replies_to told steps)))

pub closed_short : (now : Option Told) (host : Host) (steps : List Line) (i n : ℕ) (lines : List ℕ) (told : Told) (at_first before taken : Option (List ℕ)) → length steps ≤ i → After now host (take i steps) new_host told → before ≡ with_more at_first (replies_to told (take i steps)) → lines ≡ output_lines (outputs_of host.streams) → n < length lines → taken ≡ with_more before (take n lines) → CutShort steps told at_first taken now
closed_short now host steps i n lines told at_first before taken past so_far took lines_are short more =
    let end = after_all now host steps i told past so_far in
    let same : lines ≡ closing_lines steps told = lines_are ∙ ap (λ (host : Host). output_lines (outputs_of host.streams)) end.host_is in
    let before_is : before ≡ with_more at_first (replies_to told steps) = took ∙ ap (λ first. with_more at_first (replies_to told first)) (take_all i steps past) in
    short_of_closing steps (replies_to told) (closing_lines steps told) (λ first. told_after_run first told) at_first taken now n (subst (λ lines. n < length lines) same short) end.now_is (more ∙ (λ i. with_more (before_is i) (take n (same i))))

-- a step that found no memory is among the first steps, or it is not
pub stopped_at : (before after : Option Told) (old new : Host) (steps : List Line) (i : ℕ) (step : Line) (told : Told) (at_first taken : Option (List ℕ)) → i < length steps → get_or steps i step ≡ step → After before old (take i steps) new_host told → taken ≡ with_more at_first (replies_to told (take i steps)) → Stopped before after old new step → EndEarly steps told at_first taken after
stopped_at before after old new steps i step told at_first taken lt at so_far took (inl none) = after_first steps (replies_to told) (closing_lines steps told) (λ first. told_after_run first told) at_first taken after i (omega (arith, lt)) (none.1 ∙ so_far.now_is) took
stopped_at before after old new steps i step told at_first taken lt at so_far took (inr is) =
    let answer = reply_to step old (given_now new.shared) in
    let one = one_after before after old new steps i step answer new_host told lt at so_far is in
    within_next steps (replies_to told) (closing_lines steps told) (λ first. told_after_run first told) at_first taken after i 0 (reply_line answer) lt (line_after before after old new steps i step answer told lt at so_far is) one.now_is (took ∙ with_more-nothing (with_more at_first (replies_to told (take i steps))))

-- of a step's reply a part was written
pub cut_at : (told_before told_now : Option Told) (old new : Host) (steps : List Line) (i n : ℕ) (step : Line) (answer : Reply) (text : List ℕ) (told : Told) (at_first before taken : Option (List ℕ)) → i < length steps → get_or steps i step ≡ step → After told_before old (take i steps) new_host told → IsStep told_before told_now old new step answer → before ≡ with_more at_first (replies_to told (take i steps)) → text ≡ reply_line answer → n < length text → taken ≡ with_more before (take n text) → CutShort steps told at_first taken told_now
cut_at told_before told_now old new steps i n step answer text told at_first before taken lt at so_far is took text_is short more =
    let one = one_after told_before told_now old new steps i step answer new_host told lt at so_far is in
    short_of_next steps (replies_to told) (closing_lines steps told) (λ first. told_after_run first told) at_first taken told_now i n (reply_line answer) (subst (λ text. n < length text) text_is short) lt (line_after told_before told_now old new steps i step answer told lt at so_far is) one.now_is (more ∙ (λ i. with_more (took i) (take n (text_is i))))

-- .. or all of it
pub written_at : (told_before told_now : Option Told) (old new : Host) (steps : List Line) (i : ℕ) (step : Line) (answer : Reply) (text : List ℕ) (told : Told) (at_first before taken : Option (List ℕ)) → i < length steps → get_or steps i step ≡ step → After told_before old (take i steps) new_host told → IsStep told_before told_now old new step answer → before ≡ with_more at_first (replies_to told (take i steps)) → text ≡ reply_line answer → taken ≡ with_more before text → taken ≡ with_more at_first (replies_to told (take (i + 1) steps))
written_at told_before told_now old new steps i step answer text told at_first before taken lt at so_far is took text_is more =
    more ∙ (λ i. with_more (took i) (text_is i)) ∙ with_more-more at_first (replies_to told (take i steps)) (reply_line answer) ∙ ap (with_more at_first) (sym (line_after told_before told_now old new steps i step answer told lt at so_far is))

-- all that closes the run was written
pub closed_whole : (now : Option Told) (host : Host) (steps : List Line) (i : ℕ) (lines : List ℕ) (told : Told) (at_first before taken : Option (List ℕ)) → length steps ≤ i → After now host (take i steps) new_host told → before ≡ with_more at_first (replies_to told (take i steps)) → lines ≡ output_lines (outputs_of host.streams) → taken ≡ with_more before lines → taken ≡ with_more at_first (transcript steps told)
closed_whole now host steps i lines told at_first before taken past so_far took lines_are more =
    let end = after_all now host steps i told past so_far in
    let same : lines ≡ closing_lines steps told = lines_are ∙ ap (λ (host : Host). output_lines (outputs_of host.streams)) end.host_is in
    let before_is : before ≡ with_more at_first (replies_to told steps) = took ∙ ap (λ first. with_more at_first (replies_to told first)) (take_all i steps past) in
    more ∙ (λ i. with_more (before_is i) (same i)) ∙ with_more-more at_first (replies_to told steps) (closing_lines steps told)

pub on_done : {A E : Type 0} (result : Result A E) (P Q : Type 0) → (P → Q) → OnOk result P → OnOk result Q
on_done (Ok done) P Q then is = then is
on_done (Err error) P Q then is = tt
