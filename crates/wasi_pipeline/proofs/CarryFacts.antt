-- Each step of a pipeline keeps what its links carry.
use Rattle.std.proofs.Common.{◌≡◌, ℕ, zero, suc, ◌≤◌, ◌++◌, Bool, true, false, not, cond, List, [], ◌∷◌, length, length-append, take, drop, None, refl, ap, arith, ◌∙◌, sym, subst, append_assoc, take-append-drop}
use Rattle.std.proofs.lemmas.Bool.Decides.{nat_tests}
use Rattle.std.specs.Prelude.{nat_eq, ◌&&◌}
use Rattle.wasi_reply.specs.declared.reply.Reply.TheVariants as reply
use Rattle.wasi_pipeline.specs.Chain.{Chain, Turned, done, after_drain, after_moving, closed, drain_reply, drained, holding, is_done, room_of, shown, turned, turned_at, with_output}
use Rattle.wasi_pipeline.specs.Conservation.{Carries, Passes, bytes_shown}
use Rattle.wasi_pipeline.specs.Kinds.{become_all, last_after, made, moving}
use Rattle.wasi_pipeline.specs.declared.stage.Channel.{Channel}
use Rattle.wasi_pipeline.specs.declared.stage.Stage.{Stage}
use Rattle.wasi_pipeline.specs.declared.stage.Turn.{Turn}
use Rattle.wasi_pipeline.specs.declared.stage.Turn.TheVariants.{Pump, Stop}
use Rattle.wasi_pipeline.proofs.MadeFacts.{made_more, last_both, moves}

-- a link that holds the same within the same bound carries the same, whatever its ends are
pub ends_apart : (put : List ℕ) (old new : Channel) (stages : List Stage) (out : List ℕ) → old.link ≡ new.link → Carries put old stages out → Carries put new stages out
ends_apart put old new [] out same carries = record { whole = rw (← same) carries.whole; within = rw (← same) carries.within }
ends_apart put old new (stage ∷ stages) out same carries = (carries.0, record { whole = rw (← same) carries.1.whole; within = rw (← same) carries.1.within }, carries.2, carries.3)

-- more bytes that go into a link
more_passes : (put more taken : List ℕ) (channel : Channel) → length more ≤ room_of channel.link → Passes put channel taken → Passes (put ++ more) (holding channel (channel.link.held ++ more)) taken
more_passes put more taken channel fits passes = record {
  whole = ap (λ bytes. bytes ++ more) passes.whole ∙ append_assoc taken channel.link.held more;
  within = omega (arith, length-append channel.link.held more, fits, passes.within);
}

pub put_more : (put more : List ℕ) (channel : Channel) (stages : List Stage) (out : List ℕ) → length more ≤ room_of channel.link → Carries put channel stages out → Carries (put ++ more) (holding channel (channel.link.held ++ more)) stages out
put_more put more channel [] out fits carries = more_passes put more out channel fits carries
put_more put more channel (stage ∷ stages) out fits carries = (carries.0, more_passes put more carries.0 channel fits carries.1, carries.2, carries.3)

-- the first bytes that go out of a link
less_passes : (put first left taken : List ℕ) (channel : Channel) → channel.link.held ≡ first ++ left → Passes put channel taken → Passes put (holding channel left) (taken ++ first)
less_passes put first left taken channel split passes = record {
  whole = passes.whole ∙ ap (λ held. taken ++ held) split ∙ sym (append_assoc taken first left);
  within = omega (arith, ap length split, length-append first left, passes.within);
}

-- a link, a stage and what is after it carry this
abbrev CarriesTurned : List ℕ → Turned → List Stage → List ℕ → Type 0
CarriesTurned put it stages out = Carries put it.input (it.stage ∷ stages) out

moved : (put : List ℕ) (input : Channel) (stage : Stage) (stages : List Stage) (out : List ℕ) (most : ℕ) → Carries put input (stage ∷ stages) out → CarriesTurned put (after_moving input stage (moving stage.kind stage.last most (room_of stage.output.link) input.link.held)) stages out
moved put input stage stages out most carries =
    let it = moving stage.kind stage.last most (room_of stage.output.link) input.link.held in
    let did = moves stage.kind stage.last most (room_of stage.output.link) input.link.held in
    let before = carries.0 in
    let last : it.last ≡ last_after None (before ++ did.taken) = did.last_is ∙ ap (λ last. last_after last did.taken) carries.2 ∙ last_both None before did.taken in
    let made_is : made stage.kind before ++ it.made ≡ made stage.kind (before ++ did.taken) = ap (λ more. made stage.kind before ++ more) (did.made ∙ ap (λ last. become_all stage.kind last did.taken) carries.2) ∙ made_more stage.kind before did.taken in (
      before ++ did.taken,
      less_passes put did.taken it.left before input did.whole carries.1,
      last,
      subst (λ put. Carries put (holding stage.output (stage.output.link.held ++ it.made)) stages out) made_is (put_more (made stage.kind before) it.made stage.output stages out did.fits carries.3),
    )

turn_kept : (turn : Turn) (put : List ℕ) (input : Channel) (stage : Stage) (stages : List Stage) (out : List ℕ) → Carries put input (stage ∷ stages) out → CarriesTurned put (turned turn input stage) stages out
turn_kept (Pump most) put input stage stages out carries = when_stopped stage.stopped
  where
    ended : Stage
    ended = with_output stage (record stage.output { writer_open = false })

    kept : Turned → Type 0
    kept it = CarriesTurned put it stages out

    when_done : (test : Bool) → kept (cond test (record { reply = closed; input = input; stage = with_output stage (record stage.output { writer_open = false }) }) (after_moving input stage (moving stage.kind stage.last most (room_of stage.output.link) input.link.held)))
    when_done true = (carries.0, carries.1, carries.2, ends_apart (made stage.kind carries.0) stage.output (record stage.output { writer_open = false }) stages out refl carries.3)
    when_done false = moved put input stage stages out most carries

    when_closed : (test : Bool) → kept (cond test (record { reply = closed; input = input; stage = stage }) (cond (is_done input) (record { reply = closed; input = input; stage = with_output stage (record stage.output { writer_open = false }) }) (after_moving input stage (moving stage.kind stage.last most (room_of stage.output.link) input.link.held))))
    when_closed true = carries
    when_closed false = when_done (is_done input)

    when_stopped : (test : Bool) → kept (cond test (record { reply = reply.Ended; input = input; stage = stage }) (cond (not stage.output.reader_open) (record { reply = closed; input = input; stage = stage }) (cond (is_done input) (record { reply = closed; input = input; stage = with_output stage (record stage.output { writer_open = false }) }) (after_moving input stage (moving stage.kind stage.last most (room_of stage.output.link) input.link.held)))))
    when_stopped true = carries
    when_stopped false = when_closed (not stage.output.reader_open)
turn_kept Stop put input stage stages out carries = when_stopped stage.stopped
  where
    when_stopped : (test : Bool) → CarriesTurned put (cond test (record { reply = reply.Ended; input = input; stage = stage }) (record { reply = done; input = record input { reader_open = false }; stage = record stage { stopped = true; output = record stage.output { writer_open = false } } })) stages out
    when_stopped true = carries
    when_stopped false = (carries.0, record { whole = carries.1.whole; within = carries.1.within }, carries.2, ends_apart (made stage.kind carries.0) stage.output (record stage.output { writer_open = false }) stages out refl carries.3)

abbrev CarriesChain : List ℕ → Chain → List ℕ → Type 0
CarriesChain put it out = Carries put it.input it.stages out

-- a turn at any place
pub turn_at_kept : (at : ℕ) (turn : Turn) (put : List ℕ) (input : Channel) (stages : List Stage) (out : List ℕ) → Carries put input stages out → CarriesChain put (turned_at at turn input stages) out
turn_at_kept at turn put input [] out carries = carries
turn_at_kept zero turn put input (stage ∷ stages) out carries = turn_kept turn put input stage stages out carries
turn_at_kept (suc at) turn put input (stage ∷ stages) out carries = (carries.0, carries.1, carries.2, turn_at_kept at turn (made stage.kind carries.0) stage.output stages out carries.3)

both_true : (a b : Bool) → (a && b) ≡ true → (a ≡ true) × (b ≡ true)
both_true true b is = (refl, is)
both_true false b is = absurd (cc)

is_zero : (n : ℕ) (other : Bool) → (nat_eq n 0 && other) ≡ true → n ≡ 0
is_zero n other is = let both = both_true (nat_eq n 0) other is in grind (arith, nat_tests, both.0)

-- bytes that are drained are shown
last_drained : (most : ℕ) (put : List ℕ) (channel : Channel) (out : List ℕ) → Passes put channel out → Passes put (after_drain most channel) (out ++ bytes_shown (drain_reply most channel))
last_drained most put channel out passes = by_test (is_done channel) refl
  where
    by_test : (test : Bool) → is_done channel ≡ test → Passes put (after_drain most channel) (out ++ bytes_shown (cond test closed (shown (take most channel.link.held))))
    by_test true is =
        let none : channel.link.held ≡ [] = nothing_held channel.link.held channel.writer_open is in
        (less_passes put [] (drop most channel.link.held) out channel (none ∙ sym (ap (drop most) none ∙ nothing_left most)) passes)
      where
        nothing_held : (held : List ℕ) (written : Bool) → (nat_eq (length held) 0 && not written) ≡ true → held ≡ []
        nothing_held [] written is = refl
        nothing_held (byte ∷ held) written is = let zero_is = is_zero (length (byte ∷ held)) (not written) is in absurd (omega (arith, zero_is))

        nothing_left : (most : ℕ) → drop {A = ℕ} most [] ≡ []
        nothing_left zero = refl
        nothing_left (suc most) = refl
    by_test false is = less_passes put (take most channel.link.held) (drop most channel.link.held) out channel (sym (take-append-drop most channel.link.held)) passes

pub drain_kept : (most : ℕ) (put : List ℕ) (input : Channel) (stages : List Stage) (out : List ℕ) → Carries put input stages out → CarriesChain put (drained most input stages) (out ++ bytes_shown (drained most input stages).reply)
drain_kept most put input [] out carries = last_drained most put input out carries
drain_kept most put input (stage ∷ stages) out carries = (carries.0, carries.1, carries.2, drain_kept most (made stage.kind carries.0) stage.output stages out carries.3)
