-- The host follows the run's rules: captures and deliveries.
use Rattle.std.proofs.Common.{◌≡◌, ℕ, ◌+◌, ◌<◌, List, [], ◌∷◌, ◌++◌, length, Option, Some, None, refl, ap, arith, ◌∙◌, sym, subst, append-nil}
use Rattle.std.specs.Ordering.{nat_cmp}
use Rattle.std.specs.FinSet.{FinSet}
use Rattle.std.proofs.lemmas.Grind.{common_steps}
use Rattle.wasi_base.specs.declared.source.Plan.{Plan}
use Rattle.wasi_base.specs.declared.source.Plan.TheVariants.{Take, Fail}
use Rattle.wasi_base.specs.Source.{Told, Given, bytes_given, gives, told_after, given_by, told_by}
use Rattle.wasi_base.specs.Source as given
use Rattle.wasi_base.specs.laws.Reads.{given_left}
use Rattle.wasi_stdin.specs.declared.mode.Mode.{Mode}
use Rattle.wasi_stdin.specs.declared.mode.Mode.TheVariants.{Idle, Asked, Held, Failed, Closed}
use Rattle.wasi_stdin.specs.Shared.{Shared, IsSound, HoldsIn, CapturedIn, capture_at, capture_of, captured_by, after_capture, outcome_of, mode_given, delivered}
use Rattle.wasi_host.specs.Host.{Guest, captured_told, outcome_told, delivery_told, after_delivery, given_for, told_for}
use Rattle.wasi_host.specs.Run.{size_captured, CaptureRule, delivery_answer, delivered_row, DeliverRule}
use Rattle.wasi_host.specs.laws.Shown.{shown}
use Rattle.wasi_host.specs.laws.GuestCalls.{OwnedBy, Next}

given_sound : (plan : List Plan) (left : List ℕ) (r d : ℕ) → 0 < r → IsSound (record { mode = mode_given (given_by plan left r); held = bytes_given (given_by plan left r); captured = None; deliveries = d })
given_sound (Fail kind ∷ plan) left r d pos = record { holds = refl; captures = refl }
given_sound (Take k ∷ plan) [] r d pos = record { holds = refl; captures = refl }
given_sound (Take k ∷ plan) (b ∷ left) r d pos = record { holds = grind (arith, common_steps); captures = refl }
given_sound [] [] r d pos = record { holds = refl; captures = refl }
given_sound [] (b ∷ left) r d pos = record { holds = grind (arith, common_steps); captures = refl }

-- while a size is captured nothing is held
captured_held : (m : Mode) (c : Option ℕ) (held : List ℕ) (size : ℕ) → HoldsIn m held → CapturedIn m c → c ≡ Some size → (held ≡ []) × (0 < size)
captured_held Idle c held size h k e = absurd (cc)
captured_held (Asked n) None held size h k e = absurd (cc)
captured_held (Asked n) (Some s) held size h k e = (h, (let same : s ≡ size = cc in rw (← same) k.0))
captured_held Held c held size h k e = absurd (cc)
captured_held (Failed kind) c held size h k e = absurd (cc)
captured_held Closed c held size h k e = absurd (cc)

nothing_held : (front held : List ℕ) → held ≡ [] → (n : ℕ) → length front + n ≡ length front + length held + n
nothing_held front held none n = let z : length held ≡ 0 = ap length none in omega arith

given_row : (g : Given) (front : List ℕ) (shared : Shared) (guests : ℕ → Option Guest) (live : ℕ → FinSet nat_cmp) (told told' : Told) → shared.held ≡ [] → shown front (delivered shared g) guests live told' ≡ delivered_row g told' (shown front shared guests live told)
given_row (given.Bytes bytes) front shared guests live told told' none = λ i. record (shown front shared guests live told) { told = told'; given = nothing_held front shared.held none (length bytes) i; mode = Held; captured = None; deliveries = shared.deliveries + 1 }
given_row given.End front shared guests live told told' none = λ i. record (shown front shared guests live told) { told = told'; given = length front + ap length (sym none) i; mode = Closed; captured = None; deliveries = shared.deliveries + 1 }
given_row (given.Fault kind) front shared guests live told told' none = λ i. record (shown front shared guests live told) { told = told'; given = length front + ap length (sym none) i; mode = Failed kind; captured = None; deliveries = shared.deliveries + 1 }

given_answer : (g : Given) → outcome_told (outcome_of g) ≡ delivery_answer g
given_answer (given.Bytes bytes) = refl
given_answer given.End = refl
given_answer (given.Fault kind) = refl

pub deliver_next : (c : Option ℕ) (input front : List ℕ) (shared : Shared) (guests : ℕ → Option Guest) (live : ℕ → FinSet nat_cmp) (told : Told) → shared.captured ≡ c → IsSound shared → input ≡ front ++ (shared.held ++ told.left) → ((m : ℕ) → OwnedBy (guests m) (live m)) → Next input front shared guests live told (λ s. []) (λ s s'. DeliverRule c s (delivery_told c (given_for c told)) s') (after_delivery c shared (given_for c told)) guests (told_for c told)
deliver_next None input front shared guests live told e sound is owned = record { front' = front; live' = live; front_is = sym (append-nil front); owned = owned; input_is = is; sound = sound; rule = (refl, refl) }
deliver_next (Some size) input front shared guests live told e sound is owned =
    let none = captured_held shared.mode shared.captured shared.held size sound.holds sound.captures e in
    record {
      front' = front;
      live' = live;
      front_is = sym (append-nil front);
      owned = owned;
      input_is = is ∙ ap (λ held. front ++ (held ++ told.left)) none.0 ∙ ap (λ left. front ++ left) (given_left told.plan told.left size);
      sound = given_sound told.plan told.left size (shared.deliveries + 1) none.1;
      rule = (given_answer (gives told size), given_row (gives told size) front shared guests live told (told_after told size) none.0);
    }

capture_sound : (m : Mode) (c : Option ℕ) (held : List ℕ) (d : ℕ) → HoldsIn m held → CapturedIn m c → IsSound (captured_by (capture_at m c) (record { mode = m; held = held; captured = c; deliveries = d }))
capture_sound Idle c held d h k = record { holds = h; captures = k }
capture_sound (Asked n) None held d h k = record { holds = h; captures = (omega arith, omega arith) }
capture_sound (Asked n) (Some size) held d h k = record { holds = h; captures = k }
capture_sound Held c held d h k = record { holds = h; captures = k }
capture_sound (Failed kind) c held d h k = record { holds = h; captures = k }
capture_sound Closed c held d h k = record { holds = h; captures = k }

captured_shown : (c : Option ℕ) (front : List ℕ) (shared : Shared) (guests : ℕ → Option Guest) (live : ℕ → FinSet nat_cmp) (told : Told) → CaptureRule c (shown front shared guests live told) (captured_told c) (shown front (captured_by c shared) guests live told) × ((captured_by c shared).held ≡ shared.held)
captured_shown None front shared guests live told = ((refl, refl), refl)
captured_shown (Some size) front shared guests live told = ((refl, refl), refl)

captured_is : (m : Mode) (c : Option ℕ) → capture_at m c ≡ size_captured m c
captured_is Idle c = refl
captured_is (Asked n) None = refl
captured_is (Asked n) (Some size) = refl
captured_is Held c = refl
captured_is (Failed kind) c = refl
captured_is Closed c = refl

pub capture_next : (input front : List ℕ) (shared : Shared) (guests : ℕ → Option Guest) (live : ℕ → FinSet nat_cmp) (told : Told) → IsSound shared → input ≡ front ++ (shared.held ++ told.left) → ((m : ℕ) → OwnedBy (guests m) (live m)) → Next input front shared guests live told (λ s. []) (λ s s'. CaptureRule (size_captured s.mode s.captured) s (captured_told (capture_of shared)) s') (after_capture shared) guests told
capture_next input front shared guests live told sound is owned =
    let same = captured_shown (capture_of shared) front shared guests live told in
    record { front' = front; live' = live; front_is = sym (append-nil front); owned = owned; input_is = is ∙ ap (λ held. front ++ (held ++ told.left)) (sym same.1); sound = capture_sound shared.mode shared.captured shared.held shared.deliveries sound.holds sound.captures; rule = subst (λ c. CaptureRule c (shown front shared guests live told) (captured_told (capture_of shared)) (shown front (after_capture shared) guests live told)) (captured_is shared.mode shared.captured) same.0 }
