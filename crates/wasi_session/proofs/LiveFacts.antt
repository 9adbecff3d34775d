-- Lines that come one at a time are read as those of the whole script.
use Rattle.std.proofs.Common.{◌≡◌, ℕ, ◌+◌, Bool, true, false, cond, List, [], ◌∷◌, length, refl, ap, ◌∙◌}
use Rattle.wasi_base.specs.Source.{Given}
use Rattle.wasi_script.specs.declared.forms.Reading.{Reading}
use Rattle.wasi_script.specs.declared.forms.Reading.TheVariants.{Note, Step, Invalid}
use Rattle.wasi_script.specs.Grammar.{Names, Parsed, parsed_from, parsed_line, with_step, reading_of, if_standing, may_stand, lines_of}
use Rattle.wasi_host.specs.Host.{Host, new_host, names_of, host_after}
use Rattle.wasi_host.specs.laws.Steps.{names_step, names_new, places_step}
use Rattle.wasi_session.specs.Live.{live_line, taken_live, LinesAreTakenInTheirPlace}

module _ (given : ℕ → Given) where
  -- one line, where the lines after it are
  taken_line : (reading : Reading) (host : Host) (number : ℕ) (live : Host → ℕ → Parsed) (rest : Names → ℕ → Parsed) → length host.guests ≡ 64 → ((next : Host) (number : ℕ) → length next.guests ≡ 64 → live next number ≡ rest (names_of next) number)
      → live_line (if_standing (names_of host) reading) given host number live ≡ parsed_line (if_standing (names_of host) reading) (names_of host) number rest
  taken_line Note host number live rest places others = others host (number + 1) places
  taken_line (Step step) host number live rest places others = by_test (may_stand (names_of host) step) refl
    where
      next : Host
      next = host_after step host (given number)

      by_test : (stands : Bool) → may_stand (names_of host) step ≡ stands → live_line (cond stands (Step step) Invalid) given host number live ≡ parsed_line (cond stands (Step step) Invalid) (names_of host) number rest
      by_test true stands = ap (with_step step) (others next (number + 1) (places_step step host (given number) ∙ places) ∙ ap (λ names. rest names (number + 1)) (names_step step host (given number) places stands))
      by_test false stands = refl
  taken_line Invalid host number live rest places others = refl

  taken_from : (texts : List (List ℕ)) (host : Host) (number : ℕ) → length host.guests ≡ 64 → taken_live given texts host number ≡ parsed_from texts (names_of host) number
  taken_from [] host number places = refl
  taken_from (text ∷ texts) host number places = taken_line (reading_of text) host number (taken_live given texts) (parsed_from texts) places (λ next number places. taken_from texts next number places)

pub taken_in_place : LinesAreTakenInTheirPlace
taken_in_place given bytes = taken_from given (lines_of bytes) new_host 1 refl ∙ ap (λ names. parsed_from (lines_of bytes) names 1) names_new
