-- A generated script is short, it is valid, and its steps are those of its lines.
use Rattle.std.proofs.Common.{◌≡◌, ℕ, zero, suc, ◌+◌, ◌*◌, ◌%◌, ◌^◌, ◌<◌, ◌≤◌, Bool, true, false, cond, List, [], ◌∷◌, ◌++◌, map, length, Option, Some, refl, sym, ap, ◌∙◌, arith, length-append}
use Rattle.std.specs.Prelude.{codes, not, ◌&&◌, nat_eq, nat_lt, nat_le}
use Rattle.std.specs.Char.{is_ascii_digit, digit_value}
use Rattle.std.specs.Fmt.{decimal}
use Rattle.std.specs.List.{list_all}
use Rattle.std.specs.Option.{option_map}
use Rattle.std.specs.Str.Parse.{AllDigits}
use Rattle.std.proofs.Math.Nat.{mod-lt}
use Rattle.std.proofs.lemmas.List.{length-map}
use Rattle.std.proofs.lemmas.Bool.Decides.{nat_tests}
use Rattle.std.proofs.lemmas.Fmt.{decimal_is_IsNumeral, length-decimal-le}
use Rattle.wasi_words.specs.Fields.{number_of, words_of, lines_of}
use Rattle.wasi_script.specs.Contexts.{main_context}
use Rattle.wasi_script.specs.declared.lines.Line.{Line}
use Rattle.wasi_script.specs.declared.lines.Line.TheVariants as line
use Rattle.wasi_script.specs.declared.lines.WorkerTurn.TheVariants as turn
use Rattle.wasi_script.specs.declared.lines.Standard.TheVariants as standard
use Rattle.wasi_script.specs.declared.lines.Access.TheVariants as access
use Rattle.wasi_script.specs.declared.lines.EntryCall.{EntryCall}
use Rattle.wasi_script.specs.declared.lines.EntryCall.TheVariants as on
use Rattle.wasi_script.specs.declared.lines.Call.TheVariants as call
use Rattle.wasi_script.specs.declared.lines.Input.TheVariants as input
use Rattle.wasi_script.specs.declared.forms.Reading.{Reading}
use Rattle.wasi_script.specs.declared.forms.Reading.TheVariants.{Step, Invalid}
use Rattle.wasi_script.specs.Grammar.{Names, Parsed, Steps, no_names, reading_of, line_of, step_or_invalid, if_standing, parsed_line, parsed_from, parsed, with_step, may_stand, names_after, names_end}
use Rattle.wasi_script.specs.Generated.{numbers_after, numbers_of, number_after, text_of_kind, step_of_kind, kind_of, size_of, texts_of, opening_steps, generated_script, generated_steps}

abbrev has_none : ℕ → List ℕ → Bool
has_none separator [] = true
has_none separator (byte ∷ text) = not (nat_eq byte separator) && has_none separator text

both : (same rest : Bool) → (not same && rest) ≡ true → (same ≡ false) × (rest ≡ true)
both false true is = (refl, refl)
both false false is = absurd (cc)
both true rest is = absurd (cc)

none_in_both : (separator : ℕ) (first second : List ℕ) → has_none separator first ≡ true → has_none separator second ≡ true → has_none separator (first ++ second) ≡ true
none_in_both separator [] second one two = two
none_in_both separator (byte ∷ first) second one two = let it = both (nat_eq byte separator) (has_none separator first) one in rw (it.0, none_in_both separator first second it.1 two) refl

none_in_digits : (separator : ℕ) (text : List ℕ) → separator < 48 → AllDigits 10 text → has_none separator text ≡ true
none_in_digits separator [] small digits = refl
none_in_digits separator (byte ∷ text) small digits =
    let differs : nat_eq byte separator ≡ false = grind (arith, nat_tests, digits.0) in
    rw (differs, none_in_digits separator text small digits.1) refl

-- a line, and then the lines after it
cut_line : (text rest : List ℕ) → has_none 10 text ≡ true → lines_of (text ++ 10 ∷ rest) ≡ text ∷ lines_of rest
cut_line [] rest none = refl
cut_line (byte ∷ text) rest none = let it = both (nat_eq byte 10) (has_none 10 text) none in rw (it.0, cut_line text rest it.1) refl

one_word : (text : List ℕ) → has_none 32 text ≡ true → words_of text ≡ text ∷ []
one_word [] none = refl
one_word (byte ∷ text) none = let it = both (nat_eq byte 32) (has_none 32 text) none in rw (it.0, one_word text it.1) refl

all_digits : (text : List ℕ) → AllDigits 10 text → list_all is_ascii_digit text ≡ true
all_digits [] digits = refl
all_digits (byte ∷ text) digits = let first : is_ascii_digit byte ≡ true = grind (arith, nat_tests, digits.0) in rw (first, all_digits text digits.1) refl

digits_of : (size : ℕ) → size < 64 → AllDigits 10 (decimal size)
digits_of size small = (decimal_is_IsNumeral size (omega (arith, small))).0.1

its_number : (size : ℕ) → size < 64 → number_of (decimal size) ≡ Some size
its_number size small =
    let numeral = decimal_is_IsNumeral size (omega (arith, small)) in
    let low : nat_le 1 (length (decimal size)) ≡ true = grind (arith, nat_tests, numeral.0.0) in
    let short : length (decimal size) ≤ 20 = length-decimal-le 20 size (omega arith) (omega (arith, small)) (omega (arith, small)) in
    let high : nat_le (length (decimal size)) 20 ≡ true = grind (arith, nat_tests, short) in
    let below : nat_lt size (2 ^ 64) ≡ true = grind (arith, nat_tests, small) in
    rw (low, high, all_digits (decimal size) numeral.0.1, numeral.1, below) refl

-- a call on a number of a guest, by the size that its last word is
abbrev asked_by : ℕ → ℕ → (ℕ → EntryCall) → Option ℕ → Option Line
asked_by guest number make it = option_map (line.Call (main_context guest)) (option_map (λ (both : ℕ × ℕ). call.On both.0 (make both.1)) (option_map (λ size. (number, size)) it))

asks : (words : List (List ℕ) → List (List ℕ)) (outcome : Option ℕ → Option Line) (size : ℕ) → size < 64 → ((last : List ℕ) → line_of (words (last ∷ [])) ≡ outcome (number_of last)) → step_or_invalid (line_of (words (words_of (decimal size)))) ≡ step_or_invalid (outcome (Some size))
asks words outcome size small is = ap step_or_invalid (ap (λ last. line_of (words last)) (one_word (decimal size) (none_in_digits 32 (decimal size) (omega arith) (digits_of size small))) ∙ is (decimal size) ∙ ap outcome (its_number size small))

-- the texts and the steps of the kinds, by the tests that tell the kinds apart
abbrev text_by : Bool → Bool → Bool → Bool → Bool → ℕ → List ℕ
text_by read other capture deliver skip size =
    cond read (codes "call 0 read 0 " ++ decimal size)
    (cond other (codes "call 1 read 0 " ++ decimal size)
    (cond capture (codes "capture")
    (cond deliver (codes "deliver")
    (cond skip (codes "call 0 skip 0 " ++ decimal size) (codes "call 1 poll-read 1 " ++ decimal size)))))

abbrev step_by : Bool → Bool → Bool → Bool → Bool → ℕ → Line
step_by read other capture deliver skip size =
    cond read (line.Call (main_context 0) (call.On 0 (on.Read size)))
    (cond other (line.Call (main_context 1) (call.On 0 (on.Read size)))
    (cond capture (line.Worker turn.Capture)
    (cond deliver (line.Worker turn.Deliver)
    (cond skip (line.Call (main_context 0) (call.On 0 (on.Skip size))) (line.Call (main_context 1) (call.On 1 (on.PollRead size)))))))

reads : (read other capture deliver skip : Bool) (size : ℕ) → size < 64 → reading_of (text_by read other capture deliver skip size) ≡ Step (step_by read other capture deliver skip size)
reads true other capture deliver skip size small = asks (λ last. codes "call" ∷ codes "0" ∷ codes "read" ∷ codes "0" ∷ last) (asked_by 0 0 on.Read) size small (λ last. refl)
reads false true capture deliver skip size small = asks (λ last. codes "call" ∷ codes "1" ∷ codes "read" ∷ codes "0" ∷ last) (asked_by 1 0 on.Read) size small (λ last. refl)
reads false false true deliver skip size small = refl
reads false false false true skip size small = refl
reads false false false false true size small = asks (λ last. codes "call" ∷ codes "0" ∷ codes "skip" ∷ codes "0" ∷ last) (asked_by 0 0 on.Skip) size small (λ last. refl)
reads false false false false false size small = asks (λ last. codes "call" ∷ codes "1" ∷ codes "poll-read" ∷ codes "1" ∷ last) (asked_by 1 1 on.PollRead) size small (λ last. refl)

no_end : (read other capture deliver skip : Bool) (size : ℕ) → size < 64 → has_none 10 (text_by read other capture deliver skip size) ≡ true
no_end true other capture deliver skip size small = none_in_both 10 (codes "call 0 read 0 ") (decimal size) refl (none_in_digits 10 (decimal size) (omega arith) (digits_of size small))
no_end false true capture deliver skip size small = none_in_both 10 (codes "call 1 read 0 ") (decimal size) refl (none_in_digits 10 (decimal size) (omega arith) (digits_of size small))
no_end false false true deliver skip size small = refl
no_end false false false true skip size small = refl
no_end false false false false true size small = none_in_both 10 (codes "call 0 skip 0 ") (decimal size) refl (none_in_digits 10 (decimal size) (omega arith) (digits_of size small))
no_end false false false false false size small = none_in_both 10 (codes "call 1 poll-read 1 ") (decimal size) refl (none_in_digits 10 (decimal size) (omega arith) (digits_of size small))

-- the digits of a size
few : (size : ℕ) → size < 64 → length (decimal size) ≤ 2
few size small = length-decimal-le 2 size (omega arith) (omega (arith, small)) (omega (arith, small))

short_line : (read other capture deliver skip : Bool) (size : ℕ) → size < 64 → length (text_by read other capture deliver skip size) ≤ 21
short_line true other capture deliver skip size small = rw (length-append (codes "call 0 read 0 ") (decimal size)) (omega (arith, few size small))
short_line false true capture deliver skip size small = rw (length-append (codes "call 1 read 0 ") (decimal size)) (omega (arith, few size small))
short_line false false true deliver skip size small = omega arith
short_line false false false true skip size small = omega arith
short_line false false false false true size small = rw (length-append (codes "call 0 skip 0 ") (decimal size)) (omega (arith, few size small))
short_line false false false false false size small = rw (length-append (codes "call 1 poll-read 1 ") (decimal size)) (omega (arith, few size small))

-- both guests are declared
abbrev AreDeclared : Names → Type 0
AreDeclared names = (names.is_guest 0 ≡ true) × (names.is_guest 1 ≡ true)

stands : (names : Names) (read other capture deliver skip : Bool) (size : ℕ) → AreDeclared names → may_stand names (step_by read other capture deliver skip size) ≡ true
stands names true other capture deliver skip size are = rw are.0 refl
stands names false true capture deliver skip size are = rw are.1 refl
stands names false false true deliver skip size are = refl
stands names false false false true skip size are = refl
stands names false false false false true size are = rw are.0 refl
stands names false false false false false size are = rw are.1 refl

still : (names : Names) (read other capture deliver skip : Bool) (size : ℕ) → AreDeclared names → AreDeclared (names_after names (step_by read other capture deliver skip size))
still names true other capture deliver skip size are = are
still names false true capture deliver skip size are = are
still names false false true deliver skip size are = are
still names false false false true skip size are = are
still names false false false false true size are = are
still names false false false false false size are = are

small_size : (x : ℕ) → size_of x < 64
small_size x = mod-lt x (omega arith)

steps_from : (numbers : List ℕ) (names : Names) (number : ℕ) → AreDeclared names → parsed_from (lines_of (texts_of numbers)) names number ≡ Steps (map (λ x. step_of_kind (kind_of x) (size_of x)) numbers)
steps_from [] names number are = refl
steps_from (x ∷ numbers) names number are =
    let kind = kind_of x in
    let size = size_of x in
    let small = small_size x in
    let rest = texts_of numbers in
    let step = step_of_kind kind size in
    let after = parsed_from (lines_of rest) in
    ap (λ lines. parsed_from lines names number) (cut_line (text_of_kind kind size) rest (no_end (nat_eq kind 0) (nat_eq kind 1) (nat_eq kind 2) (nat_eq kind 3) (nat_eq kind 4) size small))
    ∙ ap (λ reading. parsed_line (if_standing names reading) names number after) (reads (nat_eq kind 0) (nat_eq kind 1) (nat_eq kind 2) (nat_eq kind 3) (nat_eq kind 4) size small)
    ∙ ap (λ stand. parsed_line (cond stand (Step step) Invalid) names number after) (stands names (nat_eq kind 0) (nat_eq kind 1) (nat_eq kind 2) (nat_eq kind 3) (nat_eq kind 4) size are)
    ∙ ap (with_step step) (steps_from numbers (names_after names step) (number + 1) (still names (nat_eq kind 0) (nat_eq kind 1) (nat_eq kind 2) (nat_eq kind 3) (nat_eq kind 4) size are))

abbrev with_opening : Parsed → Parsed
with_opening rest = with_step (line.Guest 0 input.Shared) (with_step (line.Guest 1 input.Shared) (with_step (line.Call (main_context 0) (call.Open standard.Input access.Plain)) (with_step (line.Call (main_context 1) (call.Open standard.Input access.Plain)) (with_step (line.Call (main_context 1) (call.Open standard.Input access.Polled)) rest))))

pub is_valid : (number lines : ℕ) → parsed (generated_script number lines) ≡ Steps (generated_steps number lines)
is_valid number lines = ap (λ rest. with_opening rest) (steps_from (numbers_of number lines) (names_end no_names opening_steps) 6 (refl, refl))

lines_length : (x count : ℕ) → length (texts_of (numbers_after x count)) ≤ 22 * count
lines_length x zero = omega arith
lines_length x (suc count) =
    let next = number_after x in
    let kind = kind_of next in
    let text = text_of_kind kind (size_of next) in
    let line : length text ≤ 21 = short_line (nat_eq kind 0) (nat_eq kind 1) (nat_eq kind 2) (nat_eq kind 3) (nat_eq kind 4) (size_of next) (small_size next) in
    rw (length-append text (10 ∷ texts_of (numbers_after next count))) (omega (arith, line, lines_length next count))

pub is_short : (number lines : ℕ) → lines ≤ 100000 → length (generated_script number lines) ≤ 16777216
is_short number lines few = omega (arith, lines_length (number % 65536) lines, few)

numbers_length : (x count : ℕ) → length (numbers_after x count) ≡ count
numbers_length x zero = refl
numbers_length x (suc count) = ap suc (numbers_length (number_after x) count)

-- five steps come before those of its lines
pub is_counted : (number lines : ℕ) → length (generated_steps number lines) ≡ 5 + lines
is_counted number lines =
    let rest : length (map (λ x. step_of_kind (kind_of x) (size_of x)) (numbers_of number lines)) ≡ lines = length-map (numbers_of number lines) (λ x. step_of_kind (kind_of x) (size_of x)) ∙ numbers_length (number % 65536) lines in
    omega (arith, rest)
