-- The script and the input that a number and a count of lines stand for.
use Rattle.std.specs.Prelude.{ℕ, zero, suc, ◌+◌, ◌*◌, ◌/◌, ◌%◌, cond, nat_eq, List, [], ◌∷◌, ◌++◌, drop, map, codes}
use Rattle.std.specs.Fmt.{decimal}
use Rattle.std.specs.List.{range_with_len}
use Rattle.wasi_script.specs.Contexts.{main_context}
use Rattle.wasi_script.specs.declared.lines.Line.{Line}
use Rattle.wasi_script.specs.declared.lines.Line.TheVariants as line
use Rattle.wasi_script.specs.declared.lines.WorkerTurn.TheVariants as turn
use Rattle.wasi_script.specs.declared.lines.Standard.TheVariants as standard
use Rattle.wasi_script.specs.declared.lines.Access.TheVariants as access
use Rattle.wasi_script.specs.declared.lines.EntryCall.TheVariants as on
use Rattle.wasi_script.specs.declared.lines.Call.TheVariants as call
use Rattle.wasi_script.specs.declared.lines.Input.TheVariants as input

-- a sequence of numbers, of which each line follows one
abbrev pub number_after : ℕ → ℕ
number_after x = (25173 * x + 13849) % 65536

-- so many of them, those after x
abbrev pub numbers_after : ℕ → ℕ → List ℕ
numbers_after x zero = []
numbers_after x (suc count) = number_after x ∷ numbers_after (number_after x) count

abbrev pub numbers_of : ℕ → ℕ → List ℕ
numbers_of number lines = numbers_after (number % 65536) lines

-- six kinds of lines, of which four ask for bytes: a line's text, without its end ..
abbrev pub text_of_kind : ℕ → ℕ → List ℕ
text_of_kind kind size =
    cond (nat_eq kind 0) (codes "call 0 read 0 " ++ decimal size)
    (cond (nat_eq kind 1) (codes "call 1 read 0 " ++ decimal size)
    (cond (nat_eq kind 2) (codes "capture")
    (cond (nat_eq kind 3) (codes "deliver")
    (cond (nat_eq kind 4) (codes "call 0 skip 0 " ++ decimal size) (codes "call 1 poll-read 1 " ++ decimal size)))))

-- .. and its step
abbrev pub step_of_kind : ℕ → ℕ → Line
step_of_kind kind size =
    cond (nat_eq kind 0) (line.Call (main_context 0) (call.On 0 (on.Read size)))
    (cond (nat_eq kind 1) (line.Call (main_context 1) (call.On 0 (on.Read size)))
    (cond (nat_eq kind 2) (line.Worker turn.Capture)
    (cond (nat_eq kind 3) (line.Worker turn.Deliver)
    (cond (nat_eq kind 4) (line.Call (main_context 0) (call.On 0 (on.Skip size))) (line.Call (main_context 1) (call.On 1 (on.PollRead size)))))))

abbrev pub kind_of : ℕ → ℕ
kind_of x = x / 256 % 6

abbrev pub size_of : ℕ → ℕ
size_of x = x % 64

-- two guests with the shared input come first
abbrev pub opening : List ℕ
opening = codes "guest 0 shared\nguest 1 shared\ncall 0 get-stdin\ncall 1 get-stdin\ncall 1 async-stdin\n"

abbrev pub opening_steps : List Line
opening_steps =
    line.Guest 0 input.Shared
    ∷ line.Guest 1 input.Shared
    ∷ line.Call (main_context 0) (call.Open standard.Input access.Plain)
    ∷ line.Call (main_context 1) (call.Open standard.Input access.Plain)
    ∷ line.Call (main_context 1) (call.Open standard.Input access.Polled)
    ∷ []

-- the lines of these numbers, each with its end
abbrev pub texts_of : List ℕ → List ℕ
texts_of [] = []
texts_of (x ∷ numbers) = text_of_kind (kind_of x) (size_of x) ++ 10 ∷ texts_of numbers

abbrev pub generated_script : ℕ → ℕ → List ℕ
generated_script number lines = opening ++ texts_of (numbers_of number lines)

-- the steps of that script
abbrev pub generated_steps : ℕ → ℕ → List Line
generated_steps number lines = opening_steps ++ map (λ x. step_of_kind (kind_of x) (size_of x)) (numbers_of number lines)

-- those that are left after some of the opening, where so many lines come after a number
abbrev pub steps_to_come : ℕ → ℕ → ℕ → List Line
steps_to_come opened x left = drop opened opening_steps ++ map (λ x. step_of_kind (kind_of x) (size_of x)) (numbers_after x left)

-- eight bytes a line, counting up from the number
abbrev pub generated_input : ℕ → ℕ → List ℕ
generated_input number lines = map (λ byte. byte % 256) (range_with_len number (8 * lines))
