-- An answer of preview 1 as that of preview 0. An error is the same in both.
use Rattle.std.specs.Prelude.{◌≡◌, Result, Ok, Err}

abbrev pub p0_answer : {A B E : Type 0} → (A → B) → Result A E → Result B E
p0_answer convert (Ok value) = Ok (convert value)
p0_answer convert (Err error) = Err error

-- an answer of which the call's relation holds, and of which this is the conversion
abbrev pub IsConverted : {A B E : Type 0} → (A → B) → (Result A E → Type 0) → Result B E → Type 0
IsConverted {A = A} {E = E} convert Answers result =
    (answer : Result A E) × Answers answer × (result ≡ p0_answer convert answer)
