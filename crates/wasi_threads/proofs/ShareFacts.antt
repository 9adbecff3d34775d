-- What is handed out stands in front of what is held, and the rest stays held.
use Rattle.std.proofs.Common.{◌≡◌, ℕ, ◌≤◌, List, [], ◌∷◌, ◌++◌, length, take, drop, refl, arith, ◌∙◌, sym, ap, Option, Some, None, length-append}
use Rattle.std.specs.Prelude.{IfSome}
use Rattle.wasi_base.specs.declared.io_kind.IoKind.{IoKind}
use Rattle.wasi_stdin.specs.Shared.{Shared, Reading, Bytes, Ended, Fault, Count, Past, SkipFault, skipped, skipped_in, bytes_read, reading_in, reading_of, after_read, handed_by}
use Rattle.wasi_stdin.specs.declared.answer.Answer.{Answer}
use Rattle.wasi_stdin.specs.declared.answer.Answer.TheVariants as code
use Rattle.wasi_threads.proofs.BytesFacts.{read_bytes}

front : (xs ys : List ℕ) → take (length xs) (xs ++ ys) ≡ xs
front [] [] = refl
front [] (y ∷ ys) = refl
front (x ∷ xs) ys = ap (λ zs. x ∷ zs) (front xs ys)

rest : (xs ys : List ℕ) → drop (length xs) (xs ++ ys) ≡ ys
rest [] [] = refl
rest [] (y ∷ ys) = refl
rest (x ∷ xs) ys = rest xs ys

-- of what is held, so many bytes were handed out and these are left
pub front_within : (n : ℕ) (xs ys zs : List ℕ) → n ≡ length xs → xs ++ ys ≡ zs → n ≤ length zs
front_within n xs ys zs h e = omega (arith, length-append xs ys, ap length e)

pub front_left : (n : ℕ) (xs ys zs : List ℕ) → n ≡ length xs → xs ++ ys ≡ zs → drop n zs ≡ ys
front_left n xs ys zs h e = ap (λ k. drop k zs) h ∙ (ap (drop (length xs)) (sym e) ∙ rest xs ys)

count_same : (n m : ℕ) → Count n ≡ Count m → n ≡ m
count_same n m h = cc

fault_same : (a b : IoKind) → SkipFault a ≡ SkipFault b → a ≡ b
fault_same a b h = cc

-- a skip hands out as many bytes as a read
pub handed_reading : (a : Answer) (r : Reading) → skipped_in a ≡ skipped r → handed_by a ≡ length (bytes_read r)
handed_reading (code.Bytes n) (Bytes bytes) h = count_same n (length bytes) h
handed_reading (code.Bytes n) Ended h = absurd (let e : Count n ≡ Past = h in cc)
handed_reading (code.Bytes n) (Fault kind) h = absurd (let e : Count n ≡ SkipFault kind = h in cc)
handed_reading code.Closed (Bytes bytes) h = absurd (let e : Past ≡ Count (length bytes) = h in cc)
handed_reading code.Closed Ended h = refl
handed_reading code.Closed (Fault kind) h = refl
handed_reading (code.Failed kind) (Bytes bytes) h = absurd (let e : SkipFault kind ≡ Count (length bytes) = h in cc)
handed_reading (code.Failed kind) Ended h = refl
handed_reading (code.Failed kind) (Fault k) h = refl

-- .. which stand at the front
reading_front : (a : Answer) (r : Reading) (left held : List ℕ) → skipped_in a ≡ skipped r → bytes_read r ++ left ≡ held → reading_in a held ≡ r
reading_front (code.Bytes n) (Bytes bytes) left held h e = ap Bytes (ap (λ k. take k held) (count_same n (length bytes) h) ∙ (ap (take (length bytes)) (sym e) ∙ front bytes left))
reading_front (code.Bytes n) Ended left held h e = absurd (let e : Count n ≡ Past = h in cc)
reading_front (code.Bytes n) (Fault kind) left held h e = absurd (let e : Count n ≡ SkipFault kind = h in cc)
reading_front code.Closed (Bytes bytes) left held h e = absurd (let e : Past ≡ Count (length bytes) = h in cc)
reading_front code.Closed Ended left held h e = refl
reading_front code.Closed (Fault kind) left held h e = absurd (let e : Past ≡ SkipFault kind = h in cc)
reading_front (code.Failed kind) (Bytes bytes) left held h e = absurd (let e : SkipFault kind ≡ Count (length bytes) = h in cc)
reading_front (code.Failed kind) Ended left held h e = absurd (let e : SkipFault kind ≡ Past = h in cc)
reading_front (code.Failed kind) (Fault k) left held h e = ap Fault (fault_same kind k h)

reads_front : (a : Answer) (s : Shared) (size : ℕ) → skipped_in a ≡ skipped (reading_of s size) → reading_in a s.held ≡ reading_of s size
reads_front a s size h = reading_front a (reading_of s size) (after_read s size).held s.held h (read_bytes s size)

pub reads_given : (a : Answer) (before s : Shared) (size : ℕ) (given : List ℕ) → s ≡ before → given ≡ before.held → skipped_in a ≡ skipped (reading_of s size) → reading_in a given ≡ reading_of before size
reads_given a before s size given e h k = ap (reading_in a) h ∙ reads_front a before size (k ∙ ap (λ (s : Shared). skipped (reading_of s size)) e)

-- the shared bytes follow what is held
pub held_moves : (h : Option (List ℕ)) (a b : List ℕ) → a ≡ b → IfSome h (λ x. x ≡ a) → IfSome h (λ x. x ≡ b)
held_moves None a b e h = h
held_moves (Some x) a b e h = h ∙ e

pub held_within : (h : Option (List ℕ)) (n : ℕ) (a : List ℕ) → n ≤ length a → IfSome h (λ x. x ≡ a) → IfSome h (λ x. n ≤ length x)
held_within None n a l h = h
held_within (Some x) n a l h = omega (arith, ap length h)
