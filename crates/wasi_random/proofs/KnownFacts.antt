-- Draws of known generators are those of their streams.
use Rattle.std.proofs.Common.{◌≡◌, ◌≤◌, ◌<◌, ℕ, zero, suc, ◌+◌, ◌%◌, ◌^◌, List, [], ◌∷◌, ◌++◌, length, take, set, get_or, map, refl, sym, ap, ◌∙◌, arith, add-one}
use Rattle.std.proofs.lemmas.List.{append_assoc, append-nil, map-append, take_all}
use Rattle.std.proofs.Math.Seq.{take-suc, take-suc-set}
use Rattle.rand_core.specs.Stream.{Stream, next_u32, next_u64}
use Rattle.rand_core.specs.Steps.{steps_u32}
use Rattle.rand_core.proofs.StepsLemmas.{next_u32-stream_of, next_u64-stream_of}
use Rattle.rand.specs.Draw.{next_u8}
use Rattle.rand_chacha.specs.ChaCha.{ChaCha, next_word}
use Rattle.wasi_random.specs.Cycle.{cycle_steps}
use Rattle.wasi_random.specs.Draws.{draws}
use Rattle.wasi_random.specs.declared.known.KnownGenerator.{KnownGenerator}
use Rattle.wasi_random.specs.declared.known.KnownGenerator.TheVariants.{Cycle, Seeded}
use Rattle.wasi_random.specs.Known.{known_u32, known_u64, known_byte, known_bytes, known_stream, next_words, DrawsAreOfTheStream}

word : (it : KnownGenerator) → next_u32 (known_stream it) ≡ ((known_u32 it).0, known_stream (known_u32 it).1)
word (Cycle cycle) = next_u32-stream_of cycle_steps cycle
word (Seeded chacha) = next_u32-stream_of (steps_u32 (next_word 10)) chacha

double : (it : KnownGenerator) → next_u64 (known_stream it) ≡ ((known_u64 it).0, known_stream (known_u64 it).1)
double (Cycle cycle) = next_u64-stream_of cycle_steps cycle
double (Seeded chacha) = next_u64-stream_of (steps_u32 (next_word 10)) chacha

byte : (it : KnownGenerator) → next_u8 (known_stream it) ≡ ((known_byte it).0, known_stream (known_byte it).1)
byte it = ap (λ (p : ℕ × Stream). (p.0 % 2 ^ 8, p.1)) (word it)

bytes : (n : ℕ) (it : KnownGenerator) → draws n (known_stream it) ≡ ((known_bytes n it).0, known_stream (known_bytes n it).1)
bytes zero it = refl
bytes (suc n) it =
    ap (λ (p : List ℕ × Stream). (p.0 ++ (next_u8 p.1).0 ∷ [], (next_u8 p.1).1)) (bytes n it)
    ∙ ap (λ (p : ℕ × Stream). ((known_bytes n it).0 ++ p.0 ∷ [], p.1)) (byte (known_bytes n it).1)

pub draws_are : DrawsAreOfTheStream
draws_are = record { bytes = bytes; number = double }

-- one byte more
pub known_more : (n : ℕ) (first before after : KnownGenerator) (front : List ℕ) (last : ℕ) → (front, before) ≡ known_bytes n first → (last, after) ≡ known_byte before → (front ++ last ∷ [], after) ≡ known_bytes (n + 1) first
known_more n first before after front last so_far now =
    ap (λ (p : ℕ × KnownGenerator). (front ++ p.0 ∷ [], p.1)) now
    ∙ ap (λ (p : List ℕ × KnownGenerator). (p.0 ++ (known_byte p.1).0 ∷ [], (known_byte p.1).1)) so_far
    ∙ ap (λ (k : ℕ). known_bytes k first) (sym (add-one n))

-- the bytes of ChaCha are the low ones of its words
abbrev pub low : ℕ → ℕ
low word = word % 2 ^ 8

pub bytes_of_words : (n : ℕ) (chacha : ChaCha) → known_bytes n (Seeded chacha) ≡ (map low (next_words n chacha).0, Seeded (next_words n chacha).1)
bytes_of_words zero chacha = refl
bytes_of_words (suc n) chacha =
    let last = next_word 10 (next_words n chacha).1 in
    rw (bytes_of_words n chacha, map-append low (next_words n chacha).0 (last.0 ∷ [])) refl

-- so many bytes, and then so many more
pub known_both : (m n : ℕ) (it : KnownGenerator) → known_bytes (m + n) it ≡ ((known_bytes m it).0 ++ (known_bytes n (known_bytes m it).1).0, (known_bytes n (known_bytes m it).1).1)
known_both m zero it =
    let none : m + 0 ≡ m = omega arith in
    rw (none, append-nil (known_bytes m it).0) refl
known_both m (suc n) it =
    let one : m + suc n ≡ suc (m + n) = omega arith in
    let middle = known_bytes m it in
    let rest = known_bytes n middle.1 in
    rw (one, known_both m n it, append_assoc middle.0 rest.0 ((known_byte rest.1).0 ∷ [])) refl

-- one word more
pub word_more : (n : ℕ) (first before after : ChaCha) (words : List ℕ) (word : ℕ) → n < length words → (take n words, before) ≡ next_words n first → (word, after) ≡ next_word 10 before → (take (n + 1) (set words n word), after) ≡ next_words (n + 1) first
word_more n first before after words word below so_far now =
    rw (add-one n, take-suc-set words n word below)
    (ap (λ (p : ℕ × ChaCha). (take n words ++ p.0 ∷ [], p.1)) now
    ∙ ap (λ (p : List ℕ × ChaCha). (p.0 ++ (next_word 10 p.1).0 ∷ [], (next_word 10 p.1).1)) so_far)

-- .. and its low byte
pub byte_more : (front before after words : List ℕ) (k byte : ℕ) → k < length words → before ≡ front ++ map low (take k words) → byte ≡ get_or words k 0 % 2 ^ 8 → after ≡ before ++ byte ∷ [] → after ≡ front ++ map low (take (k + 1) words)
byte_more front before after words k byte below so_far is_low pushed =
    let word = get_or words k 0 in
    let more : take (k + 1) words ≡ take k words ++ word ∷ [] = rw (add-one k) (take-suc words k 0 below) in
    rw (pushed, so_far, is_low, more, map-append low (take k words) (word ∷ []), append_assoc front (map low (take k words)) (low word ∷ [])) refl

-- the bytes of a batch of words, and the generator after them
pub batch_bytes : (count k : ℕ) (first after : ChaCha) (front bytes words : List ℕ) → length words ≤ k → bytes ≡ front ++ map low (take k words) → (words, after) ≡ next_words count first → bytes ≡ front ++ (known_bytes count (Seeded first)).0
batch_bytes count k first after front bytes words whole pushed drawn =
    let same : words ≡ (next_words count first).0 = ap (λ (p : List ℕ × ChaCha). p.0) drawn in
    rw (pushed, take_all k words whole, same, bytes_of_words count first) refl

pub batch_left : (count : ℕ) (first after : ChaCha) (words : List ℕ) → (words, after) ≡ next_words count first → Seeded after ≡ (known_bytes count (Seeded first)).1
batch_left count first after words drawn =
    let same : after ≡ (next_words count first).1 = ap (λ (p : List ℕ × ChaCha). p.1) drawn in
    rw (same, bytes_of_words count first) refl

-- a batch more
pub batch_more : (m n total : ℕ) (first before after : KnownGenerator) (front bytes : List ℕ) → (front, before) ≡ known_bytes m first → bytes ≡ front ++ (known_bytes n before).0 → after ≡ (known_bytes n before).1 → total ≡ m + n → (bytes, after) ≡ known_bytes total first
batch_more m n total first before after front bytes so_far pushed left is_total =
    let whole : front ≡ (known_bytes m first).0 = ap (λ (p : List ℕ × KnownGenerator). p.0) so_far in
    let stands : before ≡ (known_bytes m first).1 = ap (λ (p : List ℕ × KnownGenerator). p.1) so_far in
    rw (is_total, known_both m n first, pushed, left, whole, stands) refl
