use Rattle.std.proofs.Common.{◌≡◌, length, drop, sym, ap, ◌∙◌}
use Rattle.wasi_stdin.specs.Shared.{Shared, reading_of, bytes_read, after_read}
use Rattle.wasi_threads.proofs.BytesFacts.{read_bytes}
use Rattle.wasi_threads.proofs.ShareFacts.{handed_reading, front_within, front_left, held_moves, held_within}
use Rattle.wasi_threads.proofs.input.Input.skip.Goals as goal

pub advance-requires : goal.advance-requires
advance-requires c =
    let s : Shared = c.self.inside.core in
    let count : c.handed.result ≡ length (bytes_read (reading_of s c.args.size)) = c.handed.ensures ∙ handed_reading _ (reading_of s c.args.size) c.skip-answer.ensures.answer in
    record { within = held_within c.self.inside.held c.handed.result s.held (front_within c.handed.result (bytes_read (reading_of s c.args.size)) (after_read s c.args.size).held s.held count (read_bytes s c.args.size)) c.self.invariant }

pub invariant_of-self : goal.invariant_of-self
invariant_of-self c =
    let s : Shared = c.self.inside.core in
    let count : c.handed.result ≡ length (bytes_read (reading_of s c.args.size)) = c.handed.ensures ∙ handed_reading _ (reading_of s c.args.size) c.skip-answer.ensures.answer in
    let left : drop c.handed.result s.held ≡ (after_read s c.args.size).held = front_left c.handed.result (bytes_read (reading_of s c.args.size)) (after_read s c.args.size).held s.held count (read_bytes s c.args.size) in
    held_moves c.advance.new.held (drop c.handed.result s.held) c.skip-answer.new.self.held (left ∙ sym (ap (λ (s : Shared). s.held) c.skip-answer.ensures.after)) (c.advance.ensures s.held c.self.invariant)
