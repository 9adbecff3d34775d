use Rattle.std.proofs.Common.{◌≡◌, length, drop, sym, ap, ◌∙◌}
use Rattle.wasi_stdin.specs.Shared.{Shared, poll_of, bytes_polled, after_poll, is_waiting}
use Rattle.wasi_threads.proofs.BytesFacts.{polling_bytes}
use Rattle.wasi_threads.proofs.ShareFacts.{front_within, front_left, held_moves, held_within}
use Rattle.wasi_threads.proofs.input.Input.poll_read.Goals as goal

pub advance-requires : goal.advance-requires
advance-requires c =
    let s : Shared = c.self.inside.core in
    let w = c.args.wait.now in
    let count : c.handed_by_poll.result ≡ length (bytes_polled (poll_of s w c.args.room)) = c.handed_by_poll.ensures ∙ c.poll_read-answer.ensures.count in
    record { within = held_within c.self.inside.held c.handed_by_poll.result s.held (front_within c.handed_by_poll.result (bytes_polled (poll_of s w c.args.room)) (after_poll s w c.args.room).held s.held count (polling_bytes (is_waiting w s.deliveries) s c.args.room)) c.self.invariant }

pub invariant_of-self : goal.invariant_of-self
invariant_of-self c =
    let s : Shared = c.self.inside.core in
    let w = c.args.wait.now in
    let count : c.handed_by_poll.result ≡ length (bytes_polled (poll_of s w c.args.room)) = c.handed_by_poll.ensures ∙ c.poll_read-answer.ensures.count in
    let left : drop c.handed_by_poll.result s.held ≡ (after_poll s w c.args.room).held = front_left c.handed_by_poll.result (bytes_polled (poll_of s w c.args.room)) (after_poll s w c.args.room).held s.held count (polling_bytes (is_waiting w s.deliveries) s c.args.room) in
    held_moves c.advance.new.held (drop c.handed_by_poll.result s.held) c.poll_read-answer.new.self.held (left ∙ sym (ap (λ (s : Shared). s.held) c.poll_read-answer.ensures.after)) (c.advance.ensures s.held c.self.invariant)
