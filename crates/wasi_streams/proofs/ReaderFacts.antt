-- The item that a read of the reader takes.
use Rattle.std.proofs.Common.{◌≡◌, ℕ, ◌-◌, ◌<◌, List, [], ◌∷◌, length, drop, Option, Some, refl, ap, sym, ◌∙◌, arith, length-drop}
use Rattle.wasi_base.specs.Source.{Given, Bytes}
use Rattle.wasi_streams.specs.declared.reader_turn.Waiting.TheVariants as waiting
use Rattle.wasi_streams.specs.Reader.{Reader, next_item, channel_after, counted, item_bytes}

next_kept : (kept : List ℕ) (channel : Option Given) → 0 < length kept → next_item kept channel ≡ Some (Bytes kept)
next_kept [] channel some = absurd (omega arith)
next_kept (b ∷ kept) channel some = refl

channel_stays : (kept : List ℕ) (channel : Option Given) → 0 < length kept → channel_after kept channel ≡ channel
channel_stays [] channel some = absurd (omega arith)
channel_stays (b ∷ kept) channel some = refl

pub left : (items : List ℕ) (from : ℕ) → from < length items → 0 < length (drop from items)
left items from some = omega (arith, length-drop from items)

pub kept_counted : (items : List ℕ) (from n : ℕ) (channel : Option Given) → from < length items → n ≡ length items → Some (waiting.Bytes (n - from)) ≡ counted (next_item (drop from items) channel)
kept_counted items from n channel some is = ap (λ m. Some (waiting.Bytes m)) (ap (λ m. m - from) is ∙ sym (length-drop from items)) ∙ sym (ap counted (next_kept (drop from items) channel (left items from some)))

pub kept_stays : {S : Type 0} (r : Reader S) → 0 < length r.kept → r ≡ record { source = r.source; channel = channel_after r.kept r.channel; kept = item_bytes (next_item r.kept r.channel); ended = r.ended; closed = r.closed }
kept_stays r some = ap (λ c. record r { channel = c }) (sym (channel_stays r.kept r.channel some)) ∙ ap (λ k. record r { channel = channel_after r.kept r.channel; kept = k }) (sym (ap item_bytes (next_kept r.kept r.channel some)))
