-- Bytes that join what a sink took.
use Rattle.std.proofs.Common.{◌≡◌, ℕ, zero, suc, ◌+◌, ◌-◌, ◌<◌, ◌≤◌, List, ◌++◌, take, drop, Option, Some, None, Result, Ok, Err, refl, ap, append_assoc, arith, ◌∙◌, sym}
use Rattle.std.proofs.Math.Seq.{take-add}
use Rattle.wasi_base.specs.declared.io_kind.IoKind.{IoKind}
use Rattle.wasi_base.specs.declared.sink.WriteStop.{WriteStop}
use Rattle.wasi_base.specs.Sink.{Limits, with_more, Writes, written, after_write, stop_after, writes_in, written_all, after_write_all}

pub with_more-more : (known : Option (List ℕ)) (a b : List ℕ) → with_more (with_more known a) b ≡ with_more known (a ++ b)
with_more-more None a b = refl
with_more-more (Some known) a b = ap Some (append_assoc known a b)

-- what one more write of the rest adds
pub with_more-take : (known : Option (List ℕ)) (bytes : List ℕ) (a b : ℕ) → with_more (with_more known (take a bytes)) (take b (drop a bytes)) ≡ with_more known (take (a + b) bytes)
with_more-take known bytes a b = with_more-more known (take a bytes) (take b (drop a bytes)) ∙ ap (with_more known) (sym (take-add a b bytes))

-- writes of n bytes that took so many of them, and go on as the rest would from these limits
pub record IsOnTheWay (first : Limits) (n taken : ℕ) (now : Option Limits) : Type 0 where
  pub at : Limits
  pub now_is : now ≡ Some at
  pub most : ℕ
  pub enough : n ≤ taken + most
  pub answers : (writes_in n first n).answer ≡ stop_after taken (writes_in most at (n - taken)).answer
  pub leaves : (writes_in n first n).limits ≡ (writes_in most at (n - taken)).limits

stop_after-zero : (answer : Result (Unit {0}) WriteStop) → answer ≡ stop_after 0 answer
stop_after-zero (Ok done) = refl
stop_after-zero (Err stop) = let e : 0 + stop.taken ≡ stop.taken = omega arith in rw e refl

stop_after-more : (a b : ℕ) (answer : Result (Unit {0}) WriteStop) → stop_after a (stop_after b answer) ≡ stop_after (a + b) answer
stop_after-more a b (Ok done) = refl
stop_after-more a b (Err stop) = let e : a + (b + stop.taken) ≡ a + b + stop.taken = omega arith in rw e refl

pub sets_out : (first : Limits) (n : ℕ) (now : Option Limits) → now ≡ Some first → IsOnTheWay first n 0 now
sets_out first n now is =
    let whole : n ≡ n - 0 = omega arith in
    record {
      at = first;
      now_is = is;
      most = n;
      enough = omega arith;
      answers = stop_after-zero (writes_in n first n).answer ∙ ap (λ (m : ℕ). stop_after 0 (writes_in n first m).answer) whole;
      leaves = ap (λ (m : ℕ). (writes_in n first m).limits) whole;
    }

-- one write of the rest that took some
writes_on : (most : ℕ) (at : Limits) (rest count : ℕ) → rest ≤ most → 0 < count → 0 < rest → Ok count ≡ written at rest → (k : ℕ) × (rest ≤ count + k) × ((writes_in most at rest).answer ≡ stop_after count (writes_in k (after_write at rest) (rest - count)).answer) × ((writes_in most at rest).limits ≡ (writes_in k (after_write at rest) (rest - count)).limits)
writes_on most at zero count enough some more is = absurd (omega arith)
writes_on zero at (suc rest) count enough some more is = absurd (omega arith)
writes_on (suc most) at (suc rest) count enough some more is = (most, omega arith, rw (← is) refl, rw (← is) refl)

pub goes_on : (first : Limits) (n taken count : ℕ) (before after : Option Limits) → taken < n → 0 < count → IsOnTheWay first n taken before → Writes before (n - taken) (Ok count) after → IsOnTheWay first n (taken + count) after
goes_on first n taken count before after within some so_far writes =
    let now = writes.told so_far.at so_far.now_is in
    let enough : n ≤ taken + so_far.most = so_far.enough in
    let on = writes_on so_far.most so_far.at (n - taken) count (omega arith) some (omega arith) now.0 in
    let rest : n - taken - count ≡ n - (taken + count) = omega arith in
    record {
      at = after_write so_far.at (n - taken);
      now_is = now.1;
      most = on.0;
      enough = omega (arith, on.1);
      answers = so_far.answers ∙ ap (stop_after taken) on.2 ∙ stop_after-more taken count _ ∙ ap (λ (m : ℕ). stop_after (taken + count) (writes_in on.0 (after_write so_far.at (n - taken)) m).answer) rest;
      leaves = so_far.leaves ∙ on.3 ∙ ap (λ (m : ℕ). (writes_in on.0 (after_write so_far.at (n - taken)) m).limits) rest;
    }

-- one write of the rest that failed
writes_fail : (most : ℕ) (at : Limits) (rest : ℕ) (kind : IoKind) → rest ≤ most → 0 < rest → Err kind ≡ written at rest → ((writes_in most at rest).answer ≡ Err (record { taken = 0; kind = kind })) × ((writes_in most at rest).limits ≡ after_write at rest)
writes_fail most at zero kind enough more is = absurd (omega arith)
writes_fail zero at (suc rest) kind enough more is = absurd (omega arith)
writes_fail (suc most) at (suc rest) kind enough more is = (rw (← is) refl, rw (← is) refl)

pub stops_here : (first : Limits) (n taken : ℕ) (kind : IoKind) (before after : Option Limits) → taken < n → IsOnTheWay first n taken before → Writes before (n - taken) (Err kind) after → (Err (record { taken = taken; kind = kind }) ≡ written_all first n) × (after ≡ Some (after_write_all first n))
stops_here first n taken kind before after within so_far writes =
    let now = writes.told so_far.at so_far.now_is in
    let enough : n ≤ taken + so_far.most = so_far.enough in
    let fail = writes_fail so_far.most so_far.at (n - taken) kind (omega arith) (omega arith) now.0 in
    let all : taken + 0 ≡ taken = omega arith in
    (sym (so_far.answers ∙ ap (stop_after taken) fail.0 ∙ ap (λ (m : ℕ). Err (record { taken = m; kind = kind })) all), now.1 ∙ ap Some (sym (so_far.leaves ∙ fail.1)))

-- no byte is left
all_out : (most : ℕ) (at : Limits) (rest : ℕ) → rest ≡ 0 → ((writes_in most at rest).answer ≡ Ok tt) × ((writes_in most at rest).limits ≡ at)
all_out most at zero is = (refl, refl)
all_out most at (suc rest) is = absurd (cc)

pub arrives : (first : Limits) (n taken : ℕ) (now : Option Limits) → n ≤ taken → IsOnTheWay first n taken now → (Ok tt ≡ written_all first n) × (now ≡ Some (after_write_all first n))
arrives first n taken now within so_far =
    let none : n - taken ≡ 0 = omega arith in
    let out = all_out so_far.most so_far.at (n - taken) none in
    (sym (so_far.answers ∙ ap (stop_after taken) out.0), so_far.now_is ∙ ap Some (sym (so_far.leaves ∙ out.1)))
