use Rattle.std.proofs.Common.{◌≡◌, length, take, rules, subst, sym}
use Rattle.wasi_reply.proofs.PushedItems.{front_more, front_stays}
use Rattle.wasi_reply.proofs.StringBytes.{pairs_are_bytes}
use Rattle.wasi_reply.proofs.text.push_pairs.Goals as goal

pub returns-in_err-extend_from_slice-clause-in_range : goal.returns-in_err-extend_from_slice-clause-in_range
returns-in_err-extend_from_slice-clause-in_range c = pairs_are_bytes c.args.pairs.now

pub returns-in_err-push-clause-in_range : goal.returns-in_err-push-clause-in_range
returns-in_err-push-clause-in_range c = pairs_are_bytes c.args.pairs.now

pub returns-in_err-push_pair-clause-err : goal.returns-in_err-push_pair-clause-err
returns-in_err-push_pair-clause-err c =
    let before = front_more c.args.text.now.items c.loop-pair.text.items c.loop-pair.before c.loop-pair.invariant.front in
    let pushed = subst (λ text. take (length c.args.text.now.items) text ≡ c.args.text.now.items) (sym c.in_ok-push.ensures.items) before in
    search (rules, front_stays c.args.text.now.items c.push.new.self.items c.push_pair.new.text.items pushed c.in_err-push_pair.ensures.err)

pub returns-in_err-push_pair-clause-in_range : goal.returns-in_err-push_pair-clause-in_range
returns-in_err-push_pair-clause-in_range c = pairs_are_bytes c.args.pairs.now

pub returns-clause-in_range : goal.returns-clause-in_range
returns-clause-in_range c = pairs_are_bytes c.args.pairs.now
