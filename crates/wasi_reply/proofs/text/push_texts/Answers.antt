use Rattle.std.proofs.Common.{◌≡◌, length, take, rules, subst, sym}
use Rattle.wasi_reply.proofs.PushedItems.{front_more, front_stays}
use Rattle.wasi_reply.proofs.StringBytes.{texts_are_bytes}
use Rattle.wasi_reply.proofs.text.push_texts.Goals as goal

pub returns-in_err-extend_from_slice-clause-in_range : goal.returns-in_err-extend_from_slice-clause-in_range
returns-in_err-extend_from_slice-clause-in_range c = texts_are_bytes c.args.list.now

pub returns-in_err-push-clause-in_range : goal.returns-in_err-push-clause-in_range
returns-in_err-push-clause-in_range c = texts_are_bytes c.args.list.now

pub returns-in_err-push_digits_or_dash-clause-err : goal.returns-in_err-push_digits_or_dash-clause-err
returns-in_err-push_digits_or_dash-clause-err c =
    let before = front_more c.args.text.now.items c.loop-item.text.items c.loop-item.before c.loop-item.invariant.front in
    let pushed = subst (λ text. take (length c.args.text.now.items) text ≡ c.args.text.now.items) (sym c.in_ok-push.ensures.items) before in
    search (rules, front_stays c.args.text.now.items c.push.new.self.items c.push_digits_or_dash.new.text.items pushed c.in_err-push_digits_or_dash.ensures.err)

pub returns-in_err-push_digits_or_dash-clause-in_range : goal.returns-in_err-push_digits_or_dash-clause-in_range
returns-in_err-push_digits_or_dash-clause-in_range c = texts_are_bytes c.args.list.now

pub returns-clause-in_range : goal.returns-clause-in_range
returns-clause-in_range c = texts_are_bytes c.args.list.now
