use Rattle.std.proofs.Common.{◌-◌, ◌+◌, ap, ◌∙◌, length, arith}
use Rattle.wasi_fs_nodes.specs.Climbs.{climbs_to}
use Rattle.wasi_fs_nodes.proofs.BelowFacts.{climbs_on}
use Rattle.wasi_fs_nodes.proofs.nodes.Nodes.is_below.Goals as goal

pub loop-preserved : goal.loop-preserved
loop-preserved c =
    ap (climbs_to (length c.args.self.now - (c.loop.counter + 1)) c.args.self.now c.args.top) c.parent-here.ensures
    ∙ climbs_on (length c.args.self.now) c.loop.counter c.args.self.now c.args.top c.loop.here _ (omega (arith, c.len-end.ensures)) c.if-here-top.false (λ e. c.if-links-eq0.false (c.links.ensures.count ∙ e)) c.loop.invariant
