use Rattle.std.proofs.Common.{◌≡◌, ◌∙◌, true, sym, ap, arith}
use Rattle.wasi_pipeline.specs.Feeding.{fed_by, size_fed}
use Rattle.wasi_pipeline.proofs.FeedingFacts.{gave_in, fault_in, size_is, gave_is, is_fed}
use Rattle.wasi_pipeline.proofs.feed.Feeder.feed.Goals as goal

pub returns-in-Gave-clause-fed : goal.returns-in-Gave-clause-fed
returns-in-Gave-clause-fed g c =
    let old = c.args.channel.now in
    let reader : old.reader_open ≡ true = grind arith in
    let writer : old.writer_open ≡ true = grind arith in
    let both = gave_in c.deliver.new.self.mode c.deliver.new.self.held c.in-Gave.count c.in-Gave.ensures.outcome in
    let size : size_fed c.args.most old ≡ c.min-size.result = grind (arith, size_is c.args.most old reader writer) in
    is_fed _ _ c.args.most old _ _ c.min-size.result _ size (grind arith) c.deliver.ensures.gives
    (gave_is old c.hand_out.new.link c.in-Gave.count c.deliver.new.self.held c.hand_out.ensures.link both.1 ∙ ap (λ given. fed_by given old) (sym both.0))

pub returns-in-Fault-clause-fed : goal.returns-in-Fault-clause-fed
returns-in-Fault-clause-fed g c =
    let old = c.args.channel.now in
    let reader : old.reader_open ≡ true = grind arith in
    let writer : old.writer_open ≡ true = grind arith in
    let fault = fault_in c.deliver.new.self.mode c.deliver.new.self.held c.in-Fault.kind c.in-Fault.ensures.outcome in
    let size : size_fed c.args.most old ≡ c.min-size.result = grind (arith, size_is c.args.most old reader writer) in
    is_fed _ _ c.args.most old _ _ c.min-size.result _ size (grind arith) c.deliver.ensures.gives (ap (λ given. fed_by given old) (sym fault))
