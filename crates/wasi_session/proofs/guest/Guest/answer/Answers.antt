use Rattle.std.proofs.Common.{ap}
use Rattle.wasi_host.specs.Host.{Guest}
use Rattle.wasi_session.proofs.guest.Guest.answer.Goals as goal

pub returns-in-On-clause-done : goal.returns-in-On-clause-done
returns-in-On-clause-done c = rw (c.in-On.is, ap (λ (guest : Guest). guest.sources) c.answer_at.ensures.rest) c.answer_at.ensures.done
