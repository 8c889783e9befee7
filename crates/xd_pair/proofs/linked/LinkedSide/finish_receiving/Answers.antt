use Rattle.xd_pair.proofs.Handing.{finish_hands}
use Rattle.xd_pair.proofs.linked.LinkedSide.finish_receiving.Goals as goal

pub returns-in-Ok-clause-hands : goal.returns-in-Ok-clause-hands
returns-in-Ok-clause-hands c = λ odd a wire k. finish_hands odd c.args.self.now.side a wire c.in-Ok.owed.items c.in-Ok.ensures.owed k
