use Rattle.std.proofs.Common.{◌∙◌}
use Rattle.xd_factory.specs.View.{slot_of_number, parity_of}
use Rattle.xd_factory.proofs.Keeping.{lost_keeps}
use Rattle.xd_factory.proofs.side.Side.finish_receiving.Goals as goal

pub returns-in-Ok-clause-history : goal.returns-in-Ok-clause-history
returns-in-Ok-clause-history c = λ h k. lost_keeps (slot_of_number c.args.self.now) (slot_of_number c.refuse_from_now_on.new.self) (parity_of c.args.self.now) (parity_of c.refuse_from_now_on.new.self) h (c.refuse_from_now_on.ensures.same.0 ∙ c.in-Ok.ensures.rest.parity) (λ q. c.refuse_from_now_on.ensures.slots q ∙ c.in-Ok.ensures.slots q) k
