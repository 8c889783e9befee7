use Rattle.xd_factory.specs.View.{slot_of_number}
use Rattle.xd_factory.proofs.Entries.{shut_closed, shut_last}
use Rattle.xd_factory.proofs.side.Side.shut.Goals as goal

pub returns-in-Ok-clause-closed : goal.returns-in-Ok-clause-closed
returns-in-Ok-clause-closed c = λ q end. shut_closed c.args.self.now.parity c.args.number q (slot_of_number c.args.self.now) end (slot_of_number c.mark_seen.new.self q) c.requires.absent (c.in-Ok.ensures.slots q)

pub returns-in-Ok-clause-last : goal.returns-in-Ok-clause-last
returns-in-Ok-clause-last c = λ q. shut_last c.args.self.now.parity c.args.number q (slot_of_number c.args.self.now) (slot_of_number c.mark_seen.new.self q) c.requires.absent (c.in-Ok.ensures.slots q)
