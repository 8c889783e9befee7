use Rattle.xd_factory.specs.View.{slot_of_number, parity_of}
use Rattle.xd_factory.proofs.Keeping.{closed_keeps}
use Rattle.xd_factory.proofs.side.Side.close.Goals as goal

pub returns-in-Say-clause-history : goal.returns-in-Say-clause-history
returns-in-Say-clause-history c = λ h k. closed_keeps (slot_of_number c.args.self.now) (slot_of_number c.close_entry.new.self) (parity_of c.args.self.now) (parity_of c.close_entry.new.self) c.args.number h c.close_entry.ensures.rest.parity c.close_entry.ensures.slots k

pub returns-in-Nothing-clause-history : goal.returns-in-Nothing-clause-history
returns-in-Nothing-clause-history c = λ h k. closed_keeps (slot_of_number c.args.self.now) (slot_of_number c.close_entry.new.self) (parity_of c.args.self.now) (parity_of c.close_entry.new.self) c.args.number h c.close_entry.ensures.rest.parity c.close_entry.ensures.slots k
