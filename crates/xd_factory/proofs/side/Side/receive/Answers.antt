use Rattle.std.proofs.Common.{Ok, Err}
use Rattle.xd_factory.specs.View.{slot_of_number, parity_of}
use Rattle.xd_factory.proofs.Keeping.{received_keeps}
use Rattle.xd_factory.proofs.side.Side.receive.Goals as goal

pub returns-in-Ok-clause-history : goal.returns-in-Ok-clause-history
returns-in-Ok-clause-history c = λ h k. received_keeps (slot_of_number c.args.self.now) (slot_of_number c.receive_entry.new.self) (parity_of c.args.self.now) (parity_of c.receive_entry.new.self) c.args.number (Ok c.in-Ok.got) h c.in-Ok.ensures.rest.parity c.in-Ok.ensures.answer c.in-Ok.ensures.slots k

pub returns-in-Err-clause-history : goal.returns-in-Err-clause-history
returns-in-Err-clause-history c = λ h k. received_keeps (slot_of_number c.args.self.now) (slot_of_number c.receive_entry.new.self) (parity_of c.args.self.now) (parity_of c.receive_entry.new.self) c.args.number (Err c.in-Err.fault) h c.in-Err.ensures.rest.parity c.in-Err.ensures.answer c.in-Err.ensures.slots k
