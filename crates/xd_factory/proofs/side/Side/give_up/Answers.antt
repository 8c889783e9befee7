use Rattle.xd_factory.specs.View.{slot_of_number, parity_of}
use Rattle.xd_factory.proofs.Keeping.{given_up_keeps}
use Rattle.xd_factory.proofs.side.Side.give_up.Goals as goal

pub returns-in-Nothing-clause-history : goal.returns-in-Nothing-clause-history
returns-in-Nothing-clause-history c = λ h k. given_up_keeps (slot_of_number c.args.self.now) (slot_of_number c.give_up_entry.new.self) (parity_of c.args.self.now) (parity_of c.give_up_entry.new.self) c.args.number h c.give_up_entry.ensures.rest.parity c.give_up_entry.ensures.slots k

pub returns-in-SayClose-clause-history : goal.returns-in-SayClose-clause-history
returns-in-SayClose-clause-history c = λ h k. given_up_keeps (slot_of_number c.args.self.now) (slot_of_number c.give_up_entry.new.self) (parity_of c.args.self.now) (parity_of c.give_up_entry.new.self) c.args.number h c.give_up_entry.ensures.rest.parity c.give_up_entry.ensures.slots k

pub returns-in-SayLast-clause-history : goal.returns-in-SayLast-clause-history
returns-in-SayLast-clause-history c = λ h k. given_up_keeps (slot_of_number c.args.self.now) (slot_of_number c.give_up_entry.new.self) (parity_of c.args.self.now) (parity_of c.give_up_entry.new.self) c.args.number h c.give_up_entry.ensures.rest.parity c.give_up_entry.ensures.slots k
