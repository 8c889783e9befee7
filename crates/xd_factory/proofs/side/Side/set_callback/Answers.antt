use Rattle.xd_factory.specs.View.{slot_of_number, parity_of}
use Rattle.xd_factory.proofs.Keeping.{hooked_ok, hooked_err}
use Rattle.xd_factory.proofs.side.Side.set_callback.Goals as goal

pub returns-in-Ok-clause-history : goal.returns-in-Ok-clause-history
returns-in-Ok-clause-history c = λ h k. hooked_ok (slot_of_number c.args.self.now) (slot_of_number c.hook_entry.new.self) (parity_of c.args.self.now) (parity_of c.hook_entry.new.self) c.args.number c.in-Ok.waiting h c.in-Ok.ensures.rest.parity c.in-Ok.ensures.items c.in-Ok.ensures.end c.in-Ok.ensures.accepted c.in-Ok.ensures.slots k

pub returns-in-Err-clause-history : goal.returns-in-Err-clause-history
returns-in-Err-clause-history c = λ h k. hooked_err (slot_of_number c.args.self.now) (slot_of_number c.hook_entry.new.self) (parity_of c.args.self.now) (parity_of c.hook_entry.new.self) c.args.number c.in-Err.fault h c.in-Err.ensures.rest.parity c.in-Err.ensures.refused c.in-Err.ensures.slots k
