use Rattle.std.proofs.Common.{false, None}
use Rattle.std.proofs.Math.Path.{fun_ext}
use Rattle.xd_factory.specs.Numbers.{first_number}
use Rattle.xd_factory.specs.Slot.{Unseen}
use Rattle.xd_factory.specs.View.{fault_of, is_finished, next_of, parity_of, slot_of_number}
use Rattle.xd_factory.proofs.SideTables.{tables}
use Rattle.xd_gateway.proofs.gateway.Gateway.new.Goals as goal

pub returns-clause-channels : goal.returns-clause-channels
returns-clause-channels g c =
    let s = c.new.result in
    tables (slot_of_number s) (λ n. Unseen) (parity_of s) c.args.parity (next_of s) (first_number c.args.parity) (fault_of s) None (is_finished s) false
    (fun_ext c.new.ensures.slots) c.new.ensures.parity c.new.ensures.next c.new.ensures.good c.new.ensures.open
