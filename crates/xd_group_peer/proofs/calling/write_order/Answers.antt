use Rattle.std.proofs.Common.{Ok, Err, refl}
use Rattle.xd_value.specs.View.{view}
use Rattle.xd_group_peer.proofs.Calls.{order_written, not_memory}
use Rattle.xd_group_peer.proofs.calling.write_order.Goals as goal

pub returns-in-Ok-clause-writes : goal.returns-in-Ok-clause-writes
returns-in-Ok-clause-writes g c e is can =
    order_written g.N.Sink.sunk g.N.Sink.faults c.args.gateway.now c.say.new.self (Ok tt) (view c.args.value.now) e c.in-Ok.ensures.broken c.in-Ok.ensures.says is can (λ z. absurd (cc z))

pub returns-in-Err-SendFault-clause-writes : goal.returns-in-Err-SendFault-clause-writes
returns-in-Err-SendFault-clause-writes g c e is can =
    order_written g.N.Sink.sunk g.N.Sink.faults c.args.gateway.now c.say.new.self (Err c.in-Err-SendFault.field-0) (view c.args.value.now) e c.in-Err-SendFault.ensures.broken c.in-Err-SendFault.ensures.says is can (λ z. not_memory c.in-Err-SendFault.field-0 (Err c.in-Err-SendFault.field-0) c.in-Err-SendFault.field-0-is refl z)
