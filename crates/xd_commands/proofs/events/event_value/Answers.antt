use Rattle.xd_commands.proofs.ReadBack.{event_read}
use Rattle.xd_commands.proofs.events.event_value.Goals as goal

pub returns-clause-back : goal.returns-clause-back
returns-clause-back c = λ fits. event_read _ _ fits c.in_ok-value.ensures
