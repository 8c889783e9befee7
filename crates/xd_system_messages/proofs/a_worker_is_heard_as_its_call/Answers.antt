use Rattle.xd_system_messages.proofs.Bridge.{says_what_it_tells, waits}
use Rattle.xd_system_messages.proofs.a_worker_is_heard_as_its_call.Goals as goal

pub returns-clause-waits : goal.returns-clause-waits
returns-clause-waits c = waits

pub returns-clause-says : goal.returns-clause-says
returns-clause-says c = says_what_it_tells
