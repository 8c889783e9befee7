use Rattle.xd_factory.proofs.Dumps.{dumped_short}
use Rattle.xd_gateway.proofs.calls.call_payload.Goals as goal

pub returns-in-Ok-dumps-clause-short : goal.returns-in-Ok-dumps-clause-short
returns-in-Ok-dumps-clause-short c = dumped_short _ _ c.in-Ok-dumps.ensures.dumped
