use Rattle.xd_factory.proofs.Dumps.{dumped_short}
use Rattle.xd_factory.proofs.side.Side.send.Goals as goal

pub of-requires-clause-payload : goal.of-requires-clause-payload
of-requires-clause-payload c = dumped_short _ _ c.in-Ok.ensures.dumped
