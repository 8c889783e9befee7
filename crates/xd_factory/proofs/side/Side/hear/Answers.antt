use Rattle.xd_factory.proofs.Naming.{is_in_one}
use Rattle.xd_factory.proofs.side.Side.hear.Goals as goal

pub hear_close-requires : goal.hear_close-requires
hear_close-requires c = c.requires c.in-Close.number (rw c.in-Close.is (is_in_one c.in-Close.number))

pub hear_last-requires : goal.hear_last-requires
hear_last-requires c = c.requires c.in-Last.number (rw c.in-Last.is (is_in_one c.in-Last.number))
