use Rattle.xd_pair.proofs.Lifting.{odd_takes, even_takes}
use Rattle.xd_pair.proofs.laws.take_law.Goals as goal

pub returns-clause-odd : goal.returns-clause-odd
returns-clause-odd c = odd_takes

pub returns-clause-even : goal.returns-clause-even
returns-clause-even c = even_takes
