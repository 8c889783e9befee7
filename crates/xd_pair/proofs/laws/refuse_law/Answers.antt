use Rattle.xd_pair.proofs.Lifting.{odd_refuses, even_refuses}
use Rattle.xd_pair.proofs.laws.refuse_law.Goals as goal

pub returns-clause-odd : goal.returns-clause-odd
returns-clause-odd c = odd_refuses

pub returns-clause-even : goal.returns-clause-even
returns-clause-even c = even_refuses
