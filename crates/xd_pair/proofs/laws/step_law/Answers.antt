use Rattle.xd_pair.proofs.Lifting.{odd_moves, even_moves}
use Rattle.xd_pair.proofs.laws.step_law.Goals as goal

pub returns-clause-odd : goal.returns-clause-odd
returns-clause-odd c = odd_moves

pub returns-clause-even : goal.returns-clause-even
returns-clause-even c = even_moves
