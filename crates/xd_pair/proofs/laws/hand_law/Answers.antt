use Rattle.xd_pair.proofs.Lifting.{odd_hands, even_hands}
use Rattle.xd_pair.proofs.laws.hand_law.Goals as goal

pub returns-clause-odd : goal.returns-clause-odd
returns-clause-odd c = odd_hands

pub returns-clause-even : goal.returns-clause-even
returns-clause-even c = even_hands
