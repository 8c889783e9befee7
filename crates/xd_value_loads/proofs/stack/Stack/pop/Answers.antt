use Rattle.xd_value_loads.proofs.Seats.{popped}
use Rattle.xd_value_loads.proofs.stack.Stack.pop.Goals as goal

pub returns-clause-cells : goal.returns-clause-cells
returns-clause-cells c = (popped _ _ _ _ _ _ c.in_ok-value.ensures.items c.in_ok-mark.ensures.items c.requires.stack).cells_are

pub returns-clause-fits : goal.returns-clause-fits
returns-clause-fits c = (popped _ _ _ _ _ _ c.in_ok-value.ensures.items c.in_ok-mark.ensures.items c.requires.stack).fit

pub returns-clause-stack : goal.returns-clause-stack
returns-clause-stack c = (popped _ _ _ _ _ _ c.in_ok-value.ensures.items c.in_ok-mark.ensures.items c.requires.stack).left
