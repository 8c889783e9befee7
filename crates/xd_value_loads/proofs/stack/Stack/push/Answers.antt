use Rattle.xd_value_loads.proofs.Seats.{pushed_cells, pushed_seats}
use Rattle.xd_value_loads.proofs.stack.Stack.push.Goals as goal

pub returns-clause-cells : goal.returns-clause-cells
returns-clause-cells c = pushed_cells _ _ _ _ _ _ c.in_ok-push.ensures.items c.in_ok-push-2.ensures.items c.requires.stack

pub returns-clause-stack : goal.returns-clause-stack
returns-clause-stack c =
    pushed_seats _ _ _ _ _ _ c.in_ok-push.ensures.items c.in_ok-push-2.ensures.items c.requires.stack (record { measured = c.requires.measured; known = c.new-keys.ensures _ })
