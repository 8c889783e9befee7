use Rattle.std.proofs.Common.{arith}
use Rattle.xd_value_loads.proofs.Seats.{several_left}
use Rattle.xd_value_loads.proofs.reading.last.Goals as goal

pub returns-then-len-gt1 : goal.returns-then-len-gt1
returns-then-len-gt1 c = (0, several_left c.args.stack.now.values.items c.args.stack.now.marks.items c.args.after.now c.requires.stack (omega (arith, c.if-len-gt1.true)), omega arith)
