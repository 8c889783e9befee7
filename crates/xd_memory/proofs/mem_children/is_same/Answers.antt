use Rattle.std.proofs.Common.{sym}
use Rattle.xd_memory.proofs.MemLemmas.{texts_eq_lengths}
use Rattle.xd_memory.proofs.mem_children.is_same.Goals as goal

pub returns-then-these-those : goal.returns-then-these-those
returns-then-these-those c = sym (texts_eq_lengths _ _ c.if-these-those.true)
