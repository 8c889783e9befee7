use Rattle.std.proofs.Common.{refl}
use Rattle.xd_dist.proofs.linked.run_linked.Goals as goal

pub run_in-requires-clause-fresh : goal.run_in-requires-clause-fresh
run_in-requires-clause-fresh g c = c.new.ensures _ c.in-Each.is refl refl

pub run_in-requires-in-Load-clause-fresh : goal.run_in-requires-in-Load-clause-fresh
run_in-requires-in-Load-clause-fresh g c = c.new-in-Load.ensures _ c.in-Load.is refl refl refl

pub run_in-requires-in-LoadScope-clause-fresh : goal.run_in-requires-in-LoadScope-clause-fresh
run_in-requires-in-LoadScope-clause-fresh g c = c.new-in-LoadScope.ensures _ refl refl refl refl refl

pub run_in-requires-in-WorkSteal-clause-fresh : goal.run_in-requires-in-WorkSteal-clause-fresh
run_in-requires-in-WorkSteal-clause-fresh g c = c.new-in-WorkSteal.ensures _ c.in-WorkSteal.is refl
