use Rattle.std.proofs.Common.{refl}
use Rattle.xd_replay.proofs.checking.check.Goals as goal

pub check_with-requires-clause-fresh : goal.check_with-requires-clause-fresh
check_with-requires-clause-fresh c = c.new.ensures _ c.in-Each.is refl refl

pub check_with-requires-in-Load-clause-fresh : goal.check_with-requires-in-Load-clause-fresh
check_with-requires-in-Load-clause-fresh c = c.new-in-Load.ensures _ c.in-Load.is refl refl refl

pub check_with-requires-in-LoadScope-clause-fresh : goal.check_with-requires-in-LoadScope-clause-fresh
check_with-requires-in-LoadScope-clause-fresh c = c.new-mode.ensures _ refl refl refl refl refl

pub check_with-requires-in-WorkSteal-clause-fresh : goal.check_with-requires-in-WorkSteal-clause-fresh
check_with-requires-in-WorkSteal-clause-fresh c = c.new-in-WorkSteal.ensures _ c.in-WorkSteal.is refl
