use Rattle.std.proofs.Common.{[], take}
use Rattle.xd_run.specs.Units.{grouped}
use Rattle.xd_scope.specs.Stands.{AreGrouped}
use Rattle.xd_scope.proofs.groups.grouped.Given as goal

abbrev pub invariant-loop-test : goal.invariant-loop-test
invariant-loop-test l = AreGrouped (grouped l.kind 0 (take l.test l.ids) []) l.places l.units.items
