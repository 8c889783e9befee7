use Rattle.std.proofs.Common.{◌≡◌, drop}
use Rattle.xd_spec.specs.Spec.{is_set}
use Rattle.xd_spec.proofs.draft.is_set.Given as goal

abbrev pub invariant-loop-variable : goal.invariant-loop-variable
invariant-loop-variable l = is_set l.name l.env ≡ is_set l.name (drop l.variable-index l.env)
