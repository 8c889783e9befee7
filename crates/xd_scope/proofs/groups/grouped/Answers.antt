use Rattle.std.proofs.Common.{[], List, take, ap, ◌∙◌, subst}
use Rattle.std.specs.Str.{chars}
use Rattle.xd_run.specs.Scopes.{scope_of}
use Rattle.xd_run.specs.Units.{Group, grouped}
use Rattle.xd_scope.specs.Stands.{AreGrouped}
use Rattle.xd_scope.proofs.Grouped.{grouped-next}
use Rattle.xd_scope.proofs.groups.grouped.Goals as goal

pub loop-test-preserved : goal.loop-test-preserved
loop-test-preserved c =
    let next = grouped-next c.args.kind c.args.ids.now c.loop-test.test c.index-ids-test.result (chars c.scope_of-scope.result.now) c.loop-test-test.true c.index-ids-test.is
    (c.scope_of-scope.ensures ∙ ap (scope_of c.args.kind) c.as_str.ensures.characters) in
    subst (λ (gs : List Group). AreGrouped gs c.add.new.places c.add.new.units.items) next (c.in_ok-add.ensures (grouped c.args.kind 0 (take c.loop-test.test c.args.ids.now) []) c.loop-test.invariant)
