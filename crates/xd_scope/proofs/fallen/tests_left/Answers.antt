use Rattle.std.proofs.Common.{ℕ, get_or, refl}
use Rattle.std.specs.BTreeSet.{contains}
use Rattle.std.specs.Ordering.{nat_cmp}
use Rattle.xd_scope.proofs.Remains.{filter-one_more}
use Rattle.xd_scope.proofs.fallen.tests_left.Goals as goal

pub loop-test-preserved : goal.loop-test-preserved
loop-test-preserved c =
    filter-one_more (λ (t : ℕ). contains nat_cmp c.args.items.now t) c.args.tests.now c.loop-test.test-index (get_or c.args.tests.now c.loop-test.test-index 0) c.loop-test.left.items c.add_if_left.new.tests.items
    c.loop-test-test.true refl c.loop-test.invariant c.in_ok-add_if_left.ensures
