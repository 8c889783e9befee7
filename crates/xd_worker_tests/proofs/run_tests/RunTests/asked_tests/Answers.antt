use Rattle.std.proofs.Common.{rules, ◌≡◌, ◌<◌, ◌≤◌, ◌+◌, ℕ, List, [], length, take, drop, get_or, true, false, ◌&&◌, refl, sym, subst, ◌∙◌}
use Rattle.std.specs.Prelude.{slice_set}
use Rattle.std.proofs.Math.ListN.{length-set}
use Rattle.xd_worker_tests.specs.Line.{can_ask}
use Rattle.xd_worker_tests.specs.inner.Stands.{AreMarked, all_queued_at, queued_at}
use Rattle.xd_worker_tests.proofs.Giving.{more_tests, all_tests, le_not_below}
use Rattle.xd_worker_tests.proofs.Asking.{more_asked, not_asked, more_queued, more_marked, left_false, right_false, is_marked_in, by_then, by_else}
use Rattle.xd_worker_tests.proofs.run_tests.RunTests.asked_tests.Goals as goal
use Rattle.xd_worker_tests.proofs.run_tests.RunTests.asked_tests.Goals.{then-all, else-all}

pub returns-then-test-size : goal.returns-then-test-size
returns-then-test-size c =
    let ns = c.args.tests.now in
    let i = c.loop-test.test-index in
    let size = length c.args.self.now.stands.items in
    let e : c.len-size.result ≡ length c.args.self.now.stands.items = search rules in
    let le : length c.args.self.now.stands.items ≤ get_or c.args.tests.now c.loop-test.test-index 0 = subst (λ (x : ℕ). x ≤ get_or c.args.tests.now c.loop-test.test-index 0) e c.if-test-size.true in
    subst (λ (l : List ℕ). can_ask size [] l ≡ false) (sym (all_tests ns i c.loop-test-test.true))
    (not_asked size (get_or ns i 0) (take i ns) (drop (i + 1) ns) (left_false _ _ (le_not_below _ _ le)))

pub returns-then-is_marked : goal.returns-then-is_marked
returns-then-is_marked c =
    let ns = c.args.tests.now in
    let i = c.loop-test.test-index in
    let size = length c.args.self.now.stands.items in
    subst (λ (l : List ℕ). can_ask size [] l ≡ false) (sym (all_tests ns i c.loop-test-test.true))
    (not_asked size (get_or ns i 0) (take i ns) (drop (i + 1) ns) (right_false _ _ (is_marked_in _ _ _ _ _ true c.deref.ensures.value c.is_marked.ensures c.if-is_marked.true c.loop-test.invariant.marked)))

pub loop-test-preserved : goal.loop-test-preserved
loop-test-preserved c =
    let ns = c.args.tests.now in
    let i = c.loop-test.test-index in
    let st = c.args.self.now.stands.items in
    let e : c.len-size.result ≡ length c.args.self.now.stands.items = search rules in
    let lt : get_or c.args.tests.now c.loop-test.test-index 0 < length c.args.self.now.stands.items = subst (λ (x : ℕ). get_or c.args.tests.now c.loop-test.test-index 0 < x) e c.if-test-size.false in
    let lt2 : get_or c.args.tests.now c.loop-test.test-index 0 < length c.loop-test.marks.items = subst (λ (x : ℕ). get_or c.args.tests.now c.loop-test.test-index 0 < x) (sym c.loop-test.invariant.size) lt in
    let more = sym (more_tests ns i c.loop-test-test.true) in
    let all : c.if-all.all ≡ (c.loop-test.all && queued_at c.args.self.now.stands.items (get_or c.args.tests.now c.loop-test.test-index 0)) = elim c.if-all.branch [ then-all w ↦ by_then c.loop-test.all _ c.is_queued-queued.result c.if-all.all w.if-all.true w.all-is c.is_queued-queued.ensures | else-all w ↦ by_else c.loop-test.all _ c.if-all.all w.if-all.false (w.all-is ∙ w.if-all.false) ] in
    record {
      size = length-set c.loop-test.marks.items (get_or ns i 0) true ∙ c.loop-test.invariant.size;
      can = subst (λ (l : List ℕ). can_ask (length st) [] l ≡ true) more (more_asked (length st) (get_or ns i 0) (take i ns) c.loop-test.invariant.can lt (is_marked_in _ _ _ _ _ false c.deref.ensures.value c.is_marked.ensures c.if-is_marked.false c.loop-test.invariant.marked));
      all = subst (λ (l : List ℕ). c.if-all.all ≡ all_queued_at st l) more (all ∙ more_queued st (get_or ns i 0) (take i ns) c.loop-test.all c.loop-test.invariant.all);
      marked = subst (λ (l : List ℕ). AreMarked (slice_set c.loop-test.marks.items (get_or ns i 0) true) l) more (more_marked c.loop-test.marks.items _ (get_or ns i 0) (take i ns) lt2 refl c.loop-test.invariant.marked);
    }
