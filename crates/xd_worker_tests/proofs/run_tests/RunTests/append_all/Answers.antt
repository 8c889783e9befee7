use Rattle.std.proofs.Common.{◌+◌, ℕ, List, ◌++◌, ◌∷◌, [], take, drop, get_or, sym, subst, ◌∙◌, true, false, Bool, ap}
use Rattle.xd_worker_tests.specs.declared.run_tests.RunTests.{RunTests}
use Rattle.xd_worker_tests.specs.inner.Stands.{Appends}
use Rattle.xd_worker_tests.proofs.Giving.{appends_both, appends_stop, more_tests, all_tests}
use Rattle.xd_worker_tests.proofs.run_tests.RunTests.append_all.Goals as goal

pub returns-then-not-branch-clause-appends : goal.returns-then-not-branch-clause-appends
returns-then-not-branch-clause-appends c =
    let s = c.args.self.now in
    let m = c.loop-test.self in
    let r = c.append.new.self in
    let ns = c.args.tests.now in
    let i = c.loop-test.test-index in
    let one : Appends m.stands.items m.queue.items r.stands.items r.queue.items (get_or ns i 0 ∷ []) false = subst (λ (v : Bool). Appends m.stands.items m.queue.items r.stands.items r.queue.items (get_or ns i 0 ∷ []) v) c.if-not-branch.true c.in_ok-append.ensures.appends in
    subst (λ (l : List ℕ). Appends s.stands.items s.queue.items r.stands.items r.queue.items l false) (sym (all_tests ns i c.loop-test-test.true))
    (appends_stop s.stands.items r.stands.items s.queue.items r.queue.items (take i ns ++ get_or ns i 0 ∷ []) (drop (i + 1) ns)
    (appends_both s.stands.items m.stands.items r.stands.items s.queue.items m.queue.items r.queue.items (take i ns) (get_or ns i 0 ∷ []) false c.loop-test.invariant.appends one))

pub loop-test-preserved : goal.loop-test-preserved
loop-test-preserved c =
    let s = c.args.self.now in
    let m = c.loop-test.self in
    let r = c.append.new.self in
    let ns = c.args.tests.now in
    let i = c.loop-test.test-index in
    let one : Appends m.stands.items m.queue.items r.stands.items r.queue.items (get_or ns i 0 ∷ []) true = subst (λ (v : Bool). Appends m.stands.items m.queue.items r.stands.items r.queue.items (get_or ns i 0 ∷ []) v) c.if-not-branch.false c.in_ok-append.ensures.appends in
    record {
      others = c.in_ok-append.ensures.others ∙ ap (λ (x : RunTests). record x { queue = r.queue; stands = r.stands }) c.loop-test.invariant.others;
      appends = subst (λ (l : List ℕ). Appends s.stands.items s.queue.items r.stands.items r.queue.items l true) (sym (more_tests ns i c.loop-test-test.true))
          (appends_both s.stands.items m.stands.items r.stands.items s.queue.items m.queue.items r.queue.items (take i ns) (get_or ns i 0 ∷ []) true c.loop-test.invariant.appends one);
    }
