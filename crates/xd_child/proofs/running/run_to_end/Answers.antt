use Rattle.std.proofs.Common.{ℕ, refl, subst}
use Rattle.xd_edge.specs.Faults.{Counted}
use Rattle.xd_child.specs.Ending.{Waited}
use Rattle.xd_child.proofs.Waiting.{faults_to_end, still_to_end}
use Rattle.xd_child.proofs.Ran.{came_to}
use Rattle.xd_child.proofs.running.run_to_end.Goals as goal

pub returns-clause-ran : goal.returns-clause-ran
returns-clause-ran g c =
    came_to c.args.args.now c.args.room (g.K.Children.place c.in-Ok.child) _ _ _ c.in-Ok.ensures.next c.in-Ok.ensures.started c.drain-is_whole.result c.wait_for-outcome.result (g.K.Children.runs c.drain-is_whole.new.children) _
    c.drain-is_whole.ensures.whole c.drain-is_whole.ensures.part
    (subst (λ (k : ℕ). Waited c.drain-is_whole.result k c.wait_for-outcome.result (g.K.Children.runs c.drain-is_whole.new.children) (g.K.Children.runs c.wait_for-outcome.new.children)) c.drain-is_whole.ensures.same_child c.wait_for-outcome.ensures.waited)

pub returns-clause-faults : goal.returns-clause-faults
returns-clause-faults g c =
    faults_to_end c.drain-is_whole.result (g.K.Children.place c.drain-is_whole.new.child) c.wait_for-outcome.result (g.K.Children.runs c.drain-is_whole.new.children) (g.K.Children.runs c.wait_for-outcome.new.children)
    (g.K.Children.faults c.args.children.now) (g.K.Children.faults c.drain-is_whole.new.children) (g.K.Children.faults c.wait_for-outcome.new.children) c.wait_for-outcome.ensures.waited
    (subst (λ (n : ℕ). Counted c.drain-is_whole.result n (g.K.Children.faults c.drain-is_whole.new.children)) (c.in-Ok.ensures.counted.still refl) c.drain-is_whole.ensures.counted)
    c.wait_for-outcome.ensures.later c.wait_for-outcome.ensures.faults

pub returns-clause-still : goal.returns-clause-still
returns-clause-still g c =
    still_to_end c.drain-is_whole.result (g.K.Children.place c.drain-is_whole.new.child) c.wait_for-outcome.result (g.K.Children.runs c.drain-is_whole.new.children) (g.K.Children.runs c.wait_for-outcome.new.children)
    (g.K.Children.faults c.args.children.now) (g.K.Children.faults c.drain-is_whole.new.children) (g.K.Children.faults c.wait_for-outcome.new.children) c.wait_for-outcome.ensures.waited
    (subst (λ (n : ℕ). Counted c.drain-is_whole.result n (g.K.Children.faults c.drain-is_whole.new.children)) (c.in-Ok.ensures.counted.still refl) c.drain-is_whole.ensures.counted)
    c.wait_for-outcome.ensures.still
