use Rattle.std.proofs.Common.{◌∙◌}
use Rattle.xd_post.specs.Post.{put}
use Rattle.xd_worker_runner.proofs.Watching.{watches, watches_part}
use Rattle.xd_worker_runner.proofs.program.watch.Goals as goal

pub returns-in-Ok-clause-watched : goal.returns-in-Ok-clause-watched
returns-in-Ok-clause-watched g c =
    watches (g.K.Children.place c.hear_output.new.child) (g.K.Children.place c.args.child) c.in-Ok.whole c.wait_for.result (g.K.Children.runs c.args.children.now) (g.K.Children.runs c.hear_output.new.children) (g.K.Children.runs c.wait_for.new.children)
    (g.K.Children.faults c.args.children.now) (g.K.Children.faults c.hear_output.new.children) (g.K.Children.faults c.wait_for.new.children) (put c.args.sender.now) (put c.hear_output.new.sender)
    c.in-Ok.ensures.same_child c.in-Ok.ensures.heard c.in-Ok.ensures.counted c.wait_for.ensures.waited c.wait_for.ensures.later c.wait_for.ensures.faults c.wait_for.ensures.still

pub returns-in-Err-clause-part : goal.returns-in-Err-clause-part
returns-in-Err-clause-part g c =
    let place = c.drop_output-whole.ensures.same_child ∙ c.in-Err.ensures.same_child in
    watches_part (g.K.Children.place c.hear_output.new.child) (g.K.Children.place c.drop_output-whole.new.child) (g.K.Children.place c.args.child) c.drop_output-whole.result c.drop_output-whole.ensures.gave.0 c.wait_for-outcome.result
    (g.K.Children.runs c.args.children.now) (g.K.Children.runs c.hear_output.new.children) (g.K.Children.runs c.drop_output-whole.new.children) (g.K.Children.runs c.wait_for-outcome.new.children)
    (g.K.Children.faults c.args.children.now) (g.K.Children.faults c.hear_output.new.children) (g.K.Children.faults c.drop_output-whole.new.children) (g.K.Children.faults c.wait_for-outcome.new.children) (put c.args.sender.now) (put c.hear_output.new.sender)
    c.in-Err.ensures.same_child place c.in-Err.ensures.part c.drop_output-whole.ensures.gave.1 c.wait_for-outcome.ensures.waited c.in-Err.ensures.later c.drop_output-whole.ensures.later c.wait_for-outcome.ensures.later
