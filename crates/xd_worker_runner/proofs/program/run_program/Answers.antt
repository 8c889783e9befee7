use Rattle.std.proofs.Common.{◌≡◌, refl, rules}
use Rattle.xd_edge.specs.Children.{AddsRun, not_started}
use Rattle.xd_edge.specs.Faults.{Rose}
use Rattle.xd_post.specs.Post.{put}
use Rattle.xd_worker_runner.proofs.Watching.{if_ok_so, on_err_so, runs_never, runs_none, runs_part, runs_to}
use Rattle.xd_worker_runner.proofs.program.run_program.Goals as goal

pub returns-in-Ok-clause-ran : goal.returns-in-Ok-clause-ran
returns-in-Ok-clause-ran g c =
    if_ok_so c.watch.result _ _
    (λ outcome w. runs_to (g.K.Children.place c.in-Ok.child) outcome c.args.order.now (g.K.Children.runs c.args.children.now) (g.K.Children.runs c.start.new.self) (g.K.Children.runs c.watch.new.children) (g.K.Children.faults c.args.children.now) (g.K.Children.faults c.start.new.self) (g.K.Children.faults c.watch.new.children)
    (put c.args.sender.now) (put c.watch.new.sender) c.in-Ok.ensures.next c.in-Ok.ensures.started (c.in-Ok.ensures.counted.still refl) w) c.watch.ensures.watched

pub returns-in-Ok-clause-part : goal.returns-in-Ok-clause-part
returns-in-Ok-clause-part g c =
    on_err_so c.watch.result _ _
    (λ w. runs_part (g.K.Children.place c.in-Ok.child) c.args.order.now (g.K.Children.runs c.args.children.now) (g.K.Children.runs c.start.new.self) (g.K.Children.runs c.watch.new.children) (g.K.Children.faults c.args.children.now) (g.K.Children.faults c.start.new.self) (g.K.Children.faults c.watch.new.children)
    (put c.args.sender.now) (put c.watch.new.sender) c.in-Ok.ensures.next c.in-Ok.ensures.started (c.in-Ok.ensures.counted.still refl) w) c.watch.ensures.part

pub returns-in-Err-Failed-clause-ran : goal.returns-in-Err-Failed-clause-ran
returns-in-Err-Failed-clause-ran g c =
    let added : AddsRun (not_started c.args.order.now) (g.K.Children.runs c.args.children.now) (g.K.Children.runs c.start.new.self) = search rules in
    let rose : Rose (g.K.Children.faults c.args.children.now) (g.K.Children.faults c.start.new.self) = search rules in
    runs_none c.args.order.now (g.K.Children.runs c.args.children.now) (g.K.Children.runs c.start.new.self) (g.K.Children.faults c.args.children.now) (g.K.Children.faults c.start.new.self) (put c.args.sender.now)
    added rose c.in-Err-Failed.ensures.counted.later

pub returns-in-Err-OutOfMemory-clause-part : goal.returns-in-Err-OutOfMemory-clause-part
returns-in-Err-OutOfMemory-clause-part g c =
    let same : g.K.Children.runs c.start.new.self ≡ g.K.Children.runs c.args.children.now = search rules in
    let still : g.K.Children.faults c.start.new.self ≡ g.K.Children.faults c.args.children.now = search rules in
    runs_never c.args.order.now (g.K.Children.runs c.args.children.now) (g.K.Children.runs c.start.new.self) (g.K.Children.faults c.args.children.now) (g.K.Children.faults c.start.new.self) (put c.args.sender.now) same still
