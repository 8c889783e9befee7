use Rattle.xd_post.specs.Post.{put}
use Rattle.xd_worker_runner.proofs.Watching.{runs_one}
use Rattle.xd_worker_runner.proofs.program.run_order.Goals as goal

pub returns-clause-ran : goal.returns-clause-ran
returns-clause-ran g c =
    runs_one c.in_ok-outcome.outcome c.args.order.now _ _ (put c.args.sender.now) (put c.run_program.new.sender) (put c.put.new.self) c.in_ok-outcome.ensures.ran c.put.ensures.put
