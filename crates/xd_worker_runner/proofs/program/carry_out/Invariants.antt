use Rattle.std.proofs.Common.{◌≡◌}
use Rattle.xd_post.specs.Mails.{mails}
use Rattle.xd_post.specs.Post.{put, ring_of_sender}
use Rattle.xd_worker_runner.specs.Orders.{programs_seen}
use Rattle.xd_worker_runner.proofs.Taking.{SoFar}
use Rattle.xd_worker_runner.proofs.program.carry_out.Given as goal

abbrev pub invariant-loop : goal.invariant-loop
invariant-loop g l = record {
  so_far : SoFar (mails l.fn.orders) (mails l.orders) (programs_seen (g.K.Children.runs l.fn.children) (g.K.Children.faults l.fn.children)) (programs_seen (g.K.Children.runs l.children) (g.K.Children.faults l.children)) (put l.fn.sender) (put l.sender);
  ring : ring_of_sender l.sender ≡ ring_of_sender l.fn.sender;
}
