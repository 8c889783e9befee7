use Rattle.std.proofs.Common.{◌≡◌, true}
use Rattle.xd_post.specs.Post.{put, ring_of_sender}
use Rattle.xd_worker_runner.specs.inner.Running.{PutsOutput}
use Rattle.xd_worker_runner.proofs.program.hear_output.Given as goal

abbrev pub invariant-loop : goal.invariant-loop
invariant-loop g l = record {
  same_child : g.K.Children.place l.child ≡ g.K.Children.place l.fn.child;
  heard : PutsOutput true (g.K.Children.place l.fn.child) (g.K.Children.runs l.fn.children) (g.K.Children.runs l.children) (put l.fn.sender) (put l.sender);
  still : g.K.Children.faults l.children ≡ g.K.Children.faults l.fn.children;
  ring : ring_of_sender l.sender ≡ ring_of_sender l.fn.sender;
}
