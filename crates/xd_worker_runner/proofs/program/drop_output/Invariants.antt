use Rattle.std.proofs.Common.{◌≡◌, ◌≤◌, ℕ, List}
use Rattle.xd_edge.specs.Children.{ChangesRun, with_output}
use Rattle.xd_worker_runner.proofs.program.drop_output.Given as goal

abbrev pub invariant-loop : goal.invariant-loop
invariant-loop g l = record {
  same_child : g.K.Children.place l.child ≡ g.K.Children.place l.fn.child;
  gave : (output : List ℕ) × ChangesRun (g.K.Children.place l.fn.child) (with_output output) (g.K.Children.runs l.fn.children) (g.K.Children.runs l.children);
  later : g.K.Children.faults l.fn.children ≤ g.K.Children.faults l.children;
}
