use Rattle.std.proofs.Common.{◌≡◌, ◌≤◌, length}
use Rattle.std.specs.Vec.{vec_capacity}
use Rattle.xd_child.specs.Running.{Drained}
use Rattle.xd_child.proofs.running.drain.Given as goal

abbrev pub invariant-loop : goal.invariant-loop
invariant-loop g l = record {
  same_child : g.K.Children.place l.child ≡ g.K.Children.place l.initial.child;
  drained : Drained l.room (g.K.Children.place l.initial.child) l.output.items (g.K.Children.runs l.initial.children) (g.K.Children.runs l.children);
  within : length l.output.items ≤ l.room;
  room : l.room ≤ vec_capacity l.output;
  still : g.K.Children.faults l.children ≡ g.K.Children.faults l.initial.children;
  later : g.K.Children.faults l.initial.children ≤ g.K.Children.faults l.children;
}
