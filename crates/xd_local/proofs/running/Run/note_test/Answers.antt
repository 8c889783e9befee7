use Rattle.std.proofs.Common.{List, ℕ, ◌+◌, ◌-◌, ap, length, refl, subst}
use Rattle.xd_suite.specs.Tests.{run_at}
use Rattle.xd_child.specs.Running.{RanChild}
use Rattle.xd_local.proofs.Timings.{lasts}
use Rattle.xd_local.proofs.running.Run.note_test.Goals as goal

pub returns : goal.returns
returns g c = record {
  notes = rw (← c.self.view_is) (record {
    result = record { outcome = c.in_ok-came.came.outcome; ms = c.now.result - c.now-start.result; output = c.in_ok-came.came.output };
    noted = record {
      entries = c.in_ok-add_round.ensures.entries;
      settings = c.add_round.ensures.settings;
      ran = subst (λ (n : ℕ). RanChild (run_at c.args.suite.now c.args.test) n c.in_ok-came.came (g.K.Children.runs c.self.inside.children) (g.K.Children.runs c.run_child.new.children)) c.output_room-room.ensures
          (subst (λ (args : List (List ℕ)). RanChild args c.output_room-room.result c.in_ok-came.came (g.K.Children.runs c.self.inside.children) (g.K.Children.runs c.run_child.new.children)) c.command.ensures.run c.in_ok-came.ensures.ran);
      spent = ap (λ (l : List ℕ). c.self.inside.spent + length l) c.as_slice.ensures;
      faults = c.in_ok-came.ensures.faults;
      still = c.in_ok-came.ensures.still;
      later = c.run_child.ensures.later;
    };
    unseen = refl;
    timed = lasts c.now-start.result c.now.result _ (record { moment = g.T.Clock.moment c.now-start.new.self; coming = g.T.Clock.coming c.now-start.new.self }) _
        (record { later = c.now-start.ensures.later; last = c.now-start.ensures.last; told = c.now-start.ensures.told; next = c.now-start.ensures.next })
        (record { later = c.now.ensures.later; last = c.now.ensures.last; told = c.now.ensures.told; next = c.now.ensures.next });
  });
}
