use Rattle.std.proofs.Common.{ℕ, List, refl, sym, ap, ◌∙◌, subst, arith, take, length}
use Rattle.xd_edge.specs.Children.{ChangesRun, with_output, with_read_fault}
use Rattle.xd_child.specs.Running.{Drained}
use Rattle.xd_child.proofs.Ran.{nothing_drained, drained_more, drained_end, drained_part, kept_short}
use Rattle.xd_child.proofs.running.drain.Goals as goal

pub loop-init : goal.loop-init
loop-init g c = record {
  same_child = refl;
  drained = subst (λ (l : List ℕ). Drained c.args.room (g.K.Children.place c.args.child.now) l (g.K.Children.runs c.args.children.now) (g.K.Children.runs c.args.children.now)) (sym c.requires.empty) (nothing_drained c.args.room (g.K.Children.place c.args.child.now) (g.K.Children.runs c.args.children.now));
  within = (let e = ap length c.requires.empty in omega (arith, e));
  room = c.requires.room;
  still = refl;
  later = omega arith;
}

pub returns-in-Ok-eq0-clause-whole : goal.returns-in-Ok-eq0-clause-whole
returns-in-Ok-eq0-clause-whole g c =
    drained_end c.args.room (g.K.Children.place c.args.child.now) c.loop.output.items (take c.in-Ok-eq0.field-0 c.read.new.into) _ (g.K.Children.runs c.loop.children) (g.K.Children.runs c.read.new.self) c.loop.invariant.drained
    (ap (λ (n : ℕ). take n c.read.new.into) c.in-Ok-eq0.field-0-test)
    (subst (λ (k : ℕ). ChangesRun k (with_output (take c.in-Ok-eq0.field-0 c.read.new.into)) (g.K.Children.runs c.loop.children) (g.K.Children.runs c.read.new.self)) c.loop.invariant.same_child c.in-Ok-eq0.ensures.gave)

pub loop-preserved : goal.loop-preserved
loop-preserved g c = record {
  same_child = c.in-Ok.ensures.same_child ∙ c.loop.invariant.same_child;
  drained = drained_more c.args.room (g.K.Children.place c.args.child.now) c.loop.output.items c.keep.new.output.items (take c.in-Ok.n c.read.new.into) _ (g.K.Children.runs c.loop.children) (g.K.Children.runs c.read.new.self) c.loop.invariant.drained
      (subst (λ (k : ℕ). ChangesRun k (with_output (take c.in-Ok.n c.read.new.into)) (g.K.Children.runs c.loop.children) (g.K.Children.runs c.read.new.self)) c.loop.invariant.same_child c.in-Ok.ensures.gave)
      c.keep.ensures.kept;
  within = kept_short c.args.room _ _ c.keep.ensures.kept;
  room = c.keep.ensures.room;
  still = c.in-Ok.ensures.counted.still refl ∙ c.loop.invariant.still;
  later = omega (arith, c.in-Ok.ensures.counted.later, c.loop.invariant.later);
}

pub returns-in-Err-clause-part : goal.returns-in-Err-clause-part
returns-in-Err-clause-part g c =
    drained_part c.args.room (g.K.Children.place c.args.child.now) c.loop.output.items _ (g.K.Children.runs c.loop.children) (g.K.Children.runs c.read.new.self) c.loop.invariant.drained
    (subst (λ (k : ℕ). ChangesRun k with_read_fault (g.K.Children.runs c.loop.children) (g.K.Children.runs c.read.new.self)) c.loop.invariant.same_child c.in-Err.ensures.failed)
