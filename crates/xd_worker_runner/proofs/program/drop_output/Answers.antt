use Rattle.std.proofs.Common.{ℕ, [], ◌++◌, ◌∙◌, ap, arith, refl, take}
use Rattle.xd_worker_runner.proofs.Watching.{output_end, output_more, output_none, output_part}
use Rattle.xd_worker_runner.proofs.program.drop_output.Goals as goal

pub loop-init : goal.loop-init
loop-init g c = record { same_child = refl; gave = ([], output_none (g.K.Children.place c.args.child.now) (g.K.Children.runs c.args.children.now)); later = omega arith }

pub returns-in-Ok-eq0-clause-gave : goal.returns-in-Ok-eq0-clause-gave
returns-in-Ok-eq0-clause-gave g c =
    let v = c.loop.invariant in (
      v.gave.0,
      output_end (g.K.Children.place c.loop.child) (g.K.Children.place c.args.child.now) v.gave.0 (take c.in-Ok-eq0.field-0 c.read.new.into) (g.K.Children.runs c.args.children.now) (g.K.Children.runs c.loop.children) (g.K.Children.runs c.read.new.self) v.same_child
          (ap (λ (n : ℕ). take n c.read.new.into) c.in-Ok-eq0.field-0-test) v.gave.1 c.in-Ok-eq0.ensures.gave,
    )

pub loop-preserved : goal.loop-preserved
loop-preserved g c =
    let v = c.loop.invariant in
    record {
      same_child = c.in-Ok.ensures.same_child ∙ v.same_child;
      gave = (
        v.gave.0 ++ take c.in-Ok.field-0 c.read.new.into,
        output_more (g.K.Children.place c.loop.child) (g.K.Children.place c.args.child.now) v.gave.0 (take c.in-Ok.field-0 c.read.new.into) (g.K.Children.runs c.args.children.now) (g.K.Children.runs c.loop.children) (g.K.Children.runs c.read.new.self) v.same_child v.gave.1 c.in-Ok.ensures.gave,
      );
      later = omega (arith, v.later, c.in-Ok.ensures.counted.later);
    }

pub returns-in-Err-clause-gave : goal.returns-in-Err-clause-gave
returns-in-Err-clause-gave g c =
    let v = c.loop.invariant in (
      v.gave.0,
      output_part (g.K.Children.place c.loop.child) (g.K.Children.place c.args.child.now) v.gave.0 (g.K.Children.runs c.args.children.now) (g.K.Children.runs c.loop.children) (g.K.Children.runs c.read.new.self) v.same_child v.gave.1 c.in-Err.ensures.failed,
    )
