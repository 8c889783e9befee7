use Rattle.std.proofs.Common.{ℕ, ◌∙◌, ap, refl, rules, take}
use Rattle.xd_post.specs.Post.{put}
use Rattle.xd_worker_runner.specs.Orders.{IsPiece}
use Rattle.xd_worker_runner.proofs.Watching.{heard_all, heard_more, heard_none, heard_part, heard_unread, on_err}
use Rattle.xd_worker_runner.proofs.program.hear_output.Goals as goal

pub loop-init : goal.loop-init
loop-init g c = record {
  same_child = refl;
  heard = heard_none (g.K.Children.place c.args.child.now) (g.K.Children.runs c.args.children.now) (put c.args.sender.now);
  still = refl;
  ring = refl;
}

pub returns-in-Ok-eq0-clause-heard : goal.returns-in-Ok-eq0-clause-heard
returns-in-Ok-eq0-clause-heard g c =
    let v = c.loop.invariant in
    heard_all (g.K.Children.place c.loop.child) (g.K.Children.place c.args.child.now) (take c.in-Ok-eq0.field-0 c.read.new.into) (g.K.Children.runs c.args.children.now) (g.K.Children.runs c.loop.children) (g.K.Children.runs c.read.new.self) (put c.args.sender.now) (put c.loop.sender)
    v.same_child (ap (λ (n : ℕ). take n c.read.new.into) c.in-Ok-eq0.field-0-test) c.in-Ok-eq0.ensures.gave v.heard

pub loop-preserved : goal.loop-preserved
loop-preserved g c =
    let v = c.loop.invariant in
    let size : IsPiece (take c.in-Ok.n c.read.new.into) = search rules in
    record {
      same_child = c.in-Ok.ensures.same_child ∙ v.same_child;
      heard = heard_more (g.K.Children.place c.loop.child) (g.K.Children.place c.args.child.now) (take c.in-Ok.n c.read.new.into) (g.K.Children.runs c.args.children.now) (g.K.Children.runs c.loop.children) (g.K.Children.runs c.read.new.self) (put c.args.sender.now) (put c.loop.sender) (put c.put_piece.new.sender)
          v.same_child size c.in-Ok.ensures.gave c.in_ok-put_piece-in-Ok.ensures.put v.heard;
      still = c.in-Ok.ensures.counted.still refl ∙ v.still;
      ring = c.put_piece.ensures.ring ∙ v.ring;
    }

pub returns-in_err-put_piece-in-Ok-clause-part : goal.returns-in_err-put_piece-in-Ok-clause-part
returns-in_err-put_piece-in-Ok-clause-part g c =
    let v = c.loop.invariant in
    on_err c.from_residual.result _
    (heard_part (g.K.Children.place c.loop.child) (g.K.Children.place c.args.child.now) (take c.in-Ok.n c.read.new.into) (g.K.Children.runs c.args.children.now) (g.K.Children.runs c.loop.children) (g.K.Children.runs c.read.new.self) (put c.args.sender.now) (put c.loop.sender) (put c.put_piece.new.sender)
    v.same_child c.in-Ok.ensures.gave c.in_err-put_piece-in-Ok.ensures.none v.heard)

pub returns-in-Err-clause-heard : goal.returns-in-Err-clause-heard
returns-in-Err-clause-heard g c =
    let v = c.loop.invariant in
    heard_unread (g.K.Children.place c.loop.child) (g.K.Children.place c.args.child.now) (g.K.Children.runs c.args.children.now) (g.K.Children.runs c.loop.children) (g.K.Children.runs c.read.new.self) (put c.args.sender.now) (put c.loop.sender)
    v.same_child c.in-Err.ensures.failed v.heard
