use Rattle.std.proofs.Common.{◌∙◌, inr}
use Rattle.xd_post.specs.Mails.{knows}
use Rattle.xd_post.proofs.Turns.{none_at_first}
use Rattle.xd_post.proofs.desk.Desk.wait.Goals as goal

pub loop-preserved : goal.loop-preserved
loop-preserved g c =
    let (mails, turn, known) = c.loop.invariant in
    let none = c.in_default.ensures in
    (none.none ∙ mails, none.same_turn ∙ turn, inr (none_at_first (knows c.args.self.now) (knows c.loop.self) known none.knew.0))
