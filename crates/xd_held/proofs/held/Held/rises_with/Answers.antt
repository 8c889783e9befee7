use Rattle.std.proofs.Common.{sym, ◌∙◌}
use Rattle.std.proofs.lemmas.Bool.{true≢false}
use Rattle.xd_held.proofs.Rising.{rises-before}
use Rattle.xd_held.proofs.held.Held.rises_with.Goals as goal

pub returns-else-self : goal.returns-else-self
returns-else-self c =
    (λ rising. absurd (true≢false (sym rising ∙ c.if-self.false)), λ rises. c.self.invariant.1 (rw c.self.view_is (rises-before c.args.self.now c.args.item rises)))
