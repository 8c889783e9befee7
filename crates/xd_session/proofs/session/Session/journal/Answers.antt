use Rattle.std.proofs.Common.{ap, refl, ◌∙◌}
use Rattle.xd_session.specs.Stands.{SessionSeen}
use Rattle.xd_session.proofs.Lawful.{legal-so-far}
use Rattle.xd_session.proofs.session.Session.journal.Goals as goal

pub returns-clause-legal : goal.returns-clause-legal
returns-clause-legal g c = λ h. legal-so-far _ _ _ _ _ _ _ (c.self.invariant (ap (λ (v : SessionSeen). v.whole) c.self.view_is ∙ h)) _ refl refl
