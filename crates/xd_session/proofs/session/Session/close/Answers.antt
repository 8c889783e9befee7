use Rattle.std.proofs.Common.{ap, refl, ◌∙◌}
use Rattle.xd_session.specs.Stands.{SessionSeen}
use Rattle.xd_session.proofs.Lawful.{closed}
use Rattle.xd_session.proofs.session.Session.close.Goals as goal

pub returns-clause-stop : goal.returns-clause-stop
returns-clause-stop g c =
    (closed _ _ _ _ _ _ _ (c.self.invariant (ap (λ (v : SessionSeen). v.whole) c.self.view_is ∙ c.requires.whole)) (record { settings = c.self.inside.journal.settings; entries = c.end.new.entries }) c.args.out_failed _ c.args.self c.self.view_is refl c.in_ok-end.ensures c.requires.done).stop

pub returns-clause-told : goal.returns-clause-told
returns-clause-told g c =
    (closed _ _ _ _ _ _ _ (c.self.invariant (ap (λ (v : SessionSeen). v.whole) c.self.view_is ∙ c.requires.whole)) (record { settings = c.self.inside.journal.settings; entries = c.end.new.entries }) c.args.out_failed _ c.args.self c.self.view_is refl c.in_ok-end.ensures c.requires.done).told

pub returns-clause-legal : goal.returns-clause-legal
returns-clause-legal g c =
    (closed _ _ _ _ _ _ _ (c.self.invariant (ap (λ (v : SessionSeen). v.whole) c.self.view_is ∙ c.requires.whole)) (record { settings = c.self.inside.journal.settings; entries = c.end.new.entries }) c.args.out_failed _ c.args.self c.self.view_is refl c.in_ok-end.ensures c.requires.done).legal
