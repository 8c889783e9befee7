use Rattle.std.proofs.Common.{◌∙◌, ap}
use Rattle.xd_drive.specs.Performing.{all_possible}
use Rattle.xd_drive.proofs.Stepped.{between-is, follows-before, follows-following, in_order, lines-are, tells-as}
use Rattle.xd_drive.proofs.news.tell_news.Goals as goal

pub tell_entries-requires-clause-order : goal.tell_entries-requires-clause-order
tell_entries-requires-clause-order g c =
    in_order c.args.session.now c.step.new.self c.requires.stands.0 c.args.news c.requires.stands.1 (c.in_ok-step.ensures.stands c.requires.stands.0 c.requires.stands.1) c.step.ensures.settings
    c.in_ok-step.step.from c.in_ok-step.step.to c.journal.result.now c.in_ok-step.ensures.places.0 c.in_ok-step.ensures.places.1 c.journal.ensures.settings c.journal.ensures.entries

pub tell_entries-requires-clause-possible : goal.tell_entries-requires-clause-possible
tell_entries-requires-clause-possible g c =
    ap (all_possible (g.H.Hub.slots (g.H.Hub.made c.args.hub.now)) (g.H.Hub.marks c.args.hub.now))
    (between-is c.args.session.now c.step.new.self c.requires.stands.0 c.args.news c.requires.stands.1 (c.in_ok-step.ensures.stands c.requires.stands.0 c.requires.stands.1) c.step.ensures.settings
    c.in_ok-step.step.from c.in_ok-step.step.to c.journal.result.now c.in_ok-step.ensures.places.0 c.in_ok-step.ensures.places.1 c.journal.ensures.settings c.journal.ensures.entries)
    ∙ c.requires.possible c.requires.stands.0 c.requires.stands.1

pub returns-clause-tells : goal.returns-clause-tells
returns-clause-tells g c = λ taken st. tells-as c.in_ok-shown.shown _ _ _ _ _ _ _ _
    (between-is c.args.session.now c.step.new.self taken c.args.news st (c.in_ok-step.ensures.stands taken st) c.step.ensures.settings
    c.in_ok-step.step.from c.in_ok-step.step.to c.journal.result.now c.in_ok-step.ensures.places.0 c.in_ok-step.ensures.places.1 c.journal.ensures.settings c.journal.ensures.entries)
    (lines-are c.args.session.now c.step.new.self taken c.args.news st (c.in_ok-step.ensures.stands taken st) c.step.ensures.settings
    c.in_ok-step.step.from c.in_ok-step.step.to c.journal.result.now c.in_ok-step.ensures.places.0 c.in_ok-step.ensures.places.1 c.journal.ensures.settings c.journal.ensures.entries)
    c.in_ok-shown.ensures.tells

pub tell_entries-requires-clause-follows : goal.tell_entries-requires-clause-follows
tell_entries-requires-clause-follows g c =
    follows-before c.args.session.now c.step.new.self c.requires.stands.0 c.args.news c.requires.stands.1 (c.in_ok-step.ensures.stands c.requires.stands.0 c.requires.stands.1) c.step.ensures.settings
    c.in_ok-step.step.from c.in_ok-step.step.to c.journal.result.now c.in_ok-step.ensures.places.0 c.in_ok-step.ensures.places.1 c.journal.ensures.settings c.journal.ensures.entries
    c.args.reporter.now c.requires.follows

pub returns-clause-follows : goal.returns-clause-follows
returns-clause-follows g c =
    follows-following c.args.session.now c.step.new.self c.requires.stands.0 c.args.news c.requires.stands.1 (c.in_ok-step.ensures.stands c.requires.stands.0 c.requires.stands.1) c.step.ensures.settings
    c.in_ok-step.step.from c.in_ok-step.step.to c.journal.result.now c.in_ok-step.ensures.places.0 c.in_ok-step.ensures.places.1 c.journal.ensures.settings c.journal.ensures.entries
    c.tell_entries.new.reporter c.in_ok-shown.ensures.follows
