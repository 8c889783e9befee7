use Rattle.std.proofs.Common.{Bool, [], length, refl, sym, ap, ◌∙◌, subst}
use Rattle.xd_run.specs.State.{after_entries, no_one}
use Rattle.xd_report.specs.Lines.{lines_from}
use Rattle.xd_drive.specs.Going.{TellsEntries, added_by}
use Rattle.xd_drive.specs.Moments.{scene_at, turns_of}
use Rattle.xd_drive.specs.Seen.{scene_of}
use Rattle.xd_trace.proofs.Each.{seen-more}
use Rattle.xd_drive.proofs.Stepped.{dropped, tellable, told, untold}
use Rattle.xd_drive.proofs.news.take_news.Goals as goal

pub returns-then-not-is_active-clause-takes : goal.returns-then-not-is_active-clause-takes
returns-then-not-is_active-clause-takes g c =
    dropped c.args.session.now c.requires.proper c.in_ok-news.news _ _ _ _ c.in_ok-news.ensures.gave c.in_ok-news.ensures.marks refl
    c.requires.agrees c.in_ok-news.ensures.started (sym c.is_active.ensures ∙ c.if-not-is_active.true)
    (scene_at g.H.Hub.tells g.O.Sink.sunk c.kept.result.now c.args.out.now) c.kept.ensures refl (seen-more (λ p. scene_at g.H.Hub.tells g.O.Sink.sunk p.0 p.1) c.args.moments.now c.look.new.self c.kept.result.now c.args.out.now c.look.ensures)

pub tell_news-requires-clause-active : goal.tell_news-requires-clause-active
tell_news-requires-clause-active g c = sym c.is_active.ensures ∙ c.if-not-is_active.false

pub tell_news-requires-clause-possible : goal.tell_news-requires-clause-possible
tell_news-requires-clause-possible g c =
    tellable c.args.session.now c.requires.proper c.in_ok-news.news (scene_of g.H.Hub.marks g.H.Hub.seen g.O.Sink.sunk c.args.hub.now c.args.out.now)
    (scene_of g.H.Hub.marks g.H.Hub.seen g.O.Sink.sunk c.next.new.self c.args.out.now)
    [] [] c.in_ok-news.ensures.gave c.in_ok-news.ensures.marks refl
    c.requires.agrees c.in_ok-news.ensures.started (g.H.Hub.slots (g.H.Hub.made c.args.hub.now)) c.requires.slots (sym c.is_active.ensures ∙ c.if-not-is_active.false) (g.H.Hub.slots (g.H.Hub.made c.next.new.self)) (ap g.H.Hub.slots c.next.ensures.made)

pub returns-then-shown-clause-takes : goal.returns-then-shown-clause-takes
returns-then-shown-clause-takes g c =
    told c.args.session.now c.requires.proper c.in_ok-news.news _ (scene_of g.H.Hub.marks g.H.Hub.seen g.O.Sink.sunk c.next.new.self c.args.out.now)
    _ _ c.in_ok-news.ensures.gave c.in_ok-news.ensures.marks refl
    c.requires.agrees c.in_ok-news.ensures.started (g.H.Hub.slots (g.H.Hub.made c.args.hub.now)) c.requires.slots (sym c.is_active.ensures ∙ c.if-not-is_active.false)
    c.tell_news.new.session c.in_ok-shown.ensures.stands c.tell_news.ensures.settings _ c.requires.stands.0 c.requires.stands.1
    (subst (λ (b : Bool). TellsEntries b (added_by c.args.session.now.settings c.requires.stands.0 c.in_ok-news.news) (lines_from (after_entries (no_one c.args.session.now.settings) c.args.session.now.entries) (added_by c.args.session.now.settings c.requires.stands.0 c.in_ok-news.news)) (scene_of g.H.Hub.marks g.H.Hub.seen g.O.Sink.sunk c.next.new.self c.args.out.now)
    (scene_of g.H.Hub.marks g.H.Hub.seen g.O.Sink.sunk c.tell_news.new.hub c.tell_news.new.out) (turns_of g.H.Hub.tells g.O.Sink.sunk c.args.moments.now) (turns_of g.H.Hub.tells g.O.Sink.sunk c.tell_news.new.moments)) c.if-shown.true (c.in_ok-shown.ensures.tells c.requires.stands.0 c.requires.stands.1))

pub returns-else-shown-clause-takes : goal.returns-else-shown-clause-takes
returns-else-shown-clause-takes g c =
    untold c.args.session.now c.requires.proper c.in_ok-news.news _ (scene_of g.H.Hub.marks g.H.Hub.seen g.O.Sink.sunk c.next.new.self c.args.out.now)
    _ _ c.in_ok-news.ensures.gave c.in_ok-news.ensures.marks refl
    c.requires.agrees c.in_ok-news.ensures.started (g.H.Hub.slots (g.H.Hub.made c.args.hub.now)) c.requires.slots (sym c.is_active.ensures ∙ c.if-not-is_active.false)
    c.tell_news.new.session c.in_ok-shown.ensures.stands c.tell_news.ensures.settings _ c.requires.stands.0 c.requires.stands.1 c.entry_count-performed.result (c.entry_count-performed.ensures ∙ ap length c.journal.ensures.entries)
    (subst (λ (b : Bool). TellsEntries b (added_by c.args.session.now.settings c.requires.stands.0 c.in_ok-news.news) (lines_from (after_entries (no_one c.args.session.now.settings) c.args.session.now.entries) (added_by c.args.session.now.settings c.requires.stands.0 c.in_ok-news.news)) (scene_of g.H.Hub.marks g.H.Hub.seen g.O.Sink.sunk c.next.new.self c.args.out.now)
    (scene_of g.H.Hub.marks g.H.Hub.seen g.O.Sink.sunk c.tell_news.new.hub c.tell_news.new.out) (turns_of g.H.Hub.tells g.O.Sink.sunk c.args.moments.now) (turns_of g.H.Hub.tells g.O.Sink.sunk c.tell_news.new.moments)) c.if-shown.false (c.in_ok-shown.ensures.tells c.requires.stands.0 c.requires.stands.1))
