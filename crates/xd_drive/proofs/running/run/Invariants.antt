use Rattle.std.proofs.Common.{◌≡◌, ℕ, List, true}
use Rattle.xd_journal.specs.declared.news.News.{News}
use Rattle.xd_run.specs.State.{after_entries, no_one}
use Rattle.xd_report.specs.Follows.{Follows}
use Rattle.xd_drive.specs.Going.{Going}
use Rattle.xd_drive.specs.Moments.{turns_of}
use Rattle.xd_drive.specs.Seen.{scene_of}
use Rattle.xd_drive.proofs.running.run.Given as goal

abbrev pub invariant-loop : goal.invariant-loop
invariant-loop g l = record {
  going : (given : List News) × Going given l.session
      (scene_of g.H.Hub.marks g.H.Hub.seen g.O.Sink.sunk l.fn.hub l.fn.out)
      (scene_of g.H.Hub.marks g.H.Hub.seen g.O.Sink.sunk l.hub l.out)
      (turns_of g.H.Hub.tells g.O.Sink.sunk l.moments);
  reports : Follows l.reporter (after_entries (no_one l.session.settings) l.session.entries);
  settings : l.session.settings ≡ l.fn.session.settings;
  made : g.H.Hub.made l.hub ≡ g.H.Hub.made l.fn.hub;
  someone : (w : ℕ) × ((g.H.Hub.marks l.hub w).started ≡ true);
  still : g.O.Sink.faults l.out ≡ g.O.Sink.faults l.fn.out;
}
