use Rattle.std.proofs.Common.{[], refl, sym, ◌∙◌}
use Rattle.xd_run_laws.proofs.Logic.{differ}
use Rattle.xd_report.proofs.Failures.{status-faulty}
use Rattle.xd_session.proofs.Lawful.{stands-proper}
use Rattle.xd_drive.specs.Seen.{scene_of}
use Rattle.xd_drive.proofs.Driven.{drive-broken, drive-journal, drive-journal-broken, drive-kills, drive-whole}
use Rattle.xd_drive.proofs.Follow.{follows-same}
use Rattle.xd_drive.proofs.Status.{status-driven}
use Rattle.xd_drive.proofs.running.drive.Goals as goal

pub run-requires-clause-proper : goal.run-requires-clause-proper
run-requires-clause-proper g c = stands-proper [] c.args.session c.requires.begins

pub run-requires-clause-follows : goal.run-requires-clause-follows
run-requires-clause-follows g c = follows-same _ _ _ _ _ c.journal.ensures.settings c.journal.ensures.entries c.in_ok-reporter.ensures

pub returns-in_default-clause-status : goal.returns-in_default-clause-status
returns-in_default-clause-status g c =
    c.status_over.ensures _ c.in_ok-written.ensures.follows
    ∙ status-driven c.args.session.settings c.run.new.session c.in_ok-journal.journal (stands-proper [] c.args.session c.requires.begins) c.in_ok-written.ensures.settings c.in_ok-journal.ensures.settings c.in_ok-written.written _ _ _ c.in_default.not-Broken
    c.in_ok-journal.ensures.entries c.in_ok-journal.ensures.stop c.in_ok-written.ensures.ends

pub returns-clause-status : goal.returns-clause-status
returns-clause-status g c = c.status.ensures.out_fault refl ∙ sym (status-faulty c.in_ok-journal-2.journal c.in_ok-journal-2.ensures.stop)

pub returns-in_default-clause-drove : goal.returns-in_default-clause-drove
returns-in_default-clause-drove g c = record {
  journal = drive-journal c.args.session.settings c.run.new.session c.in_ok-journal.journal (stands-proper [] c.args.session c.requires.begins) c.in_ok-written.ensures.settings c.in_ok-journal.ensures.settings c.in_ok-written.written
      _ _ _ c.in_default.not-Broken c.in_ok-journal.ensures.entries c.in_ok-journal.ensures.legal c.in_ok-written.ensures.ends;
  whole = λ h.
      drive-whole c.args.session.settings c.run.new.session c.in_ok-journal.journal (stands-proper [] c.args.session c.requires.begins) c.in_ok-written.ensures.settings c.in_ok-journal.ensures.settings c.in_ok-written.written
      (scene_of g.H.Hub.marks g.H.Hub.seen g.O.Sink.sunk c.args.hub.now c.args.out.now)
      (scene_of g.H.Hub.marks g.H.Hub.seen g.O.Sink.sunk c.run.new.hub c.run.new.out)
      _ c.in_default.not-Broken c.in_ok-journal.ensures.entries c.in_ok-journal.ensures.stop c.in_ok-written.ensures.ends;
  broken = λ h. absurd (differ (sym c.in_ok-journal.ensures.told ∙ h));
}

pub kill_started-requires : goal.kill_started-requires
kill_started-requires g c =
    drive-kills c.args.session.settings c.run.new.session c.in_ok-journal-2.journal (stands-proper [] c.args.session c.requires.begins) c.in_ok-written.ensures.settings c.in_ok-journal-2.ensures.settings c.in_ok-written.written c.in-Broken.performed c.in-Broken.is c.in_ok-journal-2.ensures.entries c.deref.result.now c.deref-2.result.now c.deref.ensures.value c.deref-2.ensures.value
    (scene_of g.H.Hub.marks g.H.Hub.seen g.O.Sink.sunk c.args.hub.now c.args.out.now)
    (scene_of g.H.Hub.marks g.H.Hub.seen g.O.Sink.sunk c.run.new.hub c.run.new.out)
    _ (g.H.Hub.slots (g.H.Hub.made c.run.new.hub)) c.in_ok-written.ensures.ends

pub returns-clause-drove : goal.returns-clause-drove
returns-clause-drove g c = record {
  journal = drive-journal-broken c.args.session.settings c.run.new.session c.in_ok-journal-2.journal (stands-proper [] c.args.session c.requires.begins) c.in_ok-written.ensures.settings c.in_ok-journal-2.ensures.settings c.in_ok-written.written
      c.in-Broken.performed c.in-Broken.is _ _ _ c.in_ok-journal-2.ensures.entries c.in_ok-journal-2.ensures.legal c.in_ok-written.ensures.ends;
  whole = λ h. absurd (differ (sym h ∙ c.in_ok-journal-2.ensures.told));
  broken = λ h.
      drive-broken c.args.session.settings c.run.new.session c.in_ok-journal-2.journal (stands-proper [] c.args.session c.requires.begins) c.in_ok-written.ensures.settings c.in_ok-journal-2.ensures.settings c.in_ok-written.written c.in-Broken.performed c.in-Broken.is c.in_ok-journal-2.ensures.entries c.deref.result.now c.deref-2.result.now c.deref.ensures.value c.deref-2.ensures.value
      (scene_of g.H.Hub.marks g.H.Hub.seen g.O.Sink.sunk c.args.hub.now c.args.out.now)
      (scene_of g.H.Hub.marks g.H.Hub.seen g.O.Sink.sunk c.run.new.hub c.run.new.out)
      (scene_of g.H.Hub.marks g.H.Hub.seen g.O.Sink.sunk c.kill_started.new.hub c.run.new.out)
      _ c.in_ok-journal-2.ensures.stop c.in_ok-written.ensures.ends c.in_ok-kill_started.ensures.performs refl;
}
