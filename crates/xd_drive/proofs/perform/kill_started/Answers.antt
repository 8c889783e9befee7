use Rattle.std.proofs.Common.{refl, ap, ◌∙◌, ◌∷◌, [], take}
use Rattle.xd_drive.specs.Performing.{marks_after, is_kill_of_started, kills_of_started}
use Rattle.xd_drive.proofs.Performs.{all_possible-same, kept-marks, kept-performs, kept-possible, performs-none}
use Rattle.xd_drive.proofs.perform.kill_started.Goals as goal

pub kill_one-requires : goal.kill_one-requires
kill_one-requires g c =
    all_possible-same (g.H.Hub.slots (g.H.Hub.made c.args.hub.now)) _ (marks_after (kills_of_started c.args.done.now (take c.loop-entry.entry-index c.args.entries.now)) (g.H.Hub.marks c.args.hub.now)) _ (kills_of_started c.args.done.now (c.entry-item.result ∷ []))
    (ap g.H.Hub.slots c.loop-entry.invariant.made) c.loop-entry.invariant.marks
    (kept-possible (is_kill_of_started c.args.done.now) c.args.entries.now c.loop-entry.entry-index c.entry-item.result c.loop-entry-test.true c.entry-item.is _ _ c.requires)

pub loop-entry-init : goal.loop-entry-init
loop-entry-init g c = record { marks = λ w. refl; performs = performs-none (g.H.Hub.seen c.args.hub.now); made = refl }

pub loop-entry-preserved : goal.loop-entry-preserved
loop-entry-preserved g c = record {
  marks = kept-marks (is_kill_of_started c.args.done.now) c.args.entries.now c.loop-entry.entry-index c.entry-item.result c.loop-entry-test.true c.entry-item.is (g.H.Hub.marks c.args.hub.now) (g.H.Hub.marks c.loop-entry.hub) _ c.loop-entry.invariant.marks c.in_ok-kill_one.ensures.marks;
  performs = kept-performs (is_kill_of_started c.args.done.now) c.args.entries.now c.loop-entry.entry-index c.entry-item.result c.loop-entry-test.true c.entry-item.is _ _ _ c.loop-entry.invariant.performs c.in_ok-kill_one.ensures.performs;
  made = c.kill_one.ensures.made ∙ c.loop-entry.invariant.made;
}
