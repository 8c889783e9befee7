use Rattle.xd_drive.proofs.Performs.{marks-next, performs-next, performs-none, possible-at, possible-same}
use Rattle.xd_drive.proofs.perform.perform.Goals as goal
use Rattle.std.proofs.Common.{refl, ap, ◌∙◌, take}
use Rattle.xd_drive.specs.Performing.{marks_after}

pub perform_one-requires : goal.perform_one-requires
perform_one-requires g c =
    possible-same (g.H.Hub.slots (g.H.Hub.made c.args.hub.now)) _ (marks_after (take c.loop-entry.entry-index c.args.entries.now) (g.H.Hub.marks c.args.hub.now)) _ c.entry-item.result
    (ap g.H.Hub.slots c.loop-entry.invariant.made) c.loop-entry.invariant.marks
    (possible-at _ _ c.args.entries.now c.loop-entry.entry-index c.entry-item.result c.loop-entry-test.true c.entry-item.is c.requires)

pub loop-entry-init : goal.loop-entry-init
loop-entry-init g c = record { marks = λ w. refl; performs = performs-none (g.H.Hub.seen c.args.hub.now); made = refl }

pub loop-entry-preserved : goal.loop-entry-preserved
loop-entry-preserved g c = record {
  marks = marks-next c.args.entries.now c.loop-entry.entry-index c.entry-item.result c.loop-entry-test.true c.entry-item.is (g.H.Hub.marks c.args.hub.now) (g.H.Hub.marks c.loop-entry.hub) _ c.loop-entry.invariant.marks c.in_ok-perform_one.ensures.marks;
  performs = performs-next c.args.entries.now c.loop-entry.entry-index c.entry-item.result c.loop-entry-test.true c.entry-item.is _ _ _ c.loop-entry.invariant.performs c.in_ok-perform_one.ensures.performs;
  made = c.perform_one.ensures.made ∙ c.loop-entry.invariant.made;
}
