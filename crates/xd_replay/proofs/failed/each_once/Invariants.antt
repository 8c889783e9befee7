use Rattle.xd_replay.proofs.Failures.{Gathered}
use Rattle.xd_replay.proofs.failed.each_once.Given as goal

abbrev pub invariant-loop-text : goal.invariant-loop-text
invariant-loop-text l = Gathered l.texts l.text-index l.seen l.items.items
