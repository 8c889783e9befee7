use Rattle.xd_suite.proofs.SeenTexts.{LookedThrough}
use Rattle.xd_suite.proofs.repeats.repeat_of.Given as goal

abbrev pub invariant-loop-number : goal.invariant-loop-number
invariant-loop-number l = LookedThrough l.texts l.number l.seen
