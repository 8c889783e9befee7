use Rattle.std.proofs.Common.{◌≡◌}
use Rattle.xd_post.specs.Post.{ring_of_inbox}
use Rattle.xd_tests_outside.proofs.post.carry.Given as goal

abbrev pub invariant-loop-number : goal.invariant-loop-number
invariant-loop-number g l = ring_of_inbox l.inbox ≡ ring_of_inbox l.initial.inbox
