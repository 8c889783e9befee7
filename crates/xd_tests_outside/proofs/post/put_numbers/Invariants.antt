use Rattle.std.proofs.Common.{◌≡◌}
use Rattle.xd_post.specs.Post.{ring_of_sender}
use Rattle.xd_tests_outside.proofs.post.put_numbers.Given as goal

abbrev pub invariant-loop-number : goal.invariant-loop-number
invariant-loop-number g l = ring_of_sender l.sender ≡ ring_of_sender l.initial.sender
