use Rattle.std.proofs.Common.{◌≡◌}
use Rattle.xd_post.specs.Post.{ring_of_inbox}
use Rattle.xd_tests_outside.proofs.mailboxes.next_item.Given as goal

abbrev pub invariant-loop : goal.invariant-loop
invariant-loop g l = ring_of_inbox l.inbox ≡ ring_of_inbox l.initial.inbox
