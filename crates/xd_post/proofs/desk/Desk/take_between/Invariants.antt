use Rattle.std.proofs.Common.{◌≡◌}
use Rattle.xd_post.specs.Mails.{mails, knows, next_inbox, NoneFrom}
use Rattle.xd_post.proofs.desk.Desk.take_between.Given as goal

abbrev pub invariant-loop-at : goal.invariant-loop-at
invariant-loop-at g l =
    (mails l.self ≡ mails l.initial.self)
    × (knows l.self ≡ knows l.initial.self)
    × (next_inbox l.self ≡ next_inbox l.initial.self)
    × NoneFrom (knows l.initial.self) l.fn.from l.at
