use Rattle.std.proofs.Common.{rules}
use Rattle.xd_group.proofs.Saying.{none_left}
use Rattle.xd_group.proofs.diary.Diary.next_waiting.Goals as goal

pub returns-clause-none : goal.returns-clause-none
returns-clause-none c = none_left c.pop.result _ _ c.pop.new.self.items _ c.pop.ensures.cases (search rules)
