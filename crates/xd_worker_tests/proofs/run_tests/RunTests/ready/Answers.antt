use Rattle.xd_worker_tests.proofs.Moves.{advanced, none_is}
use Rattle.xd_worker_tests.proofs.run_tests.RunTests.ready.Goals as goal

pub returns-then-is_none-clause-call : goal.returns-then-is_none-clause-call
returns-then-is_none-clause-call c = λ k serves idle h.
    advanced c.args.self.now c.advance.new.self k serves idle (none_is c.args.self.now.next c.is_none.result c.is_none.ensures c.if-is_none.true) c.advance.ensures.queue c.advance.ensures.none c.advance.ensures.stands c.advance.ensures.others h
