use Rattle.std.proofs.Common.{arith}
use Rattle.std.proofs.lemmas.Bool.Decides.{nat_tests}
use Rattle.xd_factory.proofs.runs.Runs.run_before.Goals as goal

pub returns-in-Some-clause-greatest : goal.returns-in-Some-clause-greatest
returns-in-Some-clause-greatest c = λ q le is. let w = c.range.ensures.in_range _ in let z = w.4 (c.in-Some.first.now, c.in-Some.last.now) c.next_back.new.self c.in-Some.ensures.steps q (tt, grind (arith, nat_tests)) is in grind (arith, nat_tests)
