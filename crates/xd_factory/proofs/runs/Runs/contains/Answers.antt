use Rattle.xd_factory.proofs.Spans.{has_at, has_none}
use Rattle.xd_factory.proofs.runs.Runs.contains.Goals as goal

pub returns-in-Some : goal.returns-in-Some
returns-in-Some c = has_at c.args.self.now.lasts c.args.number c.in-Some.run'.first c.in-Some.run'.last c.run_before.ensures.ordered c.args.self.now.apart c.in-Some.ensures.run c.in-Some.ensures.before c.in-Some.ensures.greatest

pub returns-in-None : goal.returns-in-None
returns-in-None c = has_none c.args.self.now.lasts c.args.number c.run_before.ensures.ordered c.in-None.ensures.none
