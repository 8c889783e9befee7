use Rattle.xd_factory.proofs.Spans.{covering}
use Rattle.xd_factory.proofs.runs.Runs.first_joined.Goals as goal

pub returns-in-Some-clause-known : goal.returns-in-Some-clause-known
returns-in-Some-clause-known c = covering c.args.self.now.lasts c.args.number (c.in-Some.run'.first, c.in-Some.run'.last, c.in-Some.ensures.run, c.in-Some.ensures.before, c.if-number-run.true)
