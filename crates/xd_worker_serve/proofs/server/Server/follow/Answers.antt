use Rattle.xd_worker_serve.specs.inner.Seen.{seen}
use Rattle.xd_worker_serve.proofs.Settling.{broken_ceases}
use Rattle.xd_worker_serve.proofs.server.Server.follow.Goals as goal

pub returns-then-self-clause-goes : goal.returns-then-self-clause-goes
returns-then-self-clause-goes g c = λ a e s. broken_ceases a _ (seen g.N.Sink.sunk g.N.Sink.faults c.args.self.now) c.args.path c.if-self.true s
