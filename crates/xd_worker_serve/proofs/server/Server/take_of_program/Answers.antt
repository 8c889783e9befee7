use Rattle.std.proofs.Common.{sym, subst}
use Rattle.xd_reader.specs.declared.news.LinkNews.{LinkNews}
use Rattle.xd_worker_serve.specs.inner.Halts.{IsUncalled}
use Rattle.xd_worker_serve.specs.inner.Seen.{seen}
use Rattle.xd_worker_serve.specs.Timing.{one_if}
use Rattle.xd_worker_serve.proofs.Settling.{uncalled}
use Rattle.xd_worker_serve.proofs.server.Server.take_of_program.Goals as goal

pub returns-clause-goes : goal.returns-clause-goes
returns-clause-goes g c = λ a files s.
    uncalled a _ (seen g.N.Sink.sunk g.N.Sink.faults c.args.self.now) c.args.news (subst (λ (n : LinkNews). IsUncalled (one_if c.args.self.now.started) n) (sym c.in-Message.is) tt) s
