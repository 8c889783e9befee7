use Rattle.std.proofs.Common.{sym, ◌∙◌}
use Rattle.xd_reader.specs.declared.news.LinkNews.TheVariants as news
use Rattle.xd_reader.specs.declared.news.LinkStop.TheVariants as link
use Rattle.xd_worker_serve.specs.inner.Seen.{seen}
use Rattle.xd_worker_serve.proofs.Settling.{dropped}
use Rattle.xd_worker_serve.proofs.server.Server.end.Goals as goal

pub returns-then-is_shut-clause-goes : goal.returns-then-is_shut-clause-goes
returns-then-is_shut-clause-goes g c = λ a files s. dropped a _ (seen g.N.Sink.sunk g.N.Sink.faults c.args.self.now) (news.End link.Ended) (sym c.is_shut.ensures ∙ c.if-is_shut.true) s
