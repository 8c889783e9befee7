use Rattle.xd_reader.specs.declared.news.LinkNews.TheVariants as news
use Rattle.xd_worker_serve.specs.inner.Seen.{seen}
use Rattle.xd_worker_serve.specs.Timing.{one_if}
use Rattle.xd_worker_serve.proofs.Items.{odd_end}
use Rattle.xd_worker_serve.proofs.Settling.{uncalled}
use Rattle.xd_worker_serve.proofs.server.Server.take_runner_end.Goals as goal

pub returns-in_default : goal.returns-in_default
returns-in_default g c = record { goes = λ a now s. uncalled a now (seen g.N.Sink.sunk g.N.Sink.faults c.args.self.now) (news.End c.args.stop) (odd_end c.args.stop (one_if c.args.self.now.started) c.in_default.not-OutOfMemory) s }
