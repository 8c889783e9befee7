use Rattle.std.proofs.Common.{subst}
use Rattle.std.specs.Prelude.{Option}
use Rattle.xd_edge.specs.Faults.{Rose}
use Rattle.xd_edge.specs.Files.{Held}
use Rattle.xd_worker_serve.specs.inner.Seen.{seen}
use Rattle.xd_worker_serve.specs.Suites.{FilesGave}
use Rattle.xd_worker_serve.specs.inner.Serves.{beside}
use Rattle.xd_worker_serve.proofs.Hears.{suite_heard}
use Rattle.xd_worker_serve.proofs.server.Server.read_path.Goals as goal

pub returns-clause-read : goal.returns-clause-read
returns-clause-read g c = λ a clock e s.
    suite_heard a (beside (g.F.Files.faults c.args.files.now) clock) (seen g.N.Sink.sunk g.N.Sink.faults c.args.self.now) c.tell.new.self.core c.tell.new.self.is_broken (g.N.Sink.sunk c.tell.new.self.sink) (g.N.Sink.faults c.tell.new.self.sink) c.in_ok-_acts._acts
    c.in_ok-_acts.ensures.writes c.in_ok-_acts.ensures.count c.tell.ensures.later c.args.path.now c.in_ok-suite.suite (g.F.Files.faults c.read_suite.new.files) c.requires.whole
    (subst (λ (h : Option Held). FilesGave h (Rose (g.F.Files.faults c.args.files.now) (g.F.Files.faults c.read_suite.new.files)) c.args.path.now c.in_ok-suite.suite) e c.in_ok-suite.ensures.gave)
    c.read_suite.ensures.later c.in_ok-_acts.ensures.answers s
