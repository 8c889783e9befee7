use Rattle.xd_worker_serve.specs.inner.Seen.{seen}
use Rattle.xd_worker_serve.proofs.Hears.{end_heard}
use Rattle.xd_worker_serve.proofs.server.Server.hear_end.Goals as goal

pub returns-clause-heard : goal.returns-clause-heard
returns-clause-heard g c = λ a now s.
    end_heard a now (seen g.N.Sink.sunk g.N.Sink.faults c.args.self.now) c.tell.new.self.core c.tell.new.self.is_broken (g.N.Sink.sunk c.tell.new.self.sink) (g.N.Sink.faults c.tell.new.self.sink) c.in_ok-_acts._acts
    c.in_ok-_acts.ensures.writes c.in_ok-_acts.ensures.count c.tell.ensures.later c.requires.is_open c.in_ok-_acts.ensures.answers s
