use Rattle.xd_worker_serve.specs.inner.Seen.{seen}
use Rattle.xd_worker_serve.proofs.Hears.{output_heard}
use Rattle.xd_worker_serve.proofs.server.Server.hear_output.Goals as goal

pub returns-clause-heard : goal.returns-clause-heard
returns-clause-heard g c = λ a now s.
    output_heard a now (seen g.N.Sink.sunk g.N.Sink.faults c.args.self.now) c.tell.new.self.core c.tell.new.self.is_broken (g.N.Sink.sunk c.tell.new.self.sink) (g.N.Sink.faults c.tell.new.self.sink) c.in_ok-_acts._acts
    c.in_ok-_acts.ensures.writes c.in_ok-_acts.ensures.count c.tell.ensures.later c.args.piece c.requires.runs c.requires.few c.in_ok-_acts.ensures.answers s
