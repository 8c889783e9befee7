use Rattle.std.proofs.Common.{refl, ap, subst, sym}
use Rattle.xd_worker_serve.specs.inner.Seen.{seen}
use Rattle.xd_worker.specs.Inputs.{is_terminate_kind}
use Rattle.xd_worker_serve.specs.declared.server.Door.{Door}
use Rattle.xd_worker_serve.specs.declared.speaker.Speaker.{Speaker}
use Rattle.xd_worker_serve.specs.inner.Serves.{ServesSoFar, to_start}
use Rattle.xd_worker_serve.proofs.Hears.{message_heard, spoken}
use Rattle.xd_worker_serve.proofs.Settling.{message_ceases, still_ceases}
use Rattle.xd_worker_serve.proofs.server.Server.hear_message.Goals as goal

pub returns-in-Ok-clause-heard : goal.returns-in-Ok-clause-heard
returns-in-Ok-clause-heard g c = λ a now s.
    subst (λ (d : Door). ServesSoFar a now (to_start c.in-Ok.acts.suite) (record (spoken c.hear.new.self.core c.hear.new.self.is_broken (g.N.Sink.sunk c.hear.new.self.sink) (g.N.Sink.faults c.hear.new.self.sink) (seen g.N.Sink.sunk g.N.Sink.faults c.args.self.now)) { door = d })) (sym c.door_after-door.ensures)
    (message_heard a now (seen g.N.Sink.sunk g.N.Sink.faults c.args.self.now) c.hear.new.self.core c.hear.new.self.is_broken (g.N.Sink.sunk c.hear.new.self.sink) (g.N.Sink.faults c.hear.new.self.sink) c.in-Ok.acts
    c.in-Ok.ensures.writes c.in-Ok.ensures.count c.hear.ensures.later c.args.message (is_terminate_kind c.args.message.kind) refl c.requires.is_open c.in-Ok.ensures.answers s)

pub returns-in-Err-clause-refused : goal.returns-in-Err-clause-refused
returns-in-Err-clause-refused g c = λ a now s.
    still_ceases a now (seen g.N.Sink.sunk g.N.Sink.faults c.args.self.now) c.hear.new.self.core c.hear.new.self.is_broken (g.N.Sink.sunk c.hear.new.self.sink) (g.N.Sink.faults c.hear.new.self.sink) c.in-Err.fault
    (ap (λ (x : Speaker g.row.N.Denot). x.is_broken) c.in-Err.ensures.silent)
    (ap (λ (x : Speaker g.row.N.Denot). g.N.Sink.sunk x.sink) c.in-Err.ensures.silent)
    (ap (λ (x : Speaker g.row.N.Denot). g.N.Sink.faults x.sink) c.in-Err.ensures.silent)
    (message_ceases a now (seen g.N.Sink.sunk g.N.Sink.faults c.args.self.now) c.args.message c.in-Err.fault c.requires.is_open c.in-Err.ensures.refused s)
