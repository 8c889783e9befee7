use Rattle.xd_gateway.proofs.Lines.{exits}
use Rattle.xd_gateway.proofs.gateway.Gateway.exit.Goals as goal
use Rattle.xd_gateway.specs.View.{line_of}

pub returns-clause-closes : goal.returns-clause-closes
returns-clause-closes g c =
    exits _ (line_of g.K.Sink.sunk g.K.Sink.faults c.args.self.now) (line_of g.K.Sink.sunk g.K.Sink.faults c.print.new.self) (line_of g.K.Sink.sunk g.K.Sink.faults c.close_sink.new.self)
    (let a = c.of-message.ensures in let b = c.empty.ensures in let d = c.message.view_is in cc) c.print.ensures.prints c.close_sink.ensures.closes
