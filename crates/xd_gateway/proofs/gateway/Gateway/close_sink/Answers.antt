use Rattle.xd_gateway.proofs.Lines.{closed}
use Rattle.xd_gateway.proofs.gateway.Gateway.close_sink.Goals as goal

pub returns-clause-closes : goal.returns-clause-closes
returns-clause-closes g c =
    closed c.close.result _ _ _ _ c.args.self.now.is_broken c.is_err-self.result c.if-self.false c.is_err-self.ensures.value c.close.ensures.closed c.close.ensures.kept c.close.ensures.counted
