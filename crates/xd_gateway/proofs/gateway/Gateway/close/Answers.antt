use Rattle.xd_gateway.proofs.Saying.{kept_stands}
use Rattle.xd_gateway.proofs.gateway.Gateway.close.Goals as goal

pub returns-clause-stands : goal.returns-clause-stands
returns-clause-stands g c h s = kept_stands c.args.self.now c.close_sink.new.self h c.close_sink.ensures.rest s
