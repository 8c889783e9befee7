use Rattle.xd_gateway.proofs.Saying.{kept_stands}
use Rattle.xd_gateway.proofs.gateway.Gateway.write.Goals as goal

pub returns-clause-stands : goal.returns-clause-stands
returns-clause-stands g c h s = kept_stands c.args.self.now c.print.new.self h c.print.ensures.rest s
