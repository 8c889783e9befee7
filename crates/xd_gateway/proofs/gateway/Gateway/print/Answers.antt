use Rattle.xd_frame.specs.Message.{frame}
use Rattle.xd_gateway.proofs.Lines.{printed}
use Rattle.xd_gateway.proofs.gateway.Gateway.print.Goals as goal

pub returns-then-not-self-clause-prints : goal.returns-then-not-self-clause-prints
returns-then-not-self-clause-prints g c =
    printed c.print_frame.result (frame c.args.message.now) _ _ _ _ c.args.self.now.is_broken c.is_err-self.result c.if-not-self.true c.is_err-self.ensures.value
    c.print_frame.ensures.ok c.print_frame.ensures.part c.print_frame.ensures.counted
