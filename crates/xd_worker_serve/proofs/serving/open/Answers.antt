use Rattle.std.specs.Prelude.{not}
use Rattle.xd_post.specs.Post.{ring_of_sender}
use Rattle.xd_worker_serve.specs.Spoke.{voice}
use Rattle.xd_worker_serve.proofs.Beginning.{begun, spoke_none, two_mails}
use Rattle.xd_worker_serve.proofs.serving.open.Goals as goal

pub returns-clause-serves : goal.returns-clause-serves
returns-clause-serves g c = λ held files clock whole.
    begun held (g.N.Sink.sunk c.args.sink) (g.N.Sink.sunk c.begin.result.sink) (g.N.Sink.faults c.args.sink) (g.N.Sink.faults c.begin.result.sink) files clock (ring_of_sender c.in_ok-from_link.from_link) (ring_of_sender c.in_ok-from_programs.from_programs) (ring_of_sender c.in_ok-orders.orders)
    c.begin.result.core c.begin.result.is_broken _ _ whole c.begin.ensures.stands
    (spoke_none held (not c.begin.result.is_broken) (voice (g.N.Sink.sunk c.args.sink) (g.N.Sink.faults c.args.sink) files) (g.N.Sink.sunk c.begin.result.sink) (g.N.Sink.faults c.begin.result.sink) c.begin.ensures.writes c.begin.ensures.count c.begin.ensures.later)
    (two_mails _ _ _ _ _ _ _ _ _ c.new-desk.ensures.mails c.in_ok-add.ensures.added c.in_ok-add-2.ensures.added c.in_ok-from_link.ensures.pair c.in_ok-from_programs.ensures.pair c.in_ok-from_link.ensures.fresh.1 c.in_ok-from_programs.ensures.fresh.1)
    c.in_ok-orders.ensures.fresh.0
