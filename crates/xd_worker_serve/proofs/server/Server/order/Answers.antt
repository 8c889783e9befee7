use Rattle.std.proofs.Common.{sym, subst, ◌∙◌, ◌<◌, List, ℕ, Some, length}
use Rattle.xd_post.specs.Post.{Ring, put}
use Rattle.xd_worker_serve.specs.inner.Seen.{seen}
use Rattle.xd_worker_serve.specs.inner.Serves.{ServesSoFar, nothing, beside}
use Rattle.xd_edge.specs.Clock.{ticking}
use Rattle.xd_worker_serve.proofs.Settling.{ordered}
use Rattle.xd_worker_serve.proofs.server.Server.order.Goals as goal

pub returns-clause-ordered : goal.returns-clause-ordered
returns-clause-ordered g c = λ a files s.
    let clock = ticking (g.T.Clock.moment c.now.new.self) (g.T.Clock.coming c.now.new.self) in
    let now = beside files clock in
    subst (λ (r : Ring). ServesSoFar a now nothing (record (seen g.N.Sink.sunk g.N.Sink.faults c.args.self.now) { started = Some c.now.result; orders = put c.put.new.self; ring = r })) (sym c.put.ensures.ring)
    (subst (λ (o : List (List (List ℕ))). ServesSoFar a now nothing (record (seen g.N.Sink.sunk g.N.Sink.faults c.args.self.now) { started = Some c.now.result; orders = o })) (sym c.put.ensures.put)
    (ordered a _ (seen g.N.Sink.sunk g.N.Sink.faults c.args.self.now) c.args.test c.now.result c.in_ok-command.command clock
    (record { later = c.now.ensures.later; last = c.now.ensures.last; told = c.now.ensures.told; next = c.now.ensures.next }) c.requires.rests c.requires.runs (λ h t. c.in_ok-command.ensures ∙ c.command.ensures.run h t)
    (subst (λ (l : List (List ℕ)). 0 < length l) (sym c.in_ok-command.ensures) c.command.ensures.program) c.requires.whole s))
