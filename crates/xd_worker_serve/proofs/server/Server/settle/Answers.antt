use Rattle.std.proofs.Common.{◌∙◌, sym, subst}
use Rattle.std.specs.Prelude.{Option, None}
use Rattle.xd_worker_serve.specs.declared.server.Halt.{Halt}
use Rattle.xd_worker_serve.specs.inner.Halts.{Goes}
use Rattle.xd_worker_serve.specs.inner.Seen.{seen}
use Rattle.xd_worker_serve.specs.inner.Serves.{beside}
use Rattle.xd_edge.specs.Clock.{ticking}
use Rattle.xd_worker_serve.proofs.Settling.{broken_ceases, idle_goes, not_none, runs_on}
use Rattle.xd_worker_serve.proofs.server.Server.settle.Goals as goal

pub returns-then-self-clause-goes : goal.returns-then-self-clause-goes
returns-then-self-clause-goes g c = λ a files s. broken_ceases a _ (seen g.N.Sink.sunk g.N.Sink.faults c.args.self.now) None c.if-self.true s

pub order-requires-clause-has_test : goal.order-requires-clause-has_test
order-requires-clause-has_test g c = c.runs.ensures.command c.requires.stood.0 c.in-Some.test c.requires.stood.1 c.in-Some.is

pub returns-in-None-clause-goes : goal.returns-in-None-clause-goes
returns-in-None-clause-goes g c = λ a files s.
    subst (λ (h : Option Halt). Goes h a (beside files (ticking (g.T.Clock.moment c.args.clock.now) (g.T.Clock.coming c.args.clock.now))) (seen g.N.Sink.sunk g.N.Sink.faults c.args.self.now)) (sym c.over.ensures)
    (idle_goes a _ (seen g.N.Sink.sunk g.N.Sink.faults c.args.self.now) c.if-self.false (λ h t. sym (c.runs.ensures.running h t) ∙ c.in-None.is) s)

pub returns-else-is_none-clause-goes : goal.returns-else-is_none-clause-goes
returns-else-is_none-clause-goes g c = λ a files s. runs_on a _ (seen g.N.Sink.sunk g.N.Sink.faults c.args.self.now) c.if-self.false (not_none c.args.self.now.started c.is_none.result c.is_none.ensures c.if-is_none.false) s
