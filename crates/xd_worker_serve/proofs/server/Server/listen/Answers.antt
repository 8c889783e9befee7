use Rattle.std.proofs.Common.{Ok, ap, ◌∙◌, subst}
use Rattle.std.specs.Prelude.{Option}
use Rattle.xd_worker_serve.specs.declared.server.Halt.{Halt}
use Rattle.xd_worker_serve.specs.inner.Halts.{Goes}
use Rattle.xd_worker_serve.specs.inner.Seen.{seen}
use Rattle.xd_worker_serve.specs.inner.Serves.{beside}
use Rattle.xd_edge.specs.Clock.{ticking}
use Rattle.xd_worker_serve.proofs.Dropping.{taken_item}
use Rattle.xd_worker_serve.proofs.server.Server.listen.Goals as goal

pub returns-in-Some-2-clause-goes : goal.returns-in-Some-2-clause-goes
returns-in-Some-2-clause-goes g c = λ a e s.
    subst (λ (h : Option Halt). Goes h a (beside (g.F.Files.faults c.take.new.files) (ticking (g.T.Clock.moment c.take.new.clock) (g.T.Clock.coming c.take.new.clock))) (seen g.N.Sink.sunk g.N.Sink.faults c.take.new.self)) c.in-Some-2.is
    (c.in_ok-halt.ensures.goes a (c.loop.invariant.kept ∙ e) (taken_item a (beside (g.F.Files.faults c.loop.files) (ticking (g.T.Clock.moment c.loop.clock) (g.T.Clock.coming c.loop.clock))) (seen g.N.Sink.sunk g.N.Sink.faults c.loop.self) _ _ _ c.wait-inbox.ensures.takes (c.loop.invariant.goes a e s)))

pub loop-preserved : goal.loop-preserved
loop-preserved g c = record {
  stood = c.in_ok-halt.ensures.stood (ap Ok c.in_default.is);
  goes = λ a e s.
      subst (λ (h : Option Halt). Goes h a (beside (g.F.Files.faults c.take.new.files) (ticking (g.T.Clock.moment c.take.new.clock) (g.T.Clock.coming c.take.new.clock))) (seen g.N.Sink.sunk g.N.Sink.faults c.take.new.self)) c.in_default.is
      (c.in_ok-halt.ensures.goes a (c.loop.invariant.kept ∙ e) (taken_item a (beside (g.F.Files.faults c.loop.files) (ticking (g.T.Clock.moment c.loop.clock) (g.T.Clock.coming c.loop.clock))) (seen g.N.Sink.sunk g.N.Sink.faults c.loop.self) _ _ _ c.wait-inbox.ensures.takes (c.loop.invariant.goes a e s)));
  kept = c.take.ensures.kept ∙ c.loop.invariant.kept;
}
