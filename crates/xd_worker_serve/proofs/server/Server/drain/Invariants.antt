use Rattle.std.proofs.Common.{◌≡◌, ℕ, Some}
use Rattle.std.specs.Prelude.{Option}
use Rattle.xd_edge.specs.Sink.{Sunk}
use Rattle.xd_worker_serve.specs.declared.server.Halt.{Halt}
use Rattle.xd_worker_serve.specs.inner.Halts.{Goes, at_sink}
use Rattle.xd_worker_serve.specs.inner.Seen.{seen}
use Rattle.xd_worker_serve.specs.inner.Serves.{Beside, Setting}
use Rattle.xd_worker_serve.proofs.server.Server.drain.Given as goal

abbrev pub invariant-loop : goal.invariant-loop
invariant-loop g l = record {
  goes : (a : Setting) (now : Beside) (halt : Halt) (sunk : Option Sunk) (faults : ℕ) → Goes (Some halt) a now (at_sink sunk faults (seen g.N.Sink.sunk g.N.Sink.faults l.fn.self)) → Goes (Some halt) a now (at_sink sunk faults (seen g.N.Sink.sunk g.N.Sink.faults l.self));
  speaker : l.self.speaker ≡ l.fn.self.speaker;
  orders : l.self.orders ≡ l.fn.self.orders;
}
