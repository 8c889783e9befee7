use Rattle.std.proofs.Common.{ℕ, List, subst}
use Rattle.std.specs.Prelude.{Option}
use Rattle.xd_worker_serve.specs.inner.Seen.{seen}
use Rattle.xd_worker_serve.specs.inner.Serves.{ServesSoFar, beside, to_start}
use Rattle.xd_worker_serve.proofs.server.Server.read.Goals as goal

pub returns-in_ok-read_path-in-Some-clause-read : goal.returns-in_ok-read_path-in-Some-clause-read
returns-in_ok-read_path-in-Some-clause-read g c = λ a clock e s.
    c.in_ok-read_path-in-Some.ensures.read a clock e
    (subst (λ (p : Option (List ℕ)). ServesSoFar a (beside (g.F.Files.faults c.args.files.now) clock) (to_start p) (seen g.N.Sink.sunk g.N.Sink.faults c.args.self.now)) c.in-Some.is s)
