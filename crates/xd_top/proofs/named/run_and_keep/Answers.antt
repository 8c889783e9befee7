use Rattle.xd_local.specs.Outside.{Output}
use Rattle.xd_top.proofs.named.run_and_keep.Goals as goal

pub returns-clause-did : goal.returns-clause-did
returns-clause-did g c =
    let out : Output = record { sunk = g.O.Sink.sunk c.run_named.new.out; faults = g.O.Sink.faults c.run_named.new.out } in
    record {
      own = c.in_ok-end.end.status;
      after = record {
        files = record { held = g.F.Files.held c.run_named.new.files; faults = g.F.Files.faults c.run_named.new.files };
        out = out;
        err = record { sunk = g.E.Sink.sunk c.run_named.new.err; faults = g.E.Sink.faults c.run_named.new.err };
      };
      run = c.in_ok-end.ensures.did;
      kept = c.in_ok-status.ensures.kept out;
    }
