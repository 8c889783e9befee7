use Rattle.std.proofs.Common.{refl}
use Rattle.xd_local.specs.Outside.{Output}
use Rattle.xd_top.proofs.Completes.{completes}
use Rattle.xd_top.proofs.workers.run_on_workers.Goals as goal

pub returns : goal.returns
returns g c =
    let out : Output = record { sunk = g.O.Sink.sunk c.run_linked.new.out; faults = g.O.Sink.faults c.run_linked.new.out } in
    record {
      did = λ runners clock.
          record {
            own = c.in_ok-end.end.status;
            after = record {
              files = record { held = g.F.Files.held c.args.files.now; faults = g.F.Files.faults c.args.files.now };
              out = out;
              err = record { sunk = g.E.Sink.sunk c.args.err.now; faults = g.E.Sink.faults c.args.err.now };
            };
            run = record {
              run = c.in_ok-end.ensures.ran;
              complete = completes _ _ _ c.requires _ _ _ _ _ _ c.in_ok-end.ensures.ran c.text_law.ensures;
              quiet = refl;
              no_file = refl;
              no_program = refl;
              no_runner = refl;
              no_moment = refl;
            };
            kept = c.in_ok-status.ensures.kept out;
          };
    }
