use Rattle.std.proofs.Common.{refl, ◌∙◌, None}
use Rattle.xd_worker_tests.specs.Line.{number_of_log}
use Rattle.xd_worker_tests.proofs.Ends.{done_call, log_at, two_asks}
use Rattle.xd_worker_tests.proofs.run_tests.RunTests.tell_done.Goals as goal

pub returns : goal.returns
returns c = λ t is h.
    let s = c.args.self.now in
    record {
      call = done_call s (record s { running = None }) t.call c.args.running is refl h.call;
      acted = record {
        asks_are = two_asks c.args.acts.now.asks.items c.request.new.acts.asks.items c.request-2.new.acts.asks.items t.asks c.args.running.log (number_of_log t.call.ended) c.args.running.test c.args.outcome c.args.ms c.in_ok-request.ensures.asks c.in_ok-request-2.ensures.asks (log_at s t.call c.args.running is h.call) h.acted.asks_are;
        run_is = c.in_ok-request-2.ensures.run ∙ c.in_ok-request.ensures.run ∙ h.acted.run_is;
      };
    }
