use Rattle.std.proofs.Common.{◌≡◌, ◌≤◌, ap, subst, refl}
use Rattle.xd_worker_tests.specs.declared.run_tests.RunTests.{RunTests}
use Rattle.xd_worker_tests.specs.Line.{number_of_log}
use Rattle.xd_worker_tests.proofs.Moves.{idle_log, started_if, started_is, start_asks}
use Rattle.xd_worker_tests.proofs.run_tests.RunTests.start.Goals as goal

pub returns-in_ok-request : goal.returns-in_ok-request
returns-in_ok-request c = λ t p q serves idle nx qu h.
    let s = c.args.self.now in
    let r = c.advance.new.self in
    let o = c.advance.ensures.others in
    let log : s.next_log ≡ number_of_log t.call.ended = idle_log s.running s.next_log t.call.ended idle h.call.held.log_is in
    started_if c.args.room t c.args.test r _ c.if-room.true (subst (λ n. n ≤ 2147483647) log c.if-self-le2147483647.true)
    (record {
      call = started_is s r t c.args.test p q serves idle nx qu
          (ap (λ (x : RunTests). x.phase) o) (ap (λ (x : RunTests). x.size) o) (ap (λ (x : RunTests). x.waiting.items) o) (ap (λ (x : RunTests). x.running) o) (ap (λ (x : RunTests). x.next_log) o) (ap (λ (x : RunTests). x.sent) o)
          c.advance.ensures.queue c.advance.ensures.none c.advance.ensures.stands h.call;
      ready = λ _ z. c.advance.ensures.none z;
      acted = record {
        asks_are = start_asks c.args.test s.next_log (number_of_log t.call.ended) c.args.acts.now.asks.items c.request.new.acts.asks.items t.asks log c.in_ok-request.ensures.asks h.acted.asks_are;
        run_is = refl;
      };
    })
