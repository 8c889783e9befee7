use Rattle.std.proofs.Common.{◌++◌, ◌∷◌, [], ◌∙◌, ap, length}
use Rattle.xd_worker_tests.specs.declared.line_entry.LineEntry.TheVariants.{Mark}
use Rattle.xd_worker_tests.proofs.Moves.{lined_call, marked_both}
use Rattle.xd_worker_tests.proofs.Once.{once_mark}
use Rattle.xd_worker_tests.proofs.run_tests.RunTests.shut.Goals as goal

pub returns : goal.returns
returns c = λ t serves h.
    let s = c.args.self.now in
    let r = c.mark.new.self in
    let e = c.in_ok-mark.ensures in
    c.settle.ensures (record t { call = record (t.call) { line = t.call.line ++ Mark ∷ [] } }) serves
    (record {
      call = lined_call s r t.call (Mark ∷ []) serves e.others (ap length e.stands) e.queue
          (λ preceding k. marked_both s.stands.items r.stands.items s.queue.items r.queue.items preceding e.stands e.queue k) (once_mark t.call.line ∙ h.call.held.once_is) h.call;
      acted = record { asks_are = h.acted.asks_are; run_is = h.acted.run_is };
    })
