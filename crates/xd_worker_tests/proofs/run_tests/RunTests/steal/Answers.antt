use Rattle.std.proofs.Common.{[], true, sym, subst, ◌∙◌}
use Rattle.xd_worker_tests.specs.Line.{queue, stolen_tests}
use Rattle.xd_worker_tests.specs.Turns.{CallTurn}
use Rattle.xd_worker_tests.specs.inner.Stands.{IsCallTurn}
use Rattle.xd_worker_tests.proofs.Stealing.{asked_is, asks_can, stolen_call, on_ok, asked_missing, asked_marked, marks_at, missing_turn, marked_turn, told_back}
use Rattle.xd_worker_tests.proofs.run_tests.RunTests.steal.Goals as goal

pub returns-in-Missing : goal.returns-in-Missing
returns-in-Missing c = λ t serves h.
    let s = c.args.self.now in
    let ns = c.args.tests.now in
    let a = asked_missing s.stands.items ns c.in_ok-asked_tests.field-0 c.in-Missing.is c.in_ok-asked_tests.ensures in
    let turn = missing_turn t ns (asks_can s t.call ns true h.call a.0) (sym (asked_is s t.call ns serves h.ready a.0 h.call) ∙ a.1) in
    on_ok c.request.result _ _
    (λ e. subst (λ (u : CallTurn). IsCallTurn s c.request.new.acts u) (sym turn)
    (record { call = h.call; ready = h.ready; acted = record { asks_are = told_back c.args.acts.now.asks.items c.request.new.acts.asks.items t.asks c.new-none.result.items [] c.new-none.ensures.items h.acted.asks_are e; run_is = c.request.ensures.run ∙ h.acted.run_is } }))
    c.request.ensures.asks

pub returns-in_ok-back-in-Marked : goal.returns-in_ok-back-in-Marked
returns-in_ok-back-in-Marked c = λ t serves h.
    let s = c.args.self.now in
    let r = c.take_out.new.self in
    let ns = c.args.tests.now in
    let a = asked_marked s.stands.items ns c.in_ok-asked_tests.field-0 c.in-Marked.marks c.in-Marked.is c.in_ok-asked_tests.ensures in
    let turn = marked_turn t ns (asks_can s t.call ns true h.call a.can) (sym (asked_is s t.call ns serves h.ready a.can h.call) ∙ a.queued) in
    let out = stolen_call s r t.call ns c.in_ok-back-in-Marked.back.items serves h.ready c.in_ok-back-in-Marked.ensures.others (c.in_ok-back-in-Marked.ensures.taken ns (marks_at c.deref.result.now c.in-Marked.marks.items ns c.deref.ensures.value a.marked)) h.call in
    on_ok c.request-in-Marked.result _ _
    (λ e. subst (λ (u : CallTurn). IsCallTurn r c.request-in-Marked.new.acts u) (sym turn)
    (record { call = out.0; ready = λ _ z. out.2 z; acted = record { asks_are = told_back c.args.acts.now.asks.items c.request-in-Marked.new.acts.asks.items t.asks c.in_ok-back-in-Marked.back.items (stolen_tests ns (queue t.call)) out.1 h.acted.asks_are e; run_is = c.request-in-Marked.ensures.run ∙ h.acted.run_is } }))
    c.request-in-Marked.ensures.asks
