use Rattle.std.proofs.Common.{◌≡◌, List, [], ◌∷◌, ◌++◌, OnOk, Option, Some, sym, ap, subst, ◌∙◌}
use Rattle.std.specs.Prelude.{option_to_list}
use Rattle.xd_journal.specs.declared.news.What.TheVariants.{Finished}
use Rattle.xd_worker_tests.specs.declared.ask.Ask.TheVariants.{Tell}
use Rattle.xd_worker_tests.specs.declared.line_entry.LineEntry.{LineEntry}
use Rattle.xd_worker_tests.specs.declared.line_entry.LineEntry.TheVariants.{Mark}
use Rattle.xd_worker_tests.specs.Line.{left}
use Rattle.xd_worker_tests.specs.Turns.{asking, moved_on}
use Rattle.xd_worker_tests.specs.inner.Stands.{IsCallTurn}
use Rattle.xd_worker_tests.proofs.Moves.{asked, left_is}
use Rattle.xd_worker_tests.proofs.run_tests.RunTests.move_on.Goals as goal

-- the mark is what is left
pub returns-in_ok-request-in-Some-Mark : goal.returns-in_ok-request-in-Some-Mark
returns-in_ok-request-in-Some-Mark c = λ t serves idle h.
    let s = c.args.self.now in
    let is_mark : s.next ≡ Some Mark = (let e = rw c.in-Some-Mark.is at c.in-Some-Mark.field-0-is in c.in-Some-Mark.is ∙ ap Some e) in
    let mark : left t.call ≡ Mark ∷ s.queue.items = left_is s t.call serves idle h.call ∙ ap (λ (x : Option LineEntry). option_to_list x ++ s.queue.items) is_mark in
    subst (λ (l : List LineEntry). OnOk c.finish.result (IsCallTurn c.finish.new.self c.finish.new.acts (moved_on c.args.room l t))) (sym mark)
    (c.finish.ensures (asking (Tell Finished ∷ []) t) (record { held = h.call.held; acted = asked c.args.acts.now c.request.new.acts t (Tell Finished) c.in_ok-request-in-Some-Mark.ensures.asks c.in_ok-request-in-Some-Mark.ensures.run h.acted }))
