use Rattle.std.proofs.Common.{◌++◌, Bool, true, false, subst, OnOk}
use Rattle.std.specs.Prelude.{map, if◌then◌else◌}
use Rattle.xd_worker_tests.specs.declared.line_entry.LineEntry.TheVariants.{Test}
use Rattle.xd_worker_tests.specs.declared.phase.Ending.TheVariants.{BadCommand}
use Rattle.xd_worker_tests.specs.Turns.{line_settled, ended_early}
use Rattle.xd_worker_tests.specs.inner.Stands.{IsCallTurn, Appends}
use Rattle.xd_worker_tests.proofs.Moves.{given_call, can_is, bad_held}
use Rattle.xd_worker_tests.proofs.run_tests.RunTests.give.Goals as goal

pub returns-then-branch : goal.returns-then-branch
returns-then-branch c = λ t serves h.
    let s = c.args.self.now in
    let r = c.append_all.new.self in
    let ns = c.args.tests.now in
    let a : Appends s.stands.items s.queue.items r.stands.items r.queue.items ns true = subst (λ (v : Bool). Appends s.stands.items s.queue.items r.stands.items r.queue.items ns v) c.if-branch.true c.in_ok-append_all.ensures.appends in
    subst (λ (v : Bool). OnOk c.settle.result (IsCallTurn c.settle.new.self c.settle.new.acts (if v then line_settled c.args.room (record t { call = record (t.call) { line = t.call.line ++ map Test ns } }) else ended_early BadCommand t))) (can_is s r t.call ns true serves h.call a)
    (c.settle.ensures (record t { call = record (t.call) { line = t.call.line ++ map Test ns } }) serves
    (record { call = given_call s r t.call ns serves c.in_ok-append_all.ensures.others a h.call; acted = record { asks_are = h.acted.asks_are; run_is = h.acted.run_is } }))

pub returns-else-branch : goal.returns-else-branch
returns-else-branch c = λ t serves h.
    let s = c.args.self.now in
    let r = c.append_all.new.self in
    let ns = c.args.tests.now in
    let a : Appends s.stands.items s.queue.items r.stands.items r.queue.items ns false = subst (λ (v : Bool). Appends s.stands.items s.queue.items r.stands.items r.queue.items ns v) c.if-branch.false c.in_ok-append_all.ensures.appends in
    subst (λ (v : Bool). OnOk c.end_early.result (IsCallTurn c.end_early.new.self c.end_early.new.acts (if v then line_settled c.args.room (record t { call = record (t.call) { line = t.call.line ++ map Test ns } }) else ended_early BadCommand t))) (can_is s r t.call ns false serves h.call a)
    (c.end_early.ensures t (record { held = bad_held s r t.call c.in_ok-append_all.ensures.others a.size h.call.held; acted = h.acted }))
