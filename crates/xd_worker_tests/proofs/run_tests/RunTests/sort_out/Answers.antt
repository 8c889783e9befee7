use Rattle.std.proofs.Common.{sym, ◌∙◌}
use Rattle.xd_worker_tests.proofs.Asking.{out_mark_at, out_kept_at, out_taken_at}
use Rattle.xd_worker_tests.proofs.run_tests.RunTests.sort_out.Goals as goal

pub returns-in_ok-push-in-Test-clause-sorted : goal.returns-in_ok-push-in-Test-clause-sorted
returns-in_ok-push-in-Test-clause-sorted c = λ ns before queue rest marked h.
    out_taken_at ns before queue c.args.self.now.stands.items c.free.new.self.stands.items c.args.entry c.in-Test.test rest c.args.back.now.items c.push.new.self.items c.args.left.now.items c.in-Test.is (sym (marked.at c.in-Test.test) ∙ sym c.is_marked.ensures ∙ c.if-is_marked.true) c.in_ok-push-in-Test.ensures.items c.free.ensures.stands h

pub returns-in_ok-push_back-in-Test-clause-sorted :
    goal.returns-in_ok-push_back-in-Test-clause-sorted
returns-in_ok-push_back-in-Test-clause-sorted c = λ ns before queue rest marked h.
    out_kept_at ns before queue c.args.self.now.stands.items c.args.entry c.in-Test.test rest c.args.back.now.items c.args.left.now.items c.push_back.new.self.items c.in-Test.is (sym (marked.at c.in-Test.test) ∙ sym c.is_marked.ensures ∙ c.if-is_marked.false) c.in_ok-push_back-in-Test.ensures.items h

pub returns-in_ok-push_back-in-Mark-clause-sorted :
    goal.returns-in_ok-push_back-in-Mark-clause-sorted
returns-in_ok-push_back-in-Mark-clause-sorted c = λ ns before queue rest marked h.
    out_mark_at ns before queue c.args.self.now.stands.items c.args.entry rest c.args.back.now.items c.args.left.now.items c.push_back-in-Mark.new.self.items c.in-Mark.is c.in_ok-push_back-in-Mark.ensures.items h
