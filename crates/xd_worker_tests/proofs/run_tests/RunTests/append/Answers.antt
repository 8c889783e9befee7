use Rattle.std.proofs.Common.{rules, ◌<◌, length, List, ◌∷◌, [], sym, subst, ◌∙◌, true}
use Rattle.std.specs.Prelude.{slice_set}
use Rattle.xd_worker_tests.specs.declared.line_entry.LineEntry.{LineEntry}
use Rattle.xd_worker_tests.specs.declared.line_entry.Standing.TheVariants.{Queued}
use Rattle.xd_worker_tests.specs.inner.Stands.{Appends}
use Rattle.xd_worker_tests.proofs.Giving.{appends_one, appends_not, free_within}
use Rattle.xd_worker_tests.proofs.run_tests.RunTests.append.Goals as goal

pub returns-then-not-is_free-clause-appends : goal.returns-then-not-is_free-clause-appends
returns-then-not-is_free-clause-appends c = appends_not c.args.self.now.stands.items c.args.self.now.queue.items c.args.test (sym c.is_free.ensures ∙ c.if-not-is_free.true)

pub index_mut-requires : goal.index_mut-requires
index_mut-requires c = let h = free_within c.args.self.now.stands.items c.args.test (sym c.is_free.ensures ∙ c.if-not-is_free.false) in let lt : c.args.test < length c.args.self.now.stands.items = h.0 in search (rules, lt)

pub returns-clause-appends : goal.returns-clause-appends
returns-clause-appends c =
    let s = c.args.self.now in
    subst (λ (q : List LineEntry). Appends s.stands.items s.queue.items (slice_set s.stands.items c.args.test Queued) q (c.args.test ∷ []) true) (sym c.in_ok-push_back.ensures.items)
    (appends_one s.stands.items s.queue.items c.args.test (sym c.is_free.ensures ∙ c.if-not-is_free.false))
