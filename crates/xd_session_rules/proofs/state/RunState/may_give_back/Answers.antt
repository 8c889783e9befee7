use Rattle.std.proofs.Common.{ap, sym, ◌∙◌, arith}
use Rattle.std.proofs.lemmas.Bool.Decides.{nat_tests}
use Rattle.std.specs.Str.{bytes_eq}
use Rattle.xd_session_books.specs.declared.plan.OpenSteal.{OpenSteal}
use Rattle.xd_session_books.specs.Known.{steal_of}
use Rattle.xd_session_rules.proofs.Judging.{may-answer}
use Rattle.xd_session_rules.proofs.state.RunState.may_give_back.Goals as goal

pub returns-then-are_same : goal.returns-then-are_same
returns-then-are_same g c = λ s a r.
    may-answer s c.args.worker _ c.args.indices.now _ _ _ _ r a.books_are a.known_is c.args.self.now.known.few (ap steal_of c.in-Some.is) (grind (arith, nat_tests, c.if-steal-worker.false))
    (sym c.is_empty.ensures ∙ c.if-is_empty.false) (ap (bytes_eq c.args.indices.now) (sym (c.deref.ensures.value ∙ ap (λ (x : OpenSteal). x.tests) c.steal.view_is)) ∙ sym c.are_same.ensures ∙ c.if-are_same.true) c.are_after_head.ensures
