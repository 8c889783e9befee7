use Rattle.std.proofs.Common.{ap, sym, ◌∙◌}
use Rattle.std.specs.Prelude.{is_some}
use Rattle.xd_session_rules.proofs.Judging.{head-is, named-in, where-none}
use Rattle.xd_session_books.specs.Books.{books_of}
use Rattle.xd_session_books.specs.Known.{known_by}
use Rattle.xd_session_rules.proofs.state.RunState.head_named.Goals as goal

pub returns-then-not-in_rota-clause-named : goal.returns-then-not-in_rota-clause-named
returns-then-not-in_rota-clause-named g c = where-none c.args.worker c.args.index (books_of c.args.self.now.books) (known_by c.args.self.now.known) (sym c.in_rota.ensures ∙ c.if-not-in_rota.true)

pub returns-then-not-in_rota-clause-only : goal.returns-then-not-in_rota-clause-only
returns-then-not-in_rota-clause-only g c = λ s e d.
    ap is_some (where-none c.args.worker c.args.index (books_of c.args.self.now.books) (known_by c.args.self.now.known) (sym c.in_rota.ensures ∙ c.if-not-in_rota.true))
    ∙ named-in c.args.worker c.args.index s _ _ e d

pub returns-clause-named : goal.returns-clause-named
returns-clause-named g c = head-is c.args.worker c.args.index (books_of c.args.self.now.books) (known_by c.args.self.now.known) _ _ _ _ c.slot_of.ensures c.first_item-first.ensures c.head.ensures c.named.ensures

pub returns-clause-only : goal.returns-clause-only
returns-clause-only g c = λ s e d. ap is_some (head-is c.args.worker c.args.index (books_of c.args.self.now.books) (known_by c.args.self.now.known) _ _ _ _ c.slot_of.ensures c.first_item-first.ensures c.head.ensures c.named.ensures) ∙ named-in c.args.worker c.args.index s _ _ e d
