use Rattle.std.proofs.Common.{sym, ◌∙◌}
use Rattle.xd_session_books.proofs.Deaths.{none-back, some-seat}
use Rattle.xd_run_laws.proofs.Placed.{empty_of}
use Rattle.xd_session_books.proofs.seats.give_where.Goals as goal

pub returns-then-is_empty : goal.returns-then-is_empty
returns-then-is_empty c = none-back c.args.worker c.args.items.now c.args.ledger.now (empty_of c.args.items.now (sym c.is_empty.ensures ∙ c.if-is_empty.true))

pub give_back-requires-clause-seated : goal.give_back-requires-clause-seated
give_back-requires-clause-seated c = some-seat c.args.worker c.args.items.now c.args.ledger.now (sym c.is_empty.ensures ∙ c.if-is_empty.false) c.requires.holds
