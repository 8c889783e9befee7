use Rattle.std.proofs.Common.{ap, sym, ◌∙◌, List, ℕ, length, drop}
use Rattle.xd_run.specs.Numbers.{first_of}
use Rattle.xd_session_books.proofs.Deaths.{no_seat-dead, no_seat-held}
use Rattle.xd_session_books.proofs.seats.die_where.Goals as goal

pub returns-then-not-in_rota-clause-moved : goal.returns-then-not-in_rota-clause-moved
returns-then-not-in_rota-clause-moved c = no_seat-dead c.args.worker c.args.retry c.args.ledger.now (sym c.in_rota.ensures ∙ c.if-not-in_rota.true)

pub returns-then-not-in_rota-clause-head : goal.returns-then-not-in_rota-clause-head
returns-then-not-in_rota-clause-head c = ap first_of (sym (no_seat-held c.args.worker c.args.ledger.now.rota (sym c.in_rota.ensures ∙ c.if-not-in_rota.true)))

pub returns-then-not-in_rota-clause-rest : goal.returns-then-not-in_rota-clause-rest
returns-then-not-in_rota-clause-rest c = ap (λ (xs : List ℕ). length (drop 1 xs)) (sym (no_seat-held c.args.worker c.args.ledger.now.rota (sym c.in_rota.ensures ∙ c.if-not-in_rota.true)))
