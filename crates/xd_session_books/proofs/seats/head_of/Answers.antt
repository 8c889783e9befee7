use Rattle.std.proofs.Common.{ap, sym, ◌∙◌}
use Rattle.xd_run.specs.Numbers.{first_of}
use Rattle.xd_session_books.proofs.Deaths.{no_seat-held}
use Rattle.xd_session_books.proofs.seats.head_of.Goals as goal

pub returns-then-not-in_rota : goal.returns-then-not-in_rota
returns-then-not-in_rota c = ap first_of (sym (no_seat-held c.args.worker c.args.ledger.now.rota (sym c.in_rota.ensures ∙ c.if-not-in_rota.true)))
