use Rattle.std.proofs.Common.{ap, sym, ◌∙◌, List, ℕ, length}
use Rattle.std.specs.Prelude.{◌==◌}
use Rattle.xd_session_books.proofs.Deaths.{no_seat-held}
use Rattle.xd_session_books.proofs.run_books.RunBooks.is_idle.Goals as goal

pub returns-then-not-in_rota : goal.returns-then-not-in_rota
returns-then-not-in_rota c = ap (λ (xs : List ℕ). length xs == 0) (sym (no_seat-held c.args.worker c.args.self.now.ledger.rota (sym c.in_rota.ensures ∙ c.if-not-in_rota.true)))
