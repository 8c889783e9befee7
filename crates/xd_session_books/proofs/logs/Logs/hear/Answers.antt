use Rattle.std.proofs.Common.{ap, sym, ◌∙◌}
use Rattle.std.specs.Prelude.{◌==◌, if◌then◌else◌}
use Rattle.xd_journal.specs.declared.news.What.{What}
use Rattle.xd_run.specs.Meaning.{with_news}
use Rattle.xd_session_books.specs.Kept.{log_in, shortened}
use Rattle.xd_session_books.proofs.Places.{closed-where}
use Rattle.xd_session_books.proofs.logs.Logs.hear.Goals as goal

pub returns-in-LogClosed : goal.returns-in-LogClosed
returns-in-LogClosed c = λ short v.
    c.close.ensures v _ ∙ closed-where (v == c.args.worker) (log_in v c.args.self.now) _ (short v)
    ∙ ap (λ (n : What). if v == c.args.worker then shortened (with_news (log_in v c.args.self.now) n) else log_in v c.args.self.now) (sym c.in-LogClosed.is)
