use Rattle.xd_run.specs.Books.{on_table}
use Rattle.xd_run.specs.Sharing.{in_books}
use Rattle.xd_run.specs.Table.{joined}
use Rattle.xd_report.proofs.reporter.Reporter.join.Goals as goal

pub returns : goal.returns
returns c = λ s f. c.share_where_full.ensures (in_books (on_table (joined c.args.worker)) s) (c.in_ok-sit.ensures s f)
