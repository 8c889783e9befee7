use Rattle.std.proofs.Common.{sym, ◌∙◌, ap}
use Rattle.xd_run.specs.Books.{Books, marked}
use Rattle.xd_run.specs.Workers.{made_gone}
use Rattle.xd_report.proofs.Kept.{left_kept}
use Rattle.xd_report.proofs.reporter.Reporter.leave.Goals as goal

pub returns : goal.returns
returns c = λ s f. record {
  books = ap (marked (made_gone c.args.worker)) f.books ∙ sym c.mark.ensures;
  mode = f.mode ∙ sym (ap (λ (b : Books). b.settings.mode) c.mark.ensures);
  rota = left_kept c.args.worker s.books.table.rota c.args.self.now.rota.items c.leave.new.rota.items f.rota c.leave.ensures;
  sizes = f.sizes;
}
